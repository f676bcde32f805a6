-- Document 01, module 1: a reference, its least size, its size for a value, and when its set size is too narrow for it.
-- This is the width rule. Assumes nothing.
use Rattle.std.specs.Prelude.{ℕ, ◌+◌, Bool, true, false, cond, ltb, eqb, None, Option, Some}
use Rattle.units.specs.Numbers.{held_bytes}
use Rattle.units.specs.declared.RefSize.{RefSize}
use Rattle.units.specs.declared.RefSize.TheVariants.{S1, S2, S3, S4}
use Rattle.units.specs.declared.MarkReference.{MarkReference}
use Rattle.units.specs.declared.AsmReference.{AsmReference}

-- a set size is 1 to 4 bytes
abbrev pub ref_size_bytes : RefSize → ℕ
ref_size_bytes S1 = 1
ref_size_bytes S2 = 2
ref_size_bytes S3 = 3
ref_size_bytes S4 = 4

-- the byte before the value if the reference is pushed
abbrev pub op_bytes : Bool → ℕ
op_bytes true = 1
op_bytes false = 0

-- `new_direct`, `new_delta` and `pushed` make an unsized pushed reference
abbrev pub unsized_pushed : MarkReference → AsmReference
unsized_pushed m = record { mark_ref = m; set_size = None; pushed = true }

-- 'A set size below the held bytes is too narrow.'
abbrev pub narrow : Option RefSize → ℕ → Bool
narrow (Some s) v = ltb (ref_size_bytes s) (held_bytes v)
narrow None v = false

-- so of a reference, for value v
unfoldable pub too_narrow : AsmReference → ℕ → Bool
too_narrow r v = narrow r.set_size v

-- 'Least sizes: .. sized references their size, unsized 1.'
abbrev pub least : Option RefSize → Bool → ℕ
least (Some s) p = ref_size_bytes s + op_bytes p
least None p = 1

-- the least size of a reference
unfoldable pub least_size : AsmReference → ℕ
least_size r = least r.set_size r.pushed

-- the size for value v: sized, the set size, plus 1 if pushed; unsized pushed, 1 for v = 0, else 1 + held bytes; unsized raw, held bytes
abbrev pub width : Option RefSize → Bool → ℕ → ℕ
width (Some s) p v = ref_size_bytes s + op_bytes p
width None true v = cond (eqb v 0) 1 (held_bytes v + 1)
width None false v = held_bytes v

-- a reference's size for value v
unfoldable pub size : AsmReference → ℕ → ℕ
size r v = width r.set_size r.pushed v

-- the bytes that a value is written in: the set size, or the held bytes
abbrev pub byte_count : Option RefSize → ℕ → ℕ
byte_count (Some s) v = ref_size_bytes s
byte_count None v = held_bytes v

-- 'pushed, unsized and 0'
abbrev pub is_push_zero : Option RefSize → Bool → ℕ → Bool
is_push_zero (Some s) pushed v = false
is_push_zero None true v = eqb v 0
is_push_zero None false v = false

-- the size for a value, or too narrow
unfoldable pub size_for : AsmReference → ℕ → Option ℕ
size_for r v = cond (too_narrow r v) None (Some (size r v))
