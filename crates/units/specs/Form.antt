-- Document 01, module 2: a reference's form as one number, 'set size (0 unsized) plus 8 if pushed'; and the width rule by that number.
-- What is said of every number is, of a reference's form, what Reference says: laws in proofs/Forms. Assumes nothing.
use Rattle.std.specs.Prelude.{ℕ, ◌+◌, ◌%◌, ◌/◌, Bool, true, false, cond, ◌&&◌, eqb, ltb, None, Option, Some}
use Rattle.units.specs.declared.RefSize.{RefSize}
use Rattle.units.specs.Numbers.{held_bytes}
use Rattle.units.specs.Reference.{ref_size_bytes}
use Rattle.units.specs.declared.AsmReference.{AsmReference}

-- a set size as a number, 0 if unsized
abbrev pub size_number : Option RefSize → ℕ
size_number None = 0
size_number (Some s) = ref_size_bytes s

-- plus 8 if pushed
abbrev pub pushed_number : Bool → ℕ
pushed_number true = 8
pushed_number false = 0

-- a reference's form
abbrev pub form_number : AsmReference → ℕ
form_number r = size_number r.set_size + pushed_number r.pushed

-- the least size: the set size and the byte before the value, or 1
unfoldable pub least_by_form : ℕ → ℕ
least_by_form f = cond (eqb (f % 8) 0) 1 (f % 8 + f / 8)

-- the bytes that a value is written in: the set size, or the held bytes
unfoldable pub count_by_form : ℕ → ℕ → ℕ
count_by_form f v = cond (eqb (f % 8) 0) (held_bytes v) (f % 8)

-- pushed, unsized and 0
unfoldable pub push_zero_by_form : ℕ → ℕ → Bool
push_zero_by_form f v = eqb f 8 && eqb v 0

-- the size for a value, or too narrow: unsized, then sized
unfoldable pub size_by_form : ℕ → ℕ → Option ℕ
size_by_form f v =
    cond (eqb (f % 8) 0)
    (cond (eqb v 0) (Some 1) (Some (held_bytes v + f / 8)))
    (cond (ltb (f % 8) (held_bytes v)) None (Some (f % 8 + f / 8)))
