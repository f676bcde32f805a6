-- The Rust's text of numbers, bytes, marks, data and references is the listing's. Assumes nothing.
use Rattle.std.specs.Prelude.{None, Option, Some}
use Prim.Native.Nat.{ℕ, zero, suc, ◌+◌, ◌-◌, ◌/◌, ◌%◌, ◌≤◌}
use native.Mathlib.Omega.{arith}
use mathlib.Core.Path.{◌≡◌, refl, sym, ◌∙◌}
use mathlib.Core.Bool.{Bool, true, false, cond}
use mathlib.Core.List.{List, [], ◌∷◌, ◌++◌, append_assoc, append-nil}
use lib.Dec.{ltb}
use lib.ListN.{length}
use borrow.Author.Tests.{ltb-false}
use Rattle.units.specs.declared.Span.{Span}
use Rattle.units.specs.declared.MarkId.{MarkId}
use Rattle.units.specs.declared.RefSize.{RefSize}
use Rattle.units.specs.declared.RefSize.TheVariants.{S1, S2, S3, S4}
use Rattle.units.specs.declared.MarkReference.{MarkReference}
use Rattle.units.specs.declared.MarkReference.TheVariants.{Direct, Delta}
use Rattle.units.specs.declared.AsmReference.{AsmReference}
use Rattle.units.specs.Reference.{ref_size_bytes}
use Rattle.opcodes.specs.Text.{as_bytes}
use Rattle.lines.specs.Decimal.{digit, last_digits, decimal}
use Rattle.lines.specs.Lines as ours
use Rattle.rust_model.specs.Sections.{as_u32}
use Rattle.rust_model.specs.Display as rust

-- ---- decimal

-- the digits in front of those that stand already
digits_same : (fuel v : ℕ) (after : List ℕ) → rust.digits_before fuel v after ≡ last_digits fuel v ++ after
unfolding rust.digits_before last_digits
digits_same zero v after = refl
digits_same (suc fuel) v after = go (ltb v 10) (digits_same fuel (v / 10) (digit (v % 10) ∷ after))
  where
    go : (b : Bool)
        → rust.digits_before fuel (v / 10) (digit (v % 10) ∷ after) ≡ last_digits fuel (v / 10) ++ (digit (v % 10) ∷ after)
        → cond b (digit v ∷ after) (rust.digits_before fuel (v / 10) (digit (v % 10) ∷ after))
        ≡ cond b (digit v ∷ []) (last_digits fuel (v / 10) ++ (digit (v % 10) ∷ [])) ++ after
    go true rest = refl
    go false rest = rest ∙ sym (append_assoc (last_digits fuel (v / 10)) (digit (v % 10) ∷ []) after)

-- a number
pub displayed_same : (v : ℕ) → rust.displayed v ≡ decimal v
unfolding rust.displayed decimal
displayed_same v = digits_same (suc v) v [] ∙ append-nil (last_digits (suc v) v)

-- ---- hex

-- a digit
hex_digit_same : (d : ℕ) → rust.hex_digit d ≡ ours.hex_digit d
unfolding rust.hex_digit ours.hex_digit
hex_digit_same d = go (ltb d 10) refl
  where
    go : (b : Bool) → ltb d 10 ≡ b → cond b (48 + d) (97 + (d - 10)) ≡ cond b (48 + d) (87 + d)
    go true e = refl
    go false e = let l : 10 ≤ d = ltb-false d 10 e in omega arith

-- bytes
pub hex_same : (bs : List ℕ) → rust.hex_bytes bs ≡ ours.hex bs
unfolding rust.hex_bytes ours.hex
hex_same [] = refl
hex_same (b ∷ bs) = rw (hex_digit_same (b / 16), hex_digit_same (b % 16), hex_same bs)

-- ---- lines

-- `.mark7`
mark_name_same : (n : ℕ) → as_bytes ".mark" ++ rust.displayed n ≡ ours.mark_name n
unfolding ours.mark_name
mark_name_same n = rw (displayed_same n)

-- a mark's
pub mark_same : (n : ℕ) → rust.mark_line n ≡ ours.mark_line n
unfolding rust.mark_line ours.mark_line
mark_same n = rw (mark_name_same n)

-- data's
pub data_same : (bs : List ℕ) → rust.data_line bs ≡ ours.data_line bs
unfolding rust.data_line ours.data_line
data_same bs = rw (hex_same bs, displayed_same (length bs))

-- ---- references

-- the literals that the Rust parts otherwise
open_mark : as_bytes "(.mark" ≡ as_bytes "(" ++ as_bytes ".mark"
unfolding as_bytes
open_mark = refl

minus_mark : as_bytes " - .mark" ≡ as_bytes " - " ++ as_bytes ".mark"
unfolding as_bytes
minus_mark = refl

-- a delta
delta_same : (d : Span MarkId) → rust.ref_str (Delta d) ≡ ours.delta_text d
unfolding ours.delta_text ours.mark_name
delta_same d = rw (displayed_same d.end.0, displayed_same d.start.0, open_mark, minus_mark) (simp append_assoc)

marks_same : (m : MarkReference) → rust.ref_str m ≡ ours.marks_text m
marks_same (Direct id) = mark_name_same id.0
marks_same (Delta d) = delta_same d

ref_size_same : (s : RefSize) → as_u32 s ≡ ref_size_bytes s
ref_size_same S1 = refl
ref_size_same S2 = refl
ref_size_same S3 = refl
ref_size_same S4 = refl

size_same : (s : Option RefSize) → rust.size_str s ≡ ours.size_text s
size_same None = refl
size_same (Some s) = rw (displayed_same (as_u32 s), ref_size_same s)

pushed_same : (b : Bool) → rust.push_or_raw b ≡ ours.push_text b
pushed_same true = refl
pushed_same false = refl

-- a reference's
pub reference_same : (r : AsmReference) → rust.fmt_mark_ref r ≡ ours.reference_line r
unfolding rust.fmt_mark_ref ours.reference_line
reference_same r = rw (pushed_same r.pushed, marks_same r.mark_ref, size_same r.set_size)
