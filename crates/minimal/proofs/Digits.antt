-- A minimal push out of a number's bytes, highest first: the opcode before the bytes that follow the leading zeros. Assumes nothing.
use Prim.Native.Nat.{ℕ, suc, ◌+◌, ◌-◌, ◌≤◌, ◌<◌}
use native.Mathlib.Omega.{arith}
use native.Mathlib.Nat.{add-zero, div-div-eq-div-mul}
use mathlib.Core.Path.{◌≡◌, refl, sym, ◌∙◌, ap}
use mathlib.Core.Bool.{Bool, true, false}
use mathlib.Core.List.{List, [], ◌∷◌, ◌++◌}
use mathlib.Core.Logic.{◌⊎◌, inl, inr}
use lib.ListN.{length, get_or, take, drop, set, length-append, length-drop, drop_of_length-le}
use lib.Seq.{drop-cons, drop-set-add, drop-append-le, take_at, take_all}
use lib.Dec.{ltb}
use borrow.Author.Tests.{ltb-true, ltb-false}
use Rattle.std.specs.Int.{w64, to_be_bytes}
use Rattle.units.specs.Numbers.{number, big_endian}
use Rattle.units.proofs.BigEndian.{AllBytes, least_bytes_leading, big_endian_leading}
use Rattle.evm.specs.Opcodes.{push_op}
use Rattle.calls.specs.Calls.{minimal_push}
use Rattle.minimal.specs.Zeros.{LeadingZeros}

-- a number's eight bytes
pub eight_bytes : (v : ℕ) → to_be_bytes w64 v ≡ big_endian 8 v
unfolding big_endian
eight_bytes v = sym (simp div-div-eq-div-mul)

-- the opcode in its place before the bytes that it pushes
pub opcode_before : (digits rest : List ℕ) (k op : ℕ) → k ≤ length digits
    → take (length digits + 1 - k) (drop k (set (0 ∷ (digits ++ rest)) k op)) ≡ op ∷ drop k digits
opcode_before digits rest k op h =
    let l : List ℕ = 0 ∷ (digits ++ rest) in
    let small : k < length l = omega (arith, length-append digits rest) in
    let stored : drop k (set l k op) ≡ op ∷ drop k (digits ++ rest) =
    ap (λ (j : ℕ). drop k (set l j op)) (sym (add-zero k)) ∙ drop-set-add k l 0 op
    ∙ ap (λ (x : List ℕ). set x 0 op) (drop-cons l k 0 small) in
    let more : length digits + 1 - k ≡ suc (length digits - k) = omega arith in
    rw (stored, more, drop-append-le k digits rest h)
    (ap (λ (x : List ℕ). op ∷ x) (take_at (drop k digits) rest (length digits - k) (length-drop k digits)))

-- the push of a number that begins with k zeros
module _ (digits : List ℕ) (k : ℕ) (few : length digits ≤ 32) (all : AllBytes digits) (z : LeadingZeros digits k) where
  ends : (k ≡ length digits) ⊎ (get_or digits k 0 ≡ 0 → ⊥)
  ends = go (ltb k (length digits)) refl
    where
      go : (t : Bool) → ltb k (length digits) ≡ t → (k ≡ length digits) ⊎ (get_or digits k 0 ≡ 0 → ⊥)
      go true h = inr (z.ends (ltb-true k (length digits) h))
      go false h = inl (omega (arith, ltb-false k (length digits) h, z.within))

  pub minimal_of : push_op (length digits - k) ∷ drop k digits ≡ minimal_push (number digits)
  unfolding minimal_push
  minimal_of =
      rw (least_bytes_leading 32 k digits all few z.zeros ends)
      (ap (λ (x : List ℕ). push_op (length digits - k) ∷ x) (sym (big_endian_leading k digits all z.zeros)))

  -- the same as an instruction, the part after the zeros being its immediate
  pub instruction_of : (op : ℕ) → op ≡ push_op (length digits - k) → op ∷ take (length digits - k) (drop k digits) ≡ minimal_push (number digits)
  instruction_of op e =
      ap (λ (x : List ℕ). op ∷ x) (take_all (length digits - k) (drop k digits) (omega (arith, length-drop k digits)))
      ∙ ap (λ (o : ℕ). o ∷ drop k digits) e ∙ minimal_of

  -- of zeros alone it is PUSH0
  pub push_zero : k ≡ length digits → push_op 0 ∷ [] ≡ minimal_push (number digits)
  push_zero e =
      ap (λ (x : List ℕ). push_op 0 ∷ x) (sym (drop_of_length-le digits {i = k} (omega (arith, e))))
      ∙ ap (λ (o : ℕ). o ∷ drop k digits) (omega (arith, e)) ∙ minimal_of
