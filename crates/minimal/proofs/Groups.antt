-- Zeros from a place on. Assumes nothing.
use Prim.Native.Nat.{ℕ, zero, suc, ◌+◌, ◌-◌, ◌*◌, ◌/◌, ◌≤◌, ◌<◌}
use native.Mathlib.Omega.{arith}
use native.Mathlib.Nat.{eq-or-lt_of_le}
use mathlib.Core.Path.{◌≡◌, refl, sym, ap, subst, ◌∙◌}
use mathlib.Core.Bool.{Bool, true, false}
use mathlib.Core.List.{List, [], ◌∷◌, ◌++◌}
use mathlib.Core.Logic.{⊎_elim}
use lib.ListN.{length, get_or, take, drop, get_or-append}
use lib.Seq.{drop-drop}
use Rattle.std.proofs.lemmas.Simd.{get_or-chunk}
use Rattle.std.specs.Int.{w64, from_be_bytes}
use Rattle.std.specs.Simd.{first_chunks}
use lib.Dec.{ltb}
use borrow.Author.Tests.{ltb-true, ltb-false}
use Rattle.minimal.specs.Groups.{ZerosFrom}

-- no zero
pub none : (bs : List ℕ) (at : ℕ) → ZerosFrom bs at 0
none bs at i l h = absurd (omega arith)

-- one zero more
more : (bs : List ℕ) (at count : ℕ) → ZerosFrom bs at count → get_or bs (at + count) 0 ≡ 0 → ZerosFrom bs at (count + 1)
more bs at count z e i l h =
    ⊎_elim (λ (d : i ≡ at + count). subst (λ (j : ℕ). get_or bs j 0 ≡ 0) (sym d) e) (λ (d : i < at + count). z i l d) (eq-or-lt_of_le (omega arith))

-- eight bytes that make 0
eight : (bs : List ℕ) → from_be_bytes w64 bs ≡ 0 → ZerosFrom bs 0 8
eight bs e =
    let four : ZerosFrom bs 0 4 = more bs 0 3 (more bs 0 2 (more bs 0 1 (more bs 0 0 (none bs 0) (omega arith)) (omega arith)) (omega arith)) (omega arith) in
    more bs 0 7 (more bs 0 6 (more bs 0 5 (more bs 0 4 four (omega arith)) (omega arith)) (omega arith)) (omega arith)

-- a chunk of a list
chunk_at : (n i : ℕ) (xs : List ℕ) → i < n → get_or (first_chunks 8 n xs) i [] ≡ take 8 (drop (8 * i) xs)
chunk_at zero i xs l = absurd (omega arith)
chunk_at (suc n) zero xs l = refl
chunk_at (suc n) (suc i) xs l =
    let next : 8 + 8 * i ≡ 8 * suc i = omega arith in
    chunk_at n i (drop 8 xs) (omega arith) ∙ ap (take 8) (drop-drop (8 * i) 8 xs ∙ ap (λ (k : ℕ). drop k xs) next)

-- zeros that begin where others end, or before
pub join : (bs : List ℕ) (a m b n : ℕ) → b ≤ a + m → ZerosFrom bs a m → ZerosFrom bs b n → (i : ℕ) → a ≤ i → i < b + n → get_or bs i 0 ≡ 0
join bs a m b n within first then i l h = go (ltb i (a + m)) refl
  where
    go : (t : Bool) → ltb i (a + m) ≡ t → get_or bs i 0 ≡ 0
    go true e = first i l (ltb-true i (a + m) e)
    go false e = then i (omega (arith, ltb-false i (a + m) e)) h

-- after zeros a chunk that makes 0
pub chunk_passed : (digits front : List ℕ) (last i : ℕ) → digits ≡ front ++ (last ∷ []) → i < length front / 8 → ZerosFrom digits 0 (8 * i)
    → from_be_bytes w64 (get_or (first_chunks 8 (length front / 8) front) i []) ≡ 0 → ZerosFrom digits 0 (8 * i + 8)
chunk_passed digits front last i e l z made = λ k low high. join digits 0 (8 * i) (8 * i) 8 (omega arith) z next k low (omega (arith, high))
  where
    zeros : ZerosFrom (take 8 (drop (8 * i) front)) 0 8
    zeros = eight _ (ap (from_be_bytes w64) (sym (chunk_at (length front / 8) i front l)) ∙ made)

    next : ZerosFrom digits (8 * i) 8
    next k low high =
        let same : 8 * i + (k - 8 * i) ≡ k = omega arith in
        ap (λ (xs : List ℕ). get_or xs k 0) e ∙ get_or-append front (last ∷ []) 0 k (omega arith) ∙ ap (λ (j : ℕ). get_or front j 0) (sym same)
        ∙ sym (get_or-chunk (8 * i) 8 front (k - 8 * i) 0 (omega arith)) ∙ zeros (k - 8 * i) (omega arith) (omega arith)

-- after zeros those that the rest begins with
pub rest_passed : (digits : List ℕ) (passed n count : ℕ) → count ≤ n → ZerosFrom digits 0 passed → ZerosFrom (take n (drop passed digits)) 0 count
    → ZerosFrom digits 0 (passed + count)
rest_passed digits passed n count few z rest = λ k low high. join digits 0 passed passed count (omega arith) z next k low (omega (arith, high))
  where
    next : ZerosFrom digits passed count
    next k low high =
        let same : passed + (k - passed) ≡ k = omega arith in
        ap (λ (j : ℕ). get_or digits j 0) (sym same) ∙ sym (get_or-chunk passed n digits (k - passed) 0 (omega arith))
        ∙ rest (k - passed) (omega arith) (omega arith)
