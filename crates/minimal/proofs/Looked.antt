-- The bytes that a scan looks at, by the zeros that it finds. Assumes nothing.
use Prim.Native.Nat.{ℕ, zero, suc, min, ◌<◌}
use native.Mathlib.Omega.{arith}
use mathlib.Core.Path.{◌≡◌, refl, ap, ◌∙◌}
use mathlib.Core.List.{List, [], ◌∷◌, ◌++◌}
use lib.ListN.{length, replicate}
use borrow.Author.Tests.{ne_eqb}
use Rattle.minimal.specs.Zeros.{LeadingZeros, looked}

-- a zero is looked at, and then the next byte
looked_zero : (bs : List ℕ) → looked (0 ∷ bs) ≡ suc (looked bs)
unfolding looked
looked_zero bs = refl

-- another byte is the last one
looked_other : (b : ℕ) (bs : List ℕ) → (b ≡ 0 → ⊥) → looked (b ∷ bs) ≡ 1
unfolding looked
looked_other b bs other = rw (ne_eqb b 0 other)

-- the zeros of what follows a first byte of them
rest : (b : ℕ) (bs : List ℕ) (r : ℕ) → LeadingZeros (b ∷ bs) (suc r) → LeadingZeros bs r
rest b bs r z = record { within = omega (arith, z.within); zeros = λ i l. z.zeros (suc i) (omega arith); ends = λ l e. z.ends (omega arith) e }

-- up to and with the first nonzero byte, or all of them
pub looked_bytes : (bs : List ℕ) (r : ℕ) → LeadingZeros bs r → looked bs ≡ min (suc r) (length bs)
unfolding looked
looked_bytes [] r z = omega arith
looked_bytes (b ∷ bs) zero z = looked_other b bs (λ e. z.ends (omega arith) e) ∙ omega arith
looked_bytes (b ∷ bs) (suc r) z =
    let after : looked bs ≡ min (suc r) (length bs) = looked_bytes bs r (rest b bs r z) in
    ap (λ (x : ℕ). looked (x ∷ bs)) (z.zeros 0 (omega arith)) ∙ looked_zero bs ∙ omega (arith, after)

-- no other count is smaller
not_before : (bs : List ℕ) (r s : ℕ) → LeadingZeros bs r → LeadingZeros bs s → r < s → ⊥
not_before bs r s a b l = a.ends (omega (arith, b.within)) (b.zeros r l)

-- a list begins with one count of zeros
pub zeros_same : (bs : List ℕ) (r s : ℕ) → LeadingZeros bs r → LeadingZeros bs s → r ≡ s
zeros_same bs r s a b = omega (arith, not_before bs r s a b, not_before bs s r b a)

-- a zero word: all 32
pub zero_word : looked (replicate 32 0) ≡ 32
unfolding looked
zero_word = refl

-- an address as a word, its first byte not 0: 12 zeros, and then that byte
pub address : (b : ℕ) (bs : List ℕ) → (b ≡ 0 → ⊥) → looked (replicate 12 0 ++ (b ∷ bs)) ≡ 13
unfolding looked
address b bs other = rw (ne_eqb b 0 other)
