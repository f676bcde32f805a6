-- The law of `least_from`: it is the least number that passes the test, and the only one; and of a search that comes to it. Assumes nothing.
use Prim.Native.Nat.{ℕ, zero, suc, ◌+◌, ◌≤◌, ◌<◌}
use native.Mathlib.Nat.{le_refl, eq-or-lt_of_le}
use native.Mathlib.Omega.{arith}
use mathlib.Core.Path.{◌≡◌, refl, sym, subst}
use mathlib.Core.Bool.{Bool, true, false, cond}
use mathlib.Core.Logic.{⊎_elim}
use Rattle.slices.specs.First.{least_from, IsLeast}
use Rattle.slices.proofs.Tests.{clash}

-- the test holds of the first number
first : (test : ℕ → Bool) (k i : ℕ) → test i ≡ true → IsLeast test (suc k) i i
first test k i t = record { above = le_refl i; within = omega arith; none = λ j a b. absurd (omega arith); holds = λ _. t }

-- it does not
later : (test : ℕ → Bool) (k i m : ℕ) → test i ≡ false → IsLeast test k (suc i) m → IsLeast test (suc k) i m
later test k i m f r =
    record {
      above = omega arith;
      within = omega arith;
      none = λ j a b. ⊎_elim (λ (e : i ≡ j). subst (λ (x : ℕ). test x ≡ false) e f) (λ (l : i < j). r.none j l b) (eq-or-lt_of_le a);
      holds = λ h. r.holds (omega arith);
    }

-- `least_from` is the least number that the test holds of
pub least_from_least : (test : ℕ → Bool) (k i : ℕ) → IsLeast test k i (least_from test k i)
unfolding least_from
least_from_least test zero i =
    record { above = le_refl i; within = omega arith; none = λ j a b. absurd (omega arith); holds = λ h. absurd (omega arith) }
least_from_least test (suc k) i = go (test i) refl (least_from_least test k (suc i))
  where
    go : (b : Bool) → test i ≡ b → IsLeast test k (suc i) (least_from test k (suc i)) → IsLeast test (suc k) i (cond b i (least_from test k (suc i)))
    go true e r = first test k i e
    go false e r = later test k i (least_from test k (suc i)) e r

-- a least number is at most any other
not_below : (test : ℕ → Bool) (k i m l : ℕ) → IsLeast test k i m → IsLeast test k i l → ¬ (m < l)
not_below test k i m l a b h = clash (test m) (a.holds (omega arith)) (b.none m a.above h)

-- two least numbers are the same
pub least_same : (test : ℕ → Bool) (k i m l : ℕ) → IsLeast test k i m → IsLeast test k i l → m ≡ l
least_same test k i m l a b = omega (arith, not_below test k i m l a b, not_below test k i l m b a)

-- ---- a search from 0 on, which has come to i

-- the test holds of none before i
abbrev pub NoneBefore : (ℕ → Bool) → ℕ → Type 0
NoneBefore test i = (j : ℕ) → j < i → test j ≡ false

pub search_start : (test : ℕ → Bool) → NoneBefore test 0
search_start test j l = absurd (omega arith)

-- nor of i
pub search_next : (test : ℕ → Bool) (i : ℕ) → NoneBefore test i → test i ≡ false → NoneBefore test (i + 1)
search_next test i h e j l = ⊎_elim (λ (d : j ≡ i). subst (λ (x : ℕ). test x ≡ false) (sym d) e) (λ (d : j < i). h j d) (eq-or-lt_of_le (omega arith))

-- it holds of i: the first of n
pub search_hit : (test : ℕ → Bool) (n i : ℕ) → NoneBefore test i → i < n → test i ≡ true → i ≡ least_from test n 0
search_hit test n i h l e =
    least_same test n 0 i (least_from test n 0) (record { above = omega arith; within = omega arith; none = λ j a b. h j b; holds = λ _. e }) (least_from_least test n 0)

-- none of the n is left
pub search_done : (test : ℕ → Bool) (n i : ℕ) → NoneBefore test i → i ≤ n → n ≤ i → i ≡ least_from test n 0
search_done test n i h l d =
    least_same test n 0 i (least_from test n 0) (record { above = omega arith; within = omega arith; none = λ j a b. h j b; holds = λ k. absurd (omega arith) })
    (least_from_least test n 0)
