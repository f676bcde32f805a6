-- Laws for the parts of src/: the test for 4, and the last section's kind. Assumes nothing.
use Prim.Native.Nat.{ℕ, ◌*◌, ◌-◌, ◌≤◌, ◌<◌, min}
use native.Mathlib.Omega.{arith}
use mathlib.Core.Path.{◌≡◌, refl, sym}
use mathlib.Core.Bool.{Bool, true, false, and-eq-true_iff as and-true}
use mathlib.Core.List.{List}
use lib.ListN.{get_or}
use lib.Dec.{ltb, eqb}
use borrow.Author.Tests.{lt-ltb, le-ltb, ltb-true, ltb-false}
use Rattle.adding.specs.Adding.{last_kind_is}

-- 4, as the code tests it: the slice first, then the limit
module _ (a b x : ℕ) where
  pub pass_slice : a < x → true ≡ ltb (min a b) x
  pass_slice h = sym (lt-ltb (min a b) x (omega arith))

  pub pass_limit : x ≤ a → ltb b x ≡ ltb (min a b) x
  pass_limit h = go (ltb b x) refl
    where
      go : (t : Bool) → ltb b x ≡ t → t ≡ ltb (min a b) x
      go true e = sym (lt-ltb (min a b) x (omega (arith, ltb-true b x e)))
      go false e = sym (le-ltb (min a b) x (omega (arith, ltb-false b x e)))

-- the last section's kind
module _ (w n : ℕ) (words : List ℕ) (kind : ℕ) where
  pub kind_none : n ≡ 0 → false ≡ last_kind_is w n words kind
  unfolding last_kind_is
  kind_none z =
      let t : ltb 0 n ≡ false = le-ltb 0 n (omega arith) in
      rw t

  pub kind_last : (n ≡ 0 → ⊥) → eqb (get_or words (w * (n - 1)) 0) kind ≡ last_kind_is w n words kind
  unfolding last_kind_is
  kind_last z =
      let t : ltb 0 n ≡ true = lt-ltb 0 n (omega arith) in
      rw t

  -- there is a last section where its kind was found
  pub kind_some : last_kind_is w n words kind ≡ true → 0 < n
  unfolding last_kind_is
  kind_some e = ltb-true 0 n ((and-true _ _).0 e).0
