-- Laws of the first section, and of some number below another, which are stated by `least_from`. Assumes nothing.
use Prim.Native.Nat.{ℕ, ◌≤◌, ◌<◌}
use native.Mathlib.Omega.{arith}
use mathlib.Core.Path.{◌≡◌, refl, sym, ◌∙◌}
use mathlib.Core.Bool.{Bool, true, false, cond, true≢false}
use mathlib.Core.Logic.{◌↔◌, ◌⊎◌, inl, inr}
use mathlib.Core.List.{List}
use lib.Dec.{ltb}
use lib.ListN.{length}
use borrow.Author.Tests.{ltb-false, ltb-true, lt-ltb, le-ltb}
use Rattle.slices.specs.First.{least_from, IsLeast}
use Rattle.slices.proofs.First.{least_from_least, search_hit, search_done}
use Rattle.records.specs.Sections.{Section}
use Rattle.layout.specs.Conditions.{first, some_below, IsFirst, Never}

module _ (ss : List Section) (test : ℕ → Bool) where
  -- the first section as the least number
  found : IsLeast test (length ss) 0 (first ss test)
  found = least_from_least test (length ss) 0

  -- the law of a first section: it is i, below the length, exactly when i has the property and none before it
  pub first_law : (i : ℕ) → ((first ss test ≡ i) × (i < length ss)) ↔ IsFirst ss test i
  first_law i = (there, λ h. (sym (search_hit test (length ss) i h.2 h.0 h.1), h.0))
    where
      there : (first ss test ≡ i) × (i < length ss) → IsFirst ss test i
      there h =
          let holds : test (first ss test) ≡ true = found.holds (omega (arith, h.0, h.1)) in
          (h.1, rw h.0 at holds, λ j l. found.none j (omega arith) (omega (arith, h.0)))

  -- there is none exactly when no section has the property
  pub never_law : (first ss test ≡ length ss) ↔ Never ss test
  never_law = (λ e i l. found.none i (omega arith) (omega arith), λ h. sym (search_done test (length ss) (length ss) h (omega arith) (omega arith)))

  -- the first is not below the length
  none_first : length ss ≤ first ss test → Never ss test
  none_first l = never_law.0 (omega (arith, found.within))

  -- so where a search over k sections found none
  pub none_found : (i k : ℕ) → i ≡ first ss test → length ss ≡ k → k ≤ i → Never ss test
  none_found i k e d l = none_first (omega arith)

  -- there is a first, or none
  pub first_or_never : ((i : ℕ) × IsFirst ss test i) ⊎ Never ss test
  first_or_never = go (ltb (first ss test) (length ss)) refl
    where
      go : (q : Bool) → ltb (first ss test) (length ss) ≡ q → ((i : ℕ) × IsFirst ss test i) ⊎ Never ss test
      go true e = inl (first ss test, (first_law (first ss test)).0 (refl, ltb-true (first ss test) (length ss) e))
      go false e = inr (none_first (ltb-false (first ss test) (length ss) e))

  -- a choice by it: what goes with the first section that has the property
  pub first_hit : {A : Type 0} (here : ℕ → A) (next : A) (i : ℕ) → IsFirst ss test i → cond (ltb (first ss test) (length ss)) (here (first ss test)) next ≡ here i
  first_hit here next i h =
      let q = (first_law i).1 h in
      rw (q.0, lt-ltb i (length ss) q.1)

  -- or, if there is none, what comes next
  pub first_miss : {A : Type 0} (here : ℕ → A) (next : A) → Never ss test → cond (ltb (first ss test) (length ss)) (here (first ss test)) next ≡ next
  first_miss here next h =
      let q = never_law.1 h in
      rw (le-ltb (first ss test) (length ss) (omega arith))

-- no number below n has a property
pub none_below : (n : ℕ) (test : ℕ → Bool) (j : ℕ) → some_below n test ≡ false → j < n → test j ≡ false
none_below n test j h l = (least_from_least test n 0).none j (omega arith) (omega (arith, ltb-false (least_from test n 0) n h))

-- some number below n has a property exactly when there is one
pub some_below_lem : (n : ℕ) (test : ℕ → Bool) → (some_below n test ≡ true) ↔ ((j : ℕ) × (j < n) × (test j ≡ true))
some_below_lem n test = (there, λ q. go (some_below n test) refl q.0 q.1 q.2)
  where
    there : some_below n test ≡ true → (j : ℕ) × (j < n) × (test j ≡ true)
    there h =
        let l : least_from test n 0 < n = ltb-true (least_from test n 0) n h in
        (least_from test n 0, l, (least_from_least test n 0).holds (omega arith))

    go : (b : Bool) → some_below n test ≡ b → (j : ℕ) → j < n → test j ≡ true → b ≡ true
    go true e j l h = refl
    go false e j l h = absurd (true≢false (sym h ∙ none_below n test j e l))
