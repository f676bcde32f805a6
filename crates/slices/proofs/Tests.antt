-- What a computed test tells, on plain Booleans. Assumes nothing.
use mathlib.Core.Path.{◌≡◌, refl, sym, ◌∙◌}
use mathlib.Core.Bool.{Bool, true, false, cond, ◌&&◌, ◌||◌, true≢false, false≢true}
use mathlib.Core.Logic.{◌↔◌, ◌⊎◌, inl, inr, ⊎_elim}

-- a test and its opposite
pub clash {ℓ} : {A : Type ℓ} (b : Bool) → b ≡ true → b ≡ false → A
clash b t f = absurd (true≢false (sym t ∙ f))

-- neither of two tests holds
pub or-false : (a b : Bool) → (a || b) ≡ false → (a ≡ false) × (b ≡ false)
or-false true b e = absurd (true≢false e)
or-false false b e = (refl, e)

-- a conjunction that fails, with its first part true
pub and-false : (a b : Bool) → (a && b) ≡ false → a ≡ true → b ≡ false
and-false true b e t = e
and-false false b e t = absurd (false≢true t)

-- the same with its second part true
pub and_false_left : (a b : Bool) → (a && b) ≡ false → b ≡ true → a ≡ false
and_false_left true b e t = absurd (true≢false (sym t ∙ e))
and_false_left false b e t = refl

-- a conjunction fails if its second part does where the first holds
pub false_and : (a b : Bool) → (a ≡ true → b ≡ false) → (a && b) ≡ false
false_and true b f = f refl
false_and false b f = refl

-- a choice by a test whose value is known
pub cond_true {ℓ} : {A : Type ℓ} (b : Bool) (x y : A) → b ≡ true → cond b x y ≡ x
cond_true b x y e = rw e

pub cond_false {ℓ} : {A : Type ℓ} (b : Bool) (x y : A) → b ≡ false → cond b x y ≡ y
cond_false b x y e = rw e

-- one case of two, put otherwise
pub or_iff {ℓ κ κ'} : {A : Type ℓ} {B : Type κ} {C : Type κ'} → B ↔ C → (A ⊎ B) ↔ (A ⊎ C)
or_iff h = (⊎_elim inl (λ b. inr (h.0 b)), ⊎_elim inl (λ c. inr (h.1 c)))

-- what holds of both choices holds of the chosen
pub cond_case {ℓ κ} : {A : Type ℓ} (P : A → Type κ) (b : Bool) (x y : A) → (b ≡ true → P x) → (b ≡ false → P y) → P (cond b x y)
cond_case P true x y t f = t refl
cond_case P false x y t f = f refl
