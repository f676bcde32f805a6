-- The theory over any width rule: least sizes, sizes that grow with the value, at least the least and at most that and a growth, by no
-- more than a step while the value stays within a reach, and the widths that a layout may have, which are at least the size. What a pass
-- keeps, and what it comes to. Assumes nothing.
use Prim.Native.Nat.{ℕ, ◌+◌, ◌≤◌}
use native.Mathlib.Omega.{arith}
use mathlib.Core.Path.{◌≡◌, refl, subst}
use mathlib.Core.Bool.{Bool}
use mathlib.Core.List.{List, ◌∷◌, ◌++◌}
use Rattle.units.specs.declared.AsmReference.{AsmReference}
use Rattle.records.specs.Sections.{Section, reference}
use Rattle.layout.specs.Passes.{value_by}
use Rattle.layout.specs.Conditions.{sum_of}
use Rattle.layout.proofs.Runs.{Allows, Run, after, none, Tame, Order, below_start, below_end, value_le, Narrower, compare}
use Rattle.layout.proofs.Moves.{Still, still_run, still_first, tame_first, Rests, rests, Together, width_by, run_most, run_least}

-- a width rule
pub record Rule : Type 1 where
  pub least : AsmReference → ℕ
  pub size : AsmReference → ℕ → ℕ
  pub growth : AsmReference → ℕ
  pub step : AsmReference → ℕ
  pub reach : ℕ
  -- the size has room for the value
  pub Fits : AsmReference → ℕ → Type 0
  -- a width that holds the value
  pub Holds : AsmReference → ℕ → ℕ → Type 0
  pub grows : (r : AsmReference) (v v' : ℕ) → v ≤ v' → size r v ≤ size r v'
  pub at_least : (r : AsmReference) (v : ℕ) → least r ≤ size r v
  pub at_most : (r : AsmReference) (v : ℕ) → size r v ≤ least r + growth r
  pub least_pos : (r : AsmReference) → 1 ≤ least r
  pub step_growth : (r : AsmReference) → step r ≤ growth r
  -- to a value at most the reach greater, and 0 where the first is, one step at most
  pub at_step : (r : AsmReference) (v v' : ℕ) → v' ≤ v + reach → (v ≡ 0 → v' ≡ 0) → size r v' ≤ size r v + step r
  -- no width below the size holds a value, and none where a lesser value had no room
  pub size_least : (r : AsmReference) (v w : ℕ) → Holds r v w → size r v ≤ w
  pub fits_below : (r : AsmReference) (v v' w : ℕ) → v ≤ v' → Holds r v' w → Fits r v

-- offsets that are all 0 are below any
order_zero : {c : ℕ → Bool} {z t : ℕ → ℕ} → ((a : ℕ) → z a ≡ 0) → Order c z t
order_zero h = record { marks = λ a. omega (arith, h a); gaps = λ a b k. omega (arith, h b) }

module _ (rule : Rule) where
  -- the widths of the start, of a pass, of a layout
  abbrev pub Starts : Allows
  Starts r v w = w ≡ rule.least r

  abbrev pub Sizes : Allows
  Sizes r v w = (w ≡ rule.size r v) × rule.Fits r v

  abbrev pub Enough : Allows
  Enough r v w = rule.Holds r v w

  -- a reference is no wider in the start than in a pass
  pub start_pass : Narrower Starts Sizes
  start_pass r v v' w w' l f g = omega (arith, f, g.0, rule.at_least r v')

  -- in a pass than in the next
  pub pass_pass : Narrower Sizes Sizes
  pass_pass r v v' w w' l f g = omega (arith, f.0, g.0, rule.grows r v v' l)

  -- in the start than in a layout
  pub start_layout : Narrower Starts Enough
  start_layout r v v' w w' l f g = omega (arith, f, rule.at_least r v', rule.size_least r v' w' g)

  -- in a pass than in a layout
  pub pass_layout : Narrower Sizes Enough
  pass_layout r v v' w w' l f g = omega (arith, f.0, rule.grows r v v' l, rule.size_least r v' w' g)

  module _ (ss : List Section) (tame : Tame (after ss none) none ss) where
    -- the offsets t come to sum e by a run that widens no reference more than the next pass does, from offsets at or below them
    pub record Reached (t : ℕ → ℕ) (e : ℕ) : Type 1 where
      pub widths : Allows
      pub narrower : Narrower widths Sizes
      pub from : ℕ → ℕ
      pub run : Run widths ss 0 from e t
      pub order : Order (after ss none) from t

    -- the start reaches its table
    pub reached_start : {t : ℕ → ℕ} (z : ℕ → ℕ) {e : ℕ} → ((a : ℕ) → z a ≡ 0) → Run Starts ss 0 z e t → Reached t e
    reached_start z h f =
        record { widths = Starts; narrower = start_pass; from = z; run = f; order = order_zero h }

    -- a pass is at or above the run before it
    pub pass_order : {t u : ℕ → ℕ} {e : ℕ} (e' : ℕ) → Reached t e → Run Sizes ss 0 t e' u → Order (after ss none) t u
    pass_order e' o f = below_end (compare o.narrower ss tame (below_start o.order) o.run f).below

    -- so it reaches its own table
    pub reached_pass : {t u : ℕ → ℕ} {e e' : ℕ} → Reached t e → Run Sizes ss 0 t e' u → Reached u e'
    reached_pass {t = t} {e' = e'} o f = record { widths = Sizes; narrower = pass_pass; from = t; run = f; order = pass_order e' o f }

    -- a pass that comes to no more than the run before it moves no mark
    pub reached_rests : {t : ℕ → ℕ} (u : ℕ → ℕ) {e : ℕ} (e' : ℕ) → Together ss → Reached t e → (f : Run Sizes ss 0 t e' u) → e' ≤ e → Rests Sizes ss 0 t e' u f
    reached_rests {t = t} u {e = e} e' k o f l = rests o.narrower ss e e' t u tame k (below_start o.order) o.run f l (λ a. refl)

    -- every layout is at or above the offsets t
    abbrev pub Above : (ℕ → ℕ) → Type 0
    Above t = (offset : ℕ → ℕ) (e : ℕ) → Still Enough ss 0 offset e → Order (after ss none) t offset

    -- the start is at or below every layout
    pub above_start : (z t : ℕ → ℕ) (d : ℕ) → ((a : ℕ) → z a ≡ 0) → Run Starts ss 0 z d t → Above t
    above_start z t d h f offset e g =
        below_end
        (compare start_layout ss tame (below_start (order_zero h)) f (still_run Enough ss 0 offset e g)).below

    -- a pass is at or below every layout that the table before it was below
    pub above_pass : (t u : ℕ → ℕ) (d : ℕ) → Above t → Run Sizes ss 0 t d u → Above u
    above_pass t u d q f offset e g = below_end (compare pass_layout ss tame (below_start (q offset e g)) f (still_run Enough ss 0 offset e g)).below

    -- and comes to no more than it
    pub above_sum : (t u : ℕ → ℕ) (d : ℕ) → Above t → Run Sizes ss 0 t d u → (offset : ℕ → ℕ) (e : ℕ) → Still Enough ss 0 offset e → d ≤ e
    above_sum t u d q f offset e g = (compare pass_layout ss tame (below_start (q offset e g)) f (still_run Enough ss 0 offset e g)).below.sums

    -- what a pass comes to at most
    pub sum_most : (t u : ℕ → ℕ) (e : ℕ) → Run Sizes ss 0 t e u → e ≤ sum_of (width_by (λ r. rule.least r + rule.growth r)) ss
    sum_most t u e f = omega (arith, run_most Sizes (λ r. rule.least r + rule.growth r) (λ r v w q. omega (arith, q.0, rule.at_most r v)) ss 0 t e u f)

    -- what the start comes to
    pub sum_start : (t u : ℕ → ℕ) (e : ℕ) → Run Starts ss 0 t e u → e ≡ sum_of (width_by rule.least) ss
    sum_start t u e f =
        omega (arith, run_most Starts rule.least (λ r v w q. omega arith) ss 0 t e u f, run_least Starts rule.least (λ r v w q. omega arith) ss 0 t e u f)

    -- a reference that has no room after a pass over the sections before it: no layout gives enough
    pub no_room : (before later : List Section) (r : AsmReference) (t u : ℕ → ℕ) (d : ℕ) → ss ≡ before ++ reference r ∷ later
        → Above t → Run Sizes before 0 t d u → (rule.Fits r (value_by u r.mark_ref) → ⊥)
        → (offset : ℕ → ℕ) (e : ℕ) → Still Enough ss 0 offset e → ⊥
    no_room before later r t u d parts q f n offset e g =
        let h = still_first Enough before (reference r ∷ later) 0 offset e (subst (λ (l : List Section). Still Enough l 0 offset e) parts g) in
        let j = tame_first (after ss none) before (reference r ∷ later) none (subst (λ (l : List Section). Tame (after ss none) none l) parts tame) in
        let b = (compare pass_layout before j.0 (below_start (q offset e g)) f (still_run Enough before 0 offset h.0 h.1)).below in
        n (rule.fits_below r (value_by u r.mark_ref) (value_by offset r.mark_ref) h.2.0 (value_le r.mark_ref j.1.0 b) h.2.1)
