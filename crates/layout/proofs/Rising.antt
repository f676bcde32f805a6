-- How many passes in a row can come to more and more, over any width rule: no more than all references can grow by; and where that is
-- within the rule's reach, no more than one and their steps, as every value then stays near that of the start. Assumes nothing.
use Prim.Native.Nat.{ℕ, zero, suc, ◌+◌, ◌-◌, ◌≤◌, ◌<◌}
use native.Mathlib.Omega.{arith}
use mathlib.Core.Path.{◌≡◌, refl, sym, ◌∙◌}
use mathlib.Core.Bool.{Bool, true, false, false≢true}
use mathlib.Core.List.{List, [], ◌∷◌}
use lib.Dec.{eqb}
use Rattle.units.specs.declared.AsmReference.{AsmReference}
use Rattle.records.specs.Sections.{Section, mark, ops, bytes, reference}
use Rattle.slices.proofs.Tests.{or-false}
use Rattle.layout.specs.Conditions.{placed, sum_of, per_reference}
use Rattle.layout.proofs.Runs.{Run, pass_mark, after, none, Tame}
use Rattle.layout.proofs.Moves.{run_absent, width_by}
use Rattle.layout.proofs.Rule.{Rule, Starts, Sizes, sum_most, sum_start}
use Rattle.layout.proofs.Near.{Near, Wider, Along, stay_near}

-- widths of two summands are widths of the first, and the second for each reference
pub sum_widths : (f g : AsmReference → ℕ) (ss : List Section) → sum_of (width_by (λ r. f r + g r)) ss ≡ sum_of (width_by f) ss + sum_of (per_reference g) ss
unfolding sum_of
sum_widths f g [] = refl
sum_widths f g (mark m ∷ ss) = omega (arith, sum_widths f g ss)
sum_widths f g (ops bs ∷ ss) = omega (arith, sum_widths f g ss)
sum_widths f g (bytes bs ∷ ss) = omega (arith, sum_widths f g ss)
sum_widths f g (reference r ∷ ss) = omega (arith, sum_widths f g ss)

-- what is no more for each reference is no more for all
sum_below : (f g : AsmReference → ℕ) → ((r : AsmReference) → f r ≤ g r) → (ss : List Section) → sum_of (per_reference f) ss ≤ sum_of (per_reference g) ss
unfolding sum_of
sum_below f g h [] = omega arith
sum_below f g h (mark m ∷ ss) = omega (arith, sum_below f g h ss)
sum_below f g h (ops bs ∷ ss) = omega (arith, sum_below f g h ss)
sum_below f g h (bytes bs ∷ ss) = omega (arith, sum_below f g h ss)
sum_below f g h (reference r ∷ ss) = omega (arith, sum_below f g h ss, h r)

-- a mark that isn't passed after the sections isn't placed by them
after_placed : (ss : List Section) (p : ℕ → Bool) (a : ℕ) → after ss p a ≡ false → (placed ss a ≡ false) × (p a ≡ false)
unfolding placed
after_placed [] p a h = (refl, h)
after_placed (mark m ∷ ss) p a h =
    let q = after_placed ss (pass_mark p m) a h in
    let b = or-false (eqb a m) (p a) q.1 in
    (rw b.0 q.0, b.1)
after_placed (ops bs ∷ ss) p a h = after_placed ss p a h
after_placed (bytes bs ∷ ss) p a h = after_placed ss p a h
after_placed (reference r ∷ ss) p a h = after_placed ss p a h

module _ (rule : Rule) where
  -- a reference in a pass is at most its growth wider than in the start
  start_wider : (d : ℕ) → Wider d false rule.growth (Starts rule) (Sizes rule)
  start_wider d r v v' w w' n f g = (omega (arith, f, rule.least_pos r), omega (arith, f, g.0, rule.at_most r v'))

  -- and at most a step wider than in a pass by values that are near
  pass_wider : (d : ℕ) → d ≤ rule.reach → Wider d true rule.step (Sizes rule) (Sizes rule)
  pass_wider d l r v v' w w' n f g = (
    omega (arith, f.0, rule.least_pos r, rule.at_least r v),
    omega (arith, f.0, g.0, rule.at_step r v v' (omega (arith, (n refl).0)) (n refl).1),
  )

  module _ (ss : List Section) where
    -- what all references may grow by, and by one step each
    abbrev pub growths : ℕ
    growths = sum_of (per_reference rule.growth) ss

    abbrev pub steps_of : ℕ
    steps_of = sum_of (per_reference rule.step) ss

    -- k passes in a row from offsets t, each coming to more than the run before it, which came to e
    abbrev pub Rising : ℕ → (ℕ → ℕ) → ℕ → Type 0
    Rising zero t e = Unit {0}
    Rising (suc k) t e = (e' : ℕ) × (u : ℕ → ℕ) × Run (Sizes rule) ss 0 t e' u × (e < e') × Rising k u e'

    -- where no pass by offsets with a property that passes keep comes to more than `high`
    rises_most : (P : (ℕ → ℕ) → Type 0) (high : ℕ) → ((t u : ℕ → ℕ) (e : ℕ) → P t → Run (Sizes rule) ss 0 t e u → (e ≤ high) × P u)
        → (k : ℕ) (t : ℕ → ℕ) (e : ℕ) → P t → e ≤ high → Rising k t e → e + k ≤ high
    rises_most P high keeps zero t e p l m = omega arith
    rises_most P high keeps (suc k) t e p l m =
        let b = keeps t m.1 m.0 p m.2 in
        omega (arith, m.3, rises_most P high keeps k m.1 m.0 b.1 b.0 m.4)

    -- t₀ is the start, by offsets z that are all 0, and comes to e₀
    module _ (tame : Tame (after ss none) none ss) (z t₀ : ℕ → ℕ) (e₀ : ℕ) (zeros : (a : ℕ) → z a ≡ 0) (start : Run (Starts rule) ss 0 z e₀ t₀) where
      -- at most as many passes rise from it as all references may grow by
      pub rises_growth : (k : ℕ) → Rising k t₀ e₀ → k ≤ growths
      rises_growth k m =
          let low = sum_start rule ss tame z t₀ e₀ start in
          let wide = sum_widths rule.least rule.growth ss in
          let high : ℕ = e₀ + growths in
          let most : e₀ + k ≤ high =
          rises_most (λ t. Unit) high (λ t u e p f. (omega (arith, sum_most rule ss tame t u e f), tt)) k t₀ e₀ tt (omega arith) m in
          omega arith

      -- the marks that are placed
      abbrev c : ℕ → Bool
      c = after ss none

      -- offsets and gaps near those of the start
      record NearStart (t : ℕ → ℕ) : Type 0 where
        marks : (a : ℕ) → Near growths (t₀ a) (t a)
        gaps : (a b : ℕ) → c a ≡ c b → Near growths (t₀ b - t₀ a) (t b - t a)

      -- the start's own are
      near_start : NearStart t₀
      near_start = record { marks = λ a. (omega arith, λ i. i); gaps = λ a b k. (omega arith, λ i. i) }

      -- a mark that isn't placed stays at 0
      absent_start : (a : ℕ) → c a ≡ false → t₀ a ≡ 0
      absent_start a h = run_absent (Starts rule) a ss 0 z e₀ t₀ (after_placed ss none a h).0 start ∙ zeros a

      absent_pass : (t u : ℕ → ℕ) (e : ℕ) → NearStart t → Run (Sizes rule) ss 0 t e u → (a : ℕ) → c a ≡ false → u a ≡ 0
      absent_pass t u e near f a h =
          run_absent (Sizes rule) a ss 0 t e u (after_placed ss none a h).0 f ∙ (near.marks a).1 (absent_start a h)

      -- a pass keeps them near
      near_pass : (t u : ℕ → ℕ) (e : ℕ) → NearStart t → Run (Sizes rule) ss 0 t e u → NearStart u
      near_pass t u e near f = record { marks = λ a. marks a (c a) refl; gaps = λ a b k. gaps a b k (c a) refl }
        where
          first : Along growths false c none growths 0 z 0 t
          first =
              record {
                room = omega arith;
                sums = omega arith;
                zero = λ i. i;
                marks = λ a h. absurd (false≢true h);
                gaps = λ a b k q h. absurd (false≢true h);
                passed = λ a h. absurd (false≢true h);
              }

          alongside : Along growths false c c 0 e₀ t₀ e u
          alongside = (stay_near growths false c rule.growth (start_wider growths) ss none 0 0 e₀ e z t t₀ u tame first start f).along

          marks : (a : ℕ) (q : Bool) → c a ≡ q → Near growths (t₀ a) (u a)
          marks a true h = alongside.marks a h
          marks a false h = (omega (arith, absent_pass t u e near f a h), λ _. absent_pass t u e near f a h)

          gaps : (a b : ℕ) → c a ≡ c b → (q : Bool) → c a ≡ q → Near growths (t₀ b - t₀ a) (u b - u a)
          gaps a b k true h = alongside.gaps a b k k h
          gaps a b k false h =
              let g : u b ≡ 0 = absent_pass t u e near f b (sym k ∙ h) in
              (omega arith, λ _. omega arith)

      module _ (within : growths ≤ rule.reach) where
        -- so a pass comes to at most a step for each reference more than the first pass
        near-sum : (t u t₁ : ℕ → ℕ) (e e₁ : ℕ) → Run (Sizes rule) ss 0 t₀ e₁ t₁ → NearStart t → Run (Sizes rule) ss 0 t e u
            → e ≤ e₁ + steps_of
        near-sum t u t₁ e e₁ f near g =
            let l : steps_of ≤ growths = sum_below rule.step rule.growth rule.step_growth ss in
            let first : Along growths true c none steps_of 0 t₀ 0 t =
            record {
              room = omega arith;
              sums = omega arith;
              zero = λ i. i;
              marks = λ a _. near.marks a;
              gaps = λ a b k _ _. near.gaps a b k;
              passed = λ a h. absurd (false≢true h);
            } in
            omega (arith, (stay_near growths true c rule.step (pass_wider growths within) ss none 0 0 e₁ e t₀ t t₁ u tame first f g).added)

        -- and at most one and the steps of passes rise from the start
        pub rises-steps : (k : ℕ) → Rising k t₀ e₀ → k ≤ steps_of + 1
        rises-steps zero m = omega arith
        rises-steps (suc k) m =
            let e₁ : ℕ = m.0 in
            let t₁ : ℕ → ℕ = m.1 in
            let most : e₁ + k ≤ e₁ + steps_of =
            rises_most NearStart (e₁ + steps_of) (λ t u e p f. (near-sum t u t₁ e e₁ m.2 p f, near_pass t u e p f))
            k t₁ e₁ (near_pass t₀ t₁ e₁ near_start m.2) (omega arith) m.4 in
            omega arith
