-- What the settling answers, for a list that is ready for the theory: what holds of the start and is kept by every pass that moves a mark
-- holds where the passes end; and how many such passes there are. Assumes nothing.
use Prim.Native.Nat.{ℕ, zero, suc, ◌+◌, ◌^◌, ◌≤◌, ◌<◌}
use native.Mathlib.Omega.{arith}
use mathlib.Core.Path.{◌≡◌, refl, sym, ◌∙◌, subst}
use mathlib.Core.Bool.{Bool, true, false, true≢false}
use mathlib.Core.Logic.{◌↔◌}
use mathlib.Core.List.{List, ◌∷◌}
use lib.Dec.{leb, ltb}
use lib.ListN.{length, replicate}
use borrow.Author.Tests.{leb-true, leb-false, ltb-true, ltb-false}
use Rattle.units.specs.Replies.{max_passes}
use Rattle.records.specs.Sections.{Section, reference}
use Rattle.layout.specs.Layout.{Layout, in_all, GivesEnough}
use Rattle.layout.specs.Passes.{entry, start, pass, Settling, settled, narrow_at, unsettled, settle}
use Rattle.layout.specs.Conditions.{places_some, pass_bound, Moving}
use Rattle.layout.specs.Shortest.{settled_layout, SomeLayout, IsSettled, IsNarrow, Shortest}
use Rattle.layout.specs.Tight.{unsized_count, passes_for, most_unsized}
use Rattle.layout.proofs.Runs.{Run, after, none, Tame}
use Rattle.layout.proofs.Moves.{Still, still_run}
use Rattle.layout.proofs.Rule.{Starts, Sizes, Enough, Reached, reached_start, reached_pass, reached_rests, Above, above_start, above_pass, above_sum, sum_most, no_room}
use Rattle.layout.proofs.WidthRule.{reach, width_rule}
use Rattle.layout.proofs.Rising.{growths, Rising, rises_growth, rises-steps}
use Rattle.layout.proofs.Walks.{All, all_first, InTable, zeros, start_runs, Through, walk_through, pass_through, Left, walk_left}
use Rattle.layout.proofs.Layouts.{enough_still, still_enough, still_placed, Readable}
use Rattle.layout.proofs.Premises.{Ready, growths_are, steps_are, sum_five}
use Rattle.layout.proofs.Answers.{settle_law}

module _ (n : ℕ) (ss : List Section) (given : Ready n ss) where
  -- deltas are tame
  tame : Tame (after ss none) none ss
  tame = given.tame

  -- ---- the tables that the passes come to

  -- a table reached by a run that came to e, and no layout is below it
  record At (table : List ℕ) (e : ℕ) : Type 1 where
    long : length table ≡ n
    reached : Reached width_rule ss tame (entry table) e
    above : Above width_rule ss tame (entry table)

  -- the start, by a table of zeros, comes to e₀
  abbrev z : ℕ → ℕ
  z = entry (replicate n 0)

  abbrev t₀ : ℕ → ℕ
  t₀ = entry (start n ss)

  abbrev run₀ : (e : ℕ) × Run (Starts width_rule) ss 0 z e t₀ × (length (start n ss) ≡ n)
  run₀ = start_runs n ss given.in_table

  abbrev e₀ : ℕ
  e₀ = run₀.0

  -- its table
  at_start : At (start n ss) e₀
  at_start =
      record {
        long = run₀.2;
        reached = reached_start width_rule ss tame z (zeros n) run₀.1;
        above = above_start width_rule ss tame z t₀ e₀ (zeros n) run₀.1;
      }

  -- a pass that goes through
  at_next : (table : List ℕ) (e : ℕ) (moved : Bool) (next : List ℕ) (e' : ℕ) → At table e → Through ss 0 false table e' moved next → At next e'
  at_next table e moved next e' a q =
      record {
        long = q.long ∙ a.long;
        reached = reached_pass width_rule ss tame a.reached q.run;
        above = above_pass width_rule ss tame (entry table) (entry next) e' a.above q.run;
      }

  -- one that moves a mark comes to more than the run before it: otherwise it would have moved none
  moves_more : (table : List ℕ) (e : ℕ) (next : List ℕ) (e' : ℕ) → At table e → Through ss 0 false table e' true next → e < e'
  moves_more table e next e' a q = go (ltb e e') refl
    where
      go : (t : Bool) → ltb e e' ≡ t → e < e'
      go true h = ltb-true e e' h
      go false h =
          let rested = reached_rests width_rule ss tame (entry next) e' given.together a.reached q.run (ltb-false e e' h) in
          absurd (true≢false (q.resting rested))

  -- passes that move a mark: the table after them, and that their sums rise
  record After (k : ℕ) (table : List ℕ) (e : ℕ) (last : List ℕ) : Type 1 where
    sum : ℕ
    here : At last sum
    rising : Rising width_rule ss k (entry table) e

  after_moves : (k : ℕ) (table last : List ℕ) (e : ℕ) → At table e → Moving ss k table last → After k table e last
  unfolding Moving
  after_moves zero table last e a m = record { sum = e; here = subst (λ (x : List ℕ). At x e) (sym m) a; rising = tt }
  after_moves (suc k) table last e a m =
      let e' : ℕ = m.0 in
      let next : List ℕ = m.1 in
      let q : Through ss 0 false table e' true next = pass_through n ss table e' true next given.in_table a.long m.2 in
      let rest = after_moves k next last e' (at_next table e true next e' a q) m.3 in
      record { sum = rest.sum; here = rest.here; rising = (e', entry next, q.run, moves_more table e next e' a q, rest.rising) }

  -- so from the start
  from_start : (k : ℕ) (last : List ℕ) → Moving ss k (start n ss) last → After k (start n ss) e₀ last
  from_start k last m = after_moves k (start n ss) last e₀ at_start m

  -- ---- how many passes move a mark

  -- at most 4 × A + 3 × B
  moves_growth : (k : ℕ) (last : List ℕ) → Moving ss k (start n ss) last → k < pass_bound ss + 1
  moves_growth k last m =
      omega (arith, rises_growth width_rule ss tame z t₀ e₀ (zeros n) run₀.1 k (from_start k last m).rising, growths_are ss)

  -- at most A + B + 1: within the reach by the theory, else A + B alone is above the passes allowed
  moves_steps : (k : ℕ) (last : List ℕ) → k ≤ max_passes → Moving ss k (start n ss) last → k ≤ unsized_count ss + 1
  moves_steps k last l m = go (leb (pass_bound ss) reach) refl
    where
      go : (q : Bool) → leb (pass_bound ss) reach ≡ q → k ≤ unsized_count ss + 1
      go true h =
          let within : growths width_rule ss ≤ reach = omega (arith, growths_are ss, leb-true (pass_bound ss) reach h) in
          omega (arith, steps_are ss, rises-steps width_rule ss tame z t₀ e₀ (zeros n) run₀.1 within k (from_start k last m).rising)
      go false h = omega (arith, leb-false (pass_bound ss) reach h)

  -- none where A + B is 0
  moves_few : (k : ℕ) (last : List ℕ) → k ≤ max_passes → Moving ss k (start n ss) last → k < passes_for (unsized_count ss)
  moves_few k last l m = go (unsized_count ss) refl
    where
      go : (c : ℕ) → unsized_count ss ≡ c → k < passes_for c
      go zero e = omega (arith, moves_growth k last m)
      go (suc c) e = omega (arith, moves_steps k last l m)

  -- where fewer than `most` passes move a mark: the passes made, and 11
  module _ (most : ℕ) (bound : (k : ℕ) (last : List ℕ) → k ≤ max_passes → Moving ss k (start n ss) last → k < most) where
    settled_passes_lem : (table : List ℕ) (e k : ℕ) → settle n ss ≡ settled table e k → k ≤ most
    settled_passes_lem table e k h =
        let m = (settle_law n ss (settled table e k)).0 h in
        omega (arith, m.2, bound m.0 m.1 (omega (arith, m.2, m.3)) m.4)

    narrow_passes_lem : (i k : ℕ) → settle n ss ≡ narrow_at i k → k ≤ most
    narrow_passes_lem i k h =
        let m = (settle_law n ss (narrow_at i k)).0 h in
        omega (arith, m.2, bound m.0 m.1 (omega (arith, m.2, m.3)) m.4)

    unsettled_passes : settle n ss ≡ unsettled → max_passes < most
    unsettled_passes h =
        let m = (settle_law n ss unsettled).0 h in
        bound max_passes m.0 (omega arith) m.1

  -- ---- the layout

  -- a layout stands still
  layout_still : (l : Layout) → GivesEnough ss l → Still (Enough width_rule) ss 0 l.offset (in_all l)
  layout_still l h = enough_still l.offset ss l.widths 0 (in_all l) h (omega arith)

  -- it gives enough, has its length, and is at or below every layout
  abbrev LeastTable : List ℕ → ℕ → Type 0
  LeastTable table e =
      GivesEnough ss (settled_layout table ss)
      × (e ≡ in_all (settled_layout table ss))
      × ((l : Layout) → GivesEnough ss l → ((m : ℕ) → entry table m ≤ l.offset m) × (e ≤ in_all l))

  -- so of a pass that stood still
  still_least : (table : List ℕ) (d e : ℕ) → At table d → Still (Sizes width_rule) ss 0 (entry table) e → LeastTable table e
  still_least table d e a still =
      let run = still_run (Sizes width_rule) ss 0 (entry table) e still in
      let small : e < 2 ^ 32 = omega (arith, sum_most width_rule ss tame (entry table) (entry table) e run, sum_five ss, given.small) in
      let reads : All (Readable (entry table)) ss =
      given.reads (entry table) e still (λ m p. omega (arith, still_placed (Sizes width_rule) m ss 0 (entry table) e p still)) in
      let q = still_enough (entry table) ss 0 e reads still in (
        q.0,
        omega (arith, q.1),
        λ l h. (
          (a.above l.offset (in_all l) (layout_still l h)).marks,
          above_sum width_rule ss tame (entry table) (entry table) e a.above run l.offset (in_all l) (layout_still l h),
        ),
      )

  -- a pass that was left: no layout gives enough
  left_none : (table : List ℕ) (e i : ℕ) → At table e → Left ss 0 0 false table i → SomeLayout ss → ⊥
  left_none table e i a q some =
      let l : Layout = some.0 in
      let here : InTable (length table) q.before =
      all_first (λ s. places_some (leb (length table)) s ≡ false) q.before (reference q.narrow ∷ q.later)
      (subst (λ (x : List Section). InTable (length table) x) q.parts (subst (λ (x : ℕ). InTable x ss) (sym a.long) given.in_table)) in
      let walked = walk_through q.before 0 0 false table q.sum q.moved' q.table' here q.walked in
      no_room width_rule ss tame q.before q.later q.narrow (entry table) (entry q.table') q.sum q.parts a.above walked.run
      (λ fits. true≢false (sym q.too_narrow ∙ fits)) l.offset (in_all l) (layout_still l some.1)

  -- ---- whatever A and B are

  -- what is settled is the least
  pub settles_least : (table : List ℕ) (e k : ℕ) → settle n ss ≡ settled table e k → LeastTable table e
  settles_least table e k h =
      let m = (settle_law n ss (settled table e k)).0 h in
      let last = from_start m.0 m.1 m.4 in
      let calm = (pass_through n ss m.1 e false table given.in_table last.here.long m.5).calm refl in
      subst (λ (x : List ℕ). LeastTable x e) (sym calm.1) (still_least m.1 last.sum e last.here calm.2)

  -- 10: no layout gives enough
  pub narrow_none : (i k : ℕ) → settle n ss ≡ narrow_at i k → SomeLayout ss → ⊥
  unfolding pass
  narrow_none i k h =
      let m = (settle_law n ss (narrow_at i k)).0 h in
      let last = from_start m.0 m.1 m.4 in
      left_none m.1 last.sum i last.here (walk_left ss 0 0 false m.1 i m.5)

  -- within A + B + 2 passes
  pub settled_within : (table : List ℕ) (e k : ℕ) → settle n ss ≡ settled table e k → k ≤ passes_for (unsized_count ss)
  settled_within = settled_passes_lem (passes_for (unsized_count ss)) moves_few

  pub narrow_within : (i k : ℕ) → settle n ss ≡ narrow_at i k → k ≤ passes_for (unsized_count ss)
  narrow_within = narrow_passes_lem (passes_for (unsized_count ss)) moves_few

  -- 11 needs more than 1,022
  pub unsettled_many : settle n ss ≡ unsettled → most_unsized < unsized_count ss
  unsettled_many h = go (unsized_count ss) (unsettled_passes (passes_for (unsized_count ss)) moves_few h)
    where
      go : (c : ℕ) → max_passes < passes_for c → most_unsized < c
      go zero l = omega arith
      go (suc c) l = omega arith

  -- ---- demand 3

  module _ (few : pass_bound ss ≤ 1023) where
    -- never 11
    never : settle n ss ≡ unsettled → ⊥
    never h = omega (arith, few, unsettled_passes (pass_bound ss + 1) (λ k last l m. moves_growth k last m) h)

    -- settled exactly when some layout gives enough
    exactly : IsSettled (settle n ss) ↔ SomeLayout ss
    exactly = (λ h. (settled_layout h.0 ss, (settles_least h.0 h.1 h.2 h.3).0), λ h. go (settle n ss) refl h)
      where
        go : (answer : Settling) → settle n ss ≡ answer → SomeLayout ss → IsSettled (settle n ss)
        go (settled table e k) q h = (table, e, k, q)
        go (narrow_at i k) q h = absurd (narrow_none i k q h)
        go unsettled q h = absurd (never q)

    -- 10 exactly when none does
    otherwise : (SomeLayout ss → ⊥) ↔ IsNarrow (settle n ss)
    otherwise = (λ h. go (settle n ss) refl h, λ h. narrow_none h.0 h.1 h.2)
      where
        go : (answer : Settling) → settle n ss ≡ answer → (SomeLayout ss → ⊥) → IsNarrow (settle n ss)
        go (settled table e k) q h = absurd (h (settled_layout table ss, (settles_least table e k q).0))
        go (narrow_at i k) q h = (i, k, q)
        go unsettled q h = absurd (never q)

    -- demand 3, for such a list
    pub settle_shortest : Shortest n ss
    settle_shortest =
        record {
          exactly = exactly;
          otherwise = otherwise;
          enough = λ table e k q. let v = settles_least table e k q in (v.0, v.1);
          least = λ table e k q l h. let v = (settles_least table e k q).2 l h in (λ m p. v.0 m, v.1);
          settled_passes = settled_passes_lem (pass_bound ss + 1) (λ k last l m. moves_growth k last m);
          narrow_passes = narrow_passes_lem (pass_bound ss + 1) (λ k last l m. moves_growth k last m);
          not_unsettled = never;
        }
