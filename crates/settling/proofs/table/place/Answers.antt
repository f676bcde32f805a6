-- The invariant: what remains, from the table and the sum as they are, comes to the whole table of first placings; so does the start table, from
-- the table less 1, as long as no placing apart was found; the first such so far; no section before i is short, and, if none was met, none is a
-- delta. Assumes nothing.
use Prim.Native.Nat.{ℕ, ◌+◌, ◌≤◌, ◌<◌}
use native.Mathlib.Omega.{arith}
use mathlib.Core.Path.{◌≡◌, refl, sym, ap, ap₂, ◌∙◌}
use mathlib.Core.Bool.{false, ◌||◌}
use mathlib.Core.List.{List}
use lib.Dec.{ltb}
use lib.ListN.{length, drop}
use Rattle.units.specs.Reference.{least_size}
use Rattle.records.specs.Record.{mark_kind, direct_kind}
use Rattle.std.specs.Option.{option_or}
use Rattle.std.specs.Bool.{then_some}
use Rattle.slices.proofs.First.{NoneBefore, search_start, search_next}
use Rattle.slices.proofs.Tests.{or-false}
use Rattle.layout.specs.Passes.{start_from}
use Rattle.layout.specs.Conditions.{section_at, short_at, apart_at, delta_at, sum_of}
use Rattle.layout.proofs.Moves.{width_by}
use Rattle.settling.specs.SectionWalk.{sections_in, least_words, place_mark, place_from, less_one}
use Rattle.settling.proofs.SectionWords.{as_mark, not_mark, least_words_lem, marks_in}
use Rattle.settling.proofs.Sections.{sections_count, Turn, turn_at, short_test, delta_test, room_mark, room_least, sums_small, least_next}
use Rattle.settling.proofs.Turns.{walk_next, place_start, place_at, place_past, place_done, start_start, start_past, start_done}
use Rattle.settling.proofs.FirstPlacings.{apart_none}
use Rattle.settling.proofs.StartTable.{so_next, so_same, so_none, so_found, placed_apart_lem, less_zeros, start_placed, length_place}
use Rattle.settling.proofs.table.place.Goals as goal
use Rattle.settling.proofs.table.place.Goals.{then-section-eq-MARK, else-section-eq-MARK}
use Rattle.settling.proofs.table.place.Goals.{After-is_short, After-section-section, Else-is_short, Else-section-eq-MARK}

here : (c : goal.After-section-section) → Turn (sections_in c.args.store) c.loop-i.i c.section-section.result
here c = turn_at c.args.store _ _ c.loop-i-test.true c.section-section.ensures

-- the code's test is 7's
tested : (c : goal.After-is_short) → c.is_short.result ≡ short_at (length c.args.table.now) (sections_in c.args.store) c.loop-i.i
tested c = c.is_short.ensures ∙ short_test _ _ _ _ (here (goal.at.After-is_short c).After-section-section)

-- where it isn't short, the mark that is placed is in the table
mark-in : (c : goal.Else-is_short) → c.section-section.result.kind ≡ mark_kind → c.section-section.result.first < length c.args.table.now
mark-in c e = (marks_in _ _ (sym c.is_short.ensures ∙ c.if-is_short.false)).placed e

-- another section: its least size, as the code has it
least-here : (c : goal.Else-section-eq-MARK) (n : ℕ) → n ≡ least_words c.section-section.result → n ≡ width_by least_size (section_at (sections_in c.args.store) c.loop-i.i)
least-here c n e =
    let long = (goal.at.Else-section-eq-MARK c).Else-is_short in
    e ∙ least_words_lem (here (goal.at.Else-is_short long).After-section-section).words c.if-section-eq-MARK.false

pub loop-i-init : goal.loop-i-init
unfolding sum_of
loop-i-init c =
    let ss = sections_in c.args.store in
    let n = length c.args.table.now in (
      (omega arith, omega arith, refl, place_start n ss c.args.table.now c.requires.table_value),
      refl,
      search_start _,
      λ _. start_start n ss (less_one c.args.table.now) (ap less_one c.requires.table_value ∙ less_zeros n),
      search_start _,
      λ _. search_start _,
    )

pub returns-then-is_short : goal.returns-then-is_short
returns-then-is_short c =
    let asked = (goal.at.returns-then-is_short c).After-is_short in
    ((here (goal.at.After-is_short asked).After-section-section).below, sym (tested asked) ∙ c.if-is_short.true, c.loop-i.invariant.4)

pub place_mark-is_apart-requires : goal.place_mark-is_apart-requires
place_mark-is_apart-requires c = (
  omega (arith, mark-in (goal.at.place_mark-is_apart-requires c).Else-is_short c.if-section-eq-MARK.true, c.loop-i.invariant.0.2),
  omega (arith, sums_small c.args.store c.loop-i.i c.loop-i.sum c.loop-i.invariant.0.1 c.loop-i.invariant.0.0),
)

pub overflow_add-sum : goal.overflow_add-sum
overflow_add-sum c =
    let other = (goal.at.overflow_add-sum c).Else-section-eq-MARK in
    let t = here (goal.at.Else-is_short (goal.at.Else-section-eq-MARK other).Else-is_short).After-section-section in
    let next : c.loop-i.i + 1 ≤ c.args.store.counts.sections = omega (arith, c.loop-i-test.true) in
    omega (arith, sums_small c.args.store (c.loop-i.i + 1) _ (room_least _ _ _ t.below c.loop-i.invariant.0.1) next, least-here other _ c.least_size-sum.ensures)

pub loop-i-preserved : goal.loop-i-preserved
loop-i-preserved c =
    let unshort = (goal.at.loop-i-preserved c).Else-is_short in
    let n = length c.args.table.now in
    let ss = sections_in c.args.store in
    let i = c.loop-i.i in
    let sum = c.loop-i.sum in
    let table = c.loop-i.table in
    let inv = c.loop-i.invariant in
    let m = c.section-section.result.first in
    let t = here (goal.at.loop-i-preserved c).After-section-section in
    let below = c.loop-i-test.true in
    let whole = search_next _ i inv.4 (sym (tested (goal.at.loop-i-preserved c).After-is_short) ∙ c.if-is_short.false) in
    let direct : (c.loop-i.has_delta || ltb direct_kind c.section-section.result.kind) ≡ false → NoneBefore (delta_at ss) (i + 1) =
    λ h. let parts = or-false c.loop-i.has_delta _ h in search_next _ i (inv.5 parts.0) (sym (delta_test ss i _ t) ∙ parts.1) in
    elim c.if-section-eq-MARK.branch [
      | then-section-eq-MARK w ↦
          let at = as_mark t.words w.if-section-eq-MARK.true in
          let inside : m < length table = omega (arith, mark-in unshort w.if-section-eq-MARK.true, inv.0.2) in
          let set_to : c.if-section-eq-MARK.table ≡ place_mark table m sum = w.table-is ∙ w.place_mark-is_apart.ensures.table in
          let step = place_at ss i t.below sum table m at in
          let test : apart_at ss i ≡ w.place_mark-is_apart.result = sym (w.place_mark-is_apart.ensures.apart ∙ placed_apart_lem table m sum inside ss i t.below at n (mark-in unshort w.if-section-eq-MARK.true) inv.1 (sym step ∙ inv.0.3)) in
          let found : c.if-section-eq-MARK.apart ≡ option_or c.loop-i.apart (then_some w.place_mark-is_apart.result i) = w.apart-is ∙ w.first_found-apart.ensures in (
            walk_next place_from _ ss _ _ i sum table _ _ inv.0 below (omega (arith, w.sum-is, room_mark ss i sum t.below inv.0.1)) (ap length set_to ∙ length_place table m sum) step w.sum-is set_to,
            omega (arith, w.sum-is, inv.1, least_next ss i t.below, ap (width_by least_size) at),
            so_next (apart_at ss) i _ _ _ inv.2 test found,
            λ h.
                let none = so_none _ i _ (sym found ∙ h) in
                ap₂ (λ (y : ℕ) (z : List ℕ). start_from (drop (i + 1) ss) y (less_one z)) w.sum-is set_to
                ∙ sym (start_placed table m sum inside ss i t.below at (sym w.place_mark-is_apart.ensures.apart ∙ none.0))
                ∙ inv.3 none.1,
            whole,
            direct,
          )
      | else-section-eq-MARK w ↦
          let other = not_mark t.words w.if-section-eq-MARK.false in
          let least : w.least_size-sum.result ≡ width_by least_size (section_at ss i) = w.least_size-sum.ensures ∙ least_words_lem t.words w.if-section-eq-MARK.false in
          let next : c.if-section-eq-MARK.sum ≡ sum + width_by least_size (section_at ss i) = w.sum-is ∙ ap (λ (x : ℕ). sum + x) least in (
            walk_next place_from _ ss _ _ i sum table _ _ inv.0 below (omega (arith, next, room_least ss i sum t.below inv.0.1)) (ap length w.table-is) (place_past ss i t.below sum table other) next w.table-is,
            omega (arith, next, inv.1, least_next ss i t.below),
            so_same (apart_at ss) i _ _ inv.2 (apart_none ss i other) w.apart-is,
            λ h.
                ap₂ (λ (y : ℕ) (z : List ℕ). start_from (drop (i + 1) ss) y (less_one z)) next w.table-is
                ∙ sym (start_past ss i t.below sum (less_one table) other)
                ∙ inv.3 (sym w.apart-is ∙ h),
            whole,
            direct,
          )
    ]

pub returns : goal.returns
returns c =
    let ss = sections_in c.args.store in
    let inv = c.loop-i.invariant in
    let count = sections_count c.args.store in
    let done : length ss ≤ c.loop-i.i = omega (arith, count, c.loop-i-test.false) in
    record {
      in_table = λ j l. inv.4 j (omega (arith, l, done));
      apart = so_found ss _ c.loop-i.i _ inv.2 (omega (arith, count, inv.0.0, done));
      sums = sym (place_done ss _ _ done _) ∙ inv.0.3;
      started = λ h. sym (start_done ss _ _ done _) ∙ inv.3 h;
      direct = λ h j l. inv.5 h j (omega (arith, l, done));
    }
