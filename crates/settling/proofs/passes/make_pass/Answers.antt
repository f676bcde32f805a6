-- The invariant: what remains of the walk comes to the whole pass from the table that it started with, and its sum is in bounds.
-- Assumes nothing.
use Prim.Native.Nat.{ℕ, ◌+◌, ◌≤◌}
use native.Mathlib.Omega.{arith}
use mathlib.Core.Path.{sym, ap, ◌∙◌, subst}
use mathlib.Core.Bool.{Bool, ◌||◌}
use mathlib.Core.List.{List}
use lib.ListN.{length}
use Rattle.records.specs.Sections.{Section}
use Rattle.settling.specs.SectionWalk.{sections_in, MarksIn}
use Rattle.settling.proofs.SectionWords.{as_mark, not_mark, ordered, size_words_lem}
use Rattle.settling.proofs.Sections.{sections_count, Turn, turn_at, marks_fit, room_mark, room_size, sums_small}
use Rattle.settling.proofs.Turns.{pass_start, pass_next, pass_at, pass_past, pass_left, pass_done}
use Rattle.settling.proofs.passes.make_pass.Goals as goal
use Rattle.settling.proofs.passes.make_pass.Goals.{then-section-eq-MARK, else-section-eq-MARK+in-Some}
use Rattle.settling.proofs.passes.make_pass.Goals.{After-section-section, At-loop-i, Start}

abbrev entry : goal.At-loop-i → goal.Start
entry c = (goal.at.At-loop-i c).Start

abbrev sections : goal.At-loop-i → List Section
sections c = sections_in (entry c).args.store

-- where the section's words were read
abbrev at-loop : goal.After-section-section → goal.At-loop-i
at-loop c = (goal.at.After-section-section c).At-loop-i

here : (c : goal.After-section-section) → Turn (sections (at-loop c)) (at-loop c).loop-i.i c.section-section.result
here c = turn_at (entry (at-loop c)).args.store _ _ c.loop-i-test.true c.section-section.ensures

-- its marks are in the table
marks-here : (c : goal.After-section-section) → MarksIn (length (at-loop c).loop-i.table) c.section-section.result
marks-here c =
    subst (λ (n : ℕ). MarksIn n c.section-section.result) (sym (at-loop c).loop-i.auto.table) (marks_fit _ _ _ _ (entry (at-loop c)).requires (here c))

pub loop-i-init : goal.loop-i-init
loop-i-init c = (omega arith, pass_start _ _)

pub move_mark-moved-requires : goal.move_mark-moved-requires
move_mark-moved-requires c =
    (marks-here (goal.at.move_mark-moved-requires c).After-section-section).placed c.if-section-eq-MARK.true

pub size_in-requires : goal.size_in-requires
size_in-requires c =
    let read = (goal.at.size_in-requires c).After-section-section in
    (marks-here read, ordered (here read).words c.if-section-eq-MARK.false)

pub returns-in_default : goal.returns-in_default
returns-in_default c =
    let read = (goal.at.returns-in_default c).After-section-section in
    let turning = at-loop read in
    let narrow = sym (size_words_lem turning.loop-i.table (here read).words c.if-section-eq-MARK.false) ∙ sym c.size_in.ensures ∙ c.in_default.is in
    sym (pass_left (sections turning) _ (here read).below _ _ _ (not_mark (here read).words c.if-section-eq-MARK.false) narrow) ∙ turning.loop-i.invariant.1

pub overflow_add-length : goal.overflow_add-length
overflow_add-length c =
    let read = (goal.at.overflow_add-length c).After-section-section in
    let turning = at-loop read in
    let size = sym (size_words_lem turning.loop-i.table (here read).words c.if-section-eq-MARK.false) ∙ sym c.size_in.ensures ∙ c.in-Some.is in
    let next : turning.loop-i.i + 1 ≤ (entry turning).args.store.counts.sections = omega (arith, read.loop-i-test.true) in
    omega (arith, sums_small (entry turning).args.store (turning.loop-i.i + 1) _ (room_size (sections turning) _ _ (here read).below turning.loop-i.invariant.0 _ _ size) next)

pub loop-i-preserved : goal.loop-i-preserved
loop-i-preserved c =
    let read = (goal.at.loop-i-preserved c).After-section-section in
    let turning = at-loop read in
    let ss = sections turning in
    let i = turning.loop-i.i in
    let sum = turning.loop-i.length in
    let moved = turning.loop-i.moved in
    let table = turning.loop-i.table in
    let inv = turning.loop-i.invariant in
    let t = here read in
    elim c.if-section-eq-MARK.branch [
      | then-section-eq-MARK w ↦
          let step = pass_at ss i t.below sum moved table _ (as_mark t.words w.if-section-eq-MARK.true) in
          let set_to = w.table-is ∙ w.move_mark-moved.ensures.table in (
            omega (arith, w.length-is, room_mark ss i sum t.below inv.0),
            pass_next ss i sum moved table _ _ _ _ inv.1 step w.length-is (w.moved-is ∙ ap (λ (b : Bool). moved || b) w.move_mark-moved.ensures.moved) set_to,
          )
      | else-section-eq-MARK+in-Some w ↦
          let size = sym (size_words_lem table t.words w.if-section-eq-MARK.false) ∙ sym w.size_in.ensures ∙ w.in-Some.is in
          let step = pass_past ss i t.below sum _ moved table (not_mark t.words w.if-section-eq-MARK.false) size in (
            omega (arith, w.length-is, room_size ss i sum t.below inv.0 _ _ size),
            pass_next ss i sum moved table _ _ _ _ inv.1 step w.length-is w.moved-is w.table-is,
          )
    ]

pub returns : goal.returns
returns c =
    let turning = (goal.at.returns c).At-loop-i in
    let a = (entry turning).args in
    let count = sections_count a.store in
    sym (pass_done (sections turning) turning.loop-i.i _ (omega (arith, count, c.loop-i-test.false)) _ _) ∙ turning.loop-i.invariant.1
