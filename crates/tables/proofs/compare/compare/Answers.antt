-- The invariant: no section before i is a 7, a 16 or a 10; the sum is that of the sizes before i, and in bounds; the map has the marks placed
-- before i; the first backward delta so far. Assumes nothing.
use Prim.Native.Nat.{ℕ, ◌+◌, ◌*◌, ◌≤◌, ◌<◌}
use native.Mathlib.Omega.{arith}
use mathlib.Core.Path.{◌≡◌, refl, sym, ap, ◌∙◌, subst}
use mathlib.Core.Bool.{true, false}
use mathlib.Core.List.{List}
use lib.ListN.{length}
use lib.Seq.{take_all}
use borrow.Author.Rules.{rules}
use Rattle.std.proofs.Common.{Some}
use Rattle.records.specs.Sections.{Section}
use Rattle.slices.proofs.First.{search_start, search_next}
use Rattle.layout.specs.Passes.{entry as entryIn, size_by}
use Rattle.layout.specs.Conditions.{IsFirst, section_at, short_at, sum_of}
use Rattle.settling.specs.SectionWalk.{sections_in, MarksIn}
use Rattle.settling.proofs.SectionWords.{size_section, as_mark, not_mark, size_words_lem, marks_in}
use Rattle.settling.proofs.Sections.{sections_count, Turn, turn_at, short_test, backward_test, room_mark, room_size, sums_small}
use Rattle.settling.proofs.StartTable.{so_same, so_found}
use Rattle.tables.specs.MarkMap.{Marked}
use Rattle.tables.specs.TableWalk.{stops_at}
use Rattle.tables.proofs.MarkMaps.{replicated, marked_start, marked_mark, marked_other}
use Rattle.tables.proofs.Turns.{turn_max, marks_covered, so_next, stops_short, stops_mark, passes_mark, passes_other, stops_other, sum_mark, sum_other, mark_forward}
use Rattle.tables.proofs.compare.compare.Given.{Over}
use Rattle.tables.proofs.compare.compare.Goals as goal
use Rattle.tables.proofs.compare.compare.Goals.{then-section-eq-MARK+else-entry_of-sum, else-section-eq-MARK+in-Some}
use Rattle.tables.proofs.compare.compare.Goals.{After-is_short, After-section-section, After-size_of, Else-is_short}

here : (g : Over) (c : goal.After-section-section g) → Turn (sections_in c.args.store) c.loop-i.i c.section-section.result
here g c = turn_at c.args.store _ _ c.loop-i-test.true c.section-section.ensures

-- the code's test is 7's
tested : (g : Over) (c : goal.After-is_short g) → c.is_short.result ≡ short_at (length c.args.table.now) (sections_in c.args.store) c.loop-i.i
tested g c = c.is_short.ensures ∙ short_test _ _ _ _ (here g (goal.at.After-is_short g c).After-section-section)

long-enough : (g : Over) (c : goal.Else-is_short g) → short_at (length c.args.table.now) (sections_in c.args.store) c.loop-i.i ≡ false
long-enough g c = sym (tested g (goal.at.Else-is_short g c).After-is_short) ∙ c.if-is_short.false

-- where it isn't short, its marks are in the table
marks-here : (g : Over) (c : goal.Else-is_short g) → MarksIn (length c.args.table.now) c.section-section.result
marks-here g c = marks_in _ _ (sym c.is_short.ensures ∙ c.if-is_short.false)

-- and in the map
mapped-here : (g : Over) (c : goal.Else-is_short g) → MarksIn (8 * g.row.BYTES) c.section-section.result
mapped-here g c = marks_covered _ _ _ c.requires.covers (marks-here g c) (turn_max c.args.store _ _ c.loop-i-test.true c.section-section.ensures)

-- where the walk stops
stopped : (g : Over) (c : goal.After-section-section g)
    → let ss = sections_in c.args.store in
    stops_at c.args.table.now ss c.loop-i.i ≡ true → IsFirst ss (stops_at c.args.table.now ss) c.loop-i.i × Marked ss c.loop-i.i c.loop-i.map.bits
stopped g c h = (((here g c).below, h, c.loop-i.invariant.1), c.loop-i.invariant.3)

-- the size of a section that isn't a mark
sized : (g : Over) (c : goal.After-size_of g) → c.size_of.result ≡ size_section (entryIn c.args.table.now) (section_at (sections_in c.args.store) c.loop-i.i)
sized g c = c.size_of.ensures ∙ size_words_lem _ (here g (goal.at.After-size_of g c).After-section-section).words c.if-section-eq-MARK.false

pub loop-i-init : goal.loop-i-init
unfolding sum_of
loop-i-init g c = (omega arith, search_start _, refl, marked_start (sections_in c.args.store) _ (replicated _ c.args.map.now.bits c.args.map.now.whole c.requires.empty), search_start _)

pub returns-then-is_short : goal.returns-then-is_short
returns-then-is_short g c =
    let asked = (goal.at.returns-then-is_short g c).After-is_short in
    stopped g (goal.at.After-is_short g asked).After-section-section (stops_short _ _ _ (sym (tested g asked) ∙ c.if-is_short.true))

pub returns-then-entry_of-sum : goal.returns-then-entry_of-sum
returns-then-entry_of-sum g c =
    let read = (goal.at.returns-then-entry_of-sum g c).After-section-section in
    stopped g read (stops_mark _ _ _ _ (as_mark (here g read).words c.if-section-eq-MARK.true) (λ e. c.if-entry_of-sum.true (c.entry_of.ensures ∙ e ∙ sym c.loop-i.invariant.2)))

pub insert-requires : goal.insert-requires
insert-requires g c = (search rules, (mapped-here g (goal.at.insert-requires g c).Else-is_short).placed c.if-section-eq-MARK.true)

pub returns-in_default : goal.returns-in_default
returns-in_default g c =
    let size = (goal.at.returns-in_default g c).After-size_of in
    let long = (goal.at.After-size_of g size).Else-is_short in
    let read = (goal.at.Else-is_short g long).After-section-section in
    stopped g read (stops_other _ _ _ (long-enough g long) (not_mark (here g read).words c.if-section-eq-MARK.false) (sym (sized g size) ∙ c.in_default.is))

pub overflow_add-sum : goal.overflow_add-sum
overflow_add-sum g c =
    let size = (goal.at.overflow_add-sum g c).After-size_of in
    let t = here g (goal.at.After-size_of g size).After-section-section in
    let is = sym (sized g size) ∙ c.in-Some.is in
    let next : c.loop-i.i + 1 ≤ c.args.store.counts.sections = omega (arith, c.loop-i-test.true) in
    omega (arith, sums_small c.args.store (c.loop-i.i + 1) _ (room_size _ _ _ t.below c.loop-i.invariant.0 _ _ is) next)

pub loop-i-preserved : goal.loop-i-preserved
loop-i-preserved g c =
    let long = (goal.at.loop-i-preserved g c).Else-is_short in
    let t = here g (goal.at.Else-is_short g long).After-section-section in
    let ss = sections_in c.args.store in
    let table = c.args.table.now in
    let i = c.loop-i.i in
    let sum = c.loop-i.sum in
    let map = c.loop-i.map.bits in
    let inv = c.loop-i.invariant in
    elim c.if-section-eq-MARK.branch [
      | then-section-eq-MARK+else-entry_of-sum w ↦
          let is_mark = as_mark t.words w.if-section-eq-MARK.true in
          let same = sym w.entry_of.ensures ∙ w.if-entry_of-sum.false ∙ inv.2 in
          let room : c.section-section.result.first < 8 * length map = omega (arith, (mapped-here g long).placed w.if-section-eq-MARK.true, c.loop-i.map.whole) in (
            omega (arith, w.sum-is, room_mark ss i sum t.below inv.0),
            search_next _ _ inv.1 (passes_mark table ss i _ (long-enough g long) is_mark same),
            w.sum-is ∙ inv.2 ∙ sum_mark table ss i _ t.below is_mark,
            subst (λ m. Marked ss (i + 1) m.bits) (sym w.map-is) (subst (Marked ss (i + 1)) (sym w.insert.ensures) (marked_mark ss i map t.below inv.3 _ is_mark room)),
            so_same _ i c.loop-i.backward _ inv.4 (mark_forward table ss i _ is_mark) w.backward-is,
          )
      | else-section-eq-MARK+in-Some w ↦
          let other = not_mark t.words w.if-section-eq-MARK.false in
          let n : ℕ = w.in-Some.size in
          let size : size_section (entryIn table) (section_at ss i) ≡ Some n = sym (size_words_lem table t.words w.if-section-eq-MARK.false) ∙ sym w.size_of.ensures ∙ w.in-Some.is in (
            omega (arith, w.sum-is, room_size ss i sum t.below inv.0 (entryIn table) n size),
            search_next _ _ inv.1 (passes_other table ss i _ (long-enough g long) other size),
            w.sum-is ∙ ap (λ (k : ℕ). k + n) inv.2 ∙ sum_other table ss i n t.below size,
            subst (λ m. Marked ss (i + 1) m.bits) (sym w.map-is) (marked_other ss i map t.below inv.3 other),
            so_next _ i c.loop-i.backward _ _ inv.4 (sym (backward_test table ss i _ t) ∙ sym w.is_backward.ensures) (w.backward-is ∙ w.earlier-backward.ensures),
          )
    ]

pub returns : goal.returns
returns g c =
    let ss = sections_in c.args.store in
    let inv = c.loop-i.invariant in
    let all : c.loop-i.i ≡ length ss = omega (arith, sections_count c.args.store) in (
      λ j l. inv.1 j (omega arith),
      subst (λ (n : ℕ). Marked ss n c.loop-i.map.bits) all inv.3,
      inv.2 ∙ ap (λ (xs : List Section). sum_of (size_by (entryIn c.args.table.now)) xs) (take_all c.loop-i.i ss (omega arith)),
      so_found ss _ c.loop-i.i _ inv.4 all,
    )
