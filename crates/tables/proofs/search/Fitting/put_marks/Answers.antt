-- The invariant: the map has the marks placed before i. Assumes nothing.
use Prim.Native.Nat.{ℕ, ◌+◌, ◌*◌, ◌<◌}
use native.Mathlib.Omega.{arith}
use mathlib.Core.Path.{◌≡◌, sym, subst}
use lib.ListN.{length}
use borrow.Author.Rules.{rules}
use Rattle.settling.specs.SectionWalk.{sections_in, MarksIn}
use Rattle.settling.proofs.SectionWords.{as_mark, not_mark}
use Rattle.settling.proofs.Sections.{Turn, turn_at}
use Rattle.tables.specs.MarkMap.{Marked}
use Rattle.tables.proofs.MarkMaps.{marked_mark, marked_other}
use Rattle.tables.proofs.Searches.{turn_covered}
use Rattle.tables.proofs.search.Fitting.put_marks.Given.{Over}
use Rattle.tables.proofs.search.Fitting.put_marks.Goals as goal
use Rattle.tables.proofs.search.Fitting.put_marks.Goals.{After-section-section, then-section-eq-MARK, else-section-eq-MARK}

below : (g : Over) (c : goal.After-section-section g) → c.loop-i.i < c.args.self.store.counts.sections
below g c = omega (arith, c.requires.from_le_to.1)

here : (g : Over) (c : goal.After-section-section g) → Turn (sections_in c.args.self.store) c.loop-i.i c.section-section.result
here g c = turn_at c.args.self.store _ _ (below g c) c.section-section.ensures

-- the map has room for its marks
marks : (g : Over) (c : goal.After-section-section g) → MarksIn (8 * g.row.BYTES) c.section-section.result
marks g c = turn_covered c.args.self.store _ _ c.args.self.in_table c.args.self.covers _ _ (below g c) c.section-section.ensures

pub insert-requires : goal.insert-requires
insert-requires g c = (search rules, (marks g (goal.at.insert-requires g c).After-section-section).placed c.if-section-eq-MARK.true)

pub loop-i-preserved : goal.loop-i-preserved
loop-i-preserved g c =
    let read = (goal.at.loop-i-preserved g c).After-section-section in
    let t = here g read in
    let ss = sections_in c.args.self.store in
    elim c.if-section-eq-MARK.branch [
      | then-section-eq-MARK w ↦
          let room : read.section-section.result.first < 8 * length c.loop-i.map.bits = omega (arith, (marks g read).placed w.if-section-eq-MARK.true, c.loop-i.map.whole) in
          subst (λ m. Marked ss (c.loop-i.i + 1) m.bits) (sym w.map-is)
          (subst (Marked ss (c.loop-i.i + 1)) (sym w.insert.ensures) (marked_mark ss c.loop-i.i c.loop-i.map.bits t.below c.loop-i.invariant _ (as_mark t.words w.if-section-eq-MARK.true) room))
      | else-section-eq-MARK w ↦
          subst (λ m. Marked ss (c.loop-i.i + 1) m.bits) (sym w.map-is) (marked_other ss c.loop-i.i c.loop-i.map.bits t.below c.loop-i.invariant (not_mark t.words w.if-section-eq-MARK.false))
    ]

-- at `to`, the map has the marks placed before it
pub returns : goal.returns
returns g c =
    let at_end : c.loop-i.i ≡ c.args.to = omega (arith, c.requires.from_le_to.0) in
    subst (λ (n : ℕ). Marked (sections_in c.args.self.store) n c.loop-i.map.bits) at_end c.loop-i.invariant
