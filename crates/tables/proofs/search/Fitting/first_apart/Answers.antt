-- The invariant: `run` is the last section with bytes before i, 0 if there is none, the map has the marks placed before it, and no section
-- before i is placed apart. Assumes nothing.
use Prim.Native.Nat.{◌*◌, ◌<◌}
use native.Mathlib.Omega.{arith}
use mathlib.Core.Path.{◌≡◌, sym, ap, ◌∙◌}
use mathlib.Core.Bool.{Bool}
use lib.ListN.{length}
use borrow.Author.Rules.{rules}
use Rattle.records.specs.Record.{mark_kind}
use Rattle.layout.specs.Conditions.{has_bytes, apart_at}
use Rattle.settling.specs.SectionWalk.{sections_in, MarksIn}
use Rattle.settling.proofs.SectionWords.{as_mark, not_mark}
use Rattle.settling.proofs.Sections.{sections_count, Turn, turn_at}
use Rattle.settling.proofs.FirstPlacings.{apart_none}
use Rattle.tables.specs.MarkMap.{in_map}
use Rattle.tables.proofs.MarkMaps.{replicated}
use Rattle.tables.proofs.Searches.{turn_covered, bytes_words_lem, searched_start, apart_by, next_empty, next_bytes}
use Rattle.tables.proofs.search.Fitting.first_apart.Given.{Over}
use Rattle.tables.proofs.search.Fitting.first_apart.Goals as goal
use Rattle.tables.proofs.search.Fitting.first_apart.Goals.{then-section-eq-MARK+else-contains, else-section-eq-MARK+then-has_bytes, else-section-eq-MARK+else-has_bytes}
use Rattle.tables.proofs.search.Fitting.first_apart.Goals.{After-section-section}

here : (g : Over) (c : goal.After-section-section g) → Turn (sections_in c.args.self.store) c.loop-i.i c.section-section.result
here g c = turn_at c.args.self.store _ _ c.loop-i-test.true c.section-section.ensures

-- the map has room for its marks
marks : (g : Over) (c : goal.After-section-section g) → MarksIn (8 * g.row.BYTES) c.section-section.result
marks g c = turn_covered c.args.self.store _ _ c.args.self.in_table c.args.self.covers _ _ c.loop-i-test.true c.section-section.ensures

-- of a mark the code's test is 9's
tested : (g : Over) (c : goal.After-section-section g) (r : Bool) → c.section-section.result.kind ≡ mark_kind
    → r ≡ in_map c.loop-i.map.bits c.section-section.result.first → r ≡ apart_at (sections_in c.args.self.store) c.loop-i.i
tested g c r k e =
    let t = here g c in
    let room : c.section-section.result.first < 8 * length c.loop-i.map.bits = omega (arith, (marks g c).placed k, c.loop-i.map.whole) in
    e ∙ apart_by _ _ _ _ t.below c.loop-i.invariant _ (as_mark t.words k) room

pub loop-i-init : goal.loop-i-init
loop-i-init g c = searched_start _ _ (replicated _ c.args.map.now.bits c.args.map.now.whole c.requires)

pub contains-requires : goal.contains-requires
contains-requires g c = (search rules, (marks g (goal.at.contains-requires g c).After-section-section).placed c.if-section-eq-MARK.true)

pub returns-then-contains : goal.returns-then-contains
returns-then-contains g c =
    let read = (goal.at.returns-then-contains g c).After-section-section in
    ((here g read).below, sym (tested g read _ c.if-section-eq-MARK.true c.contains.ensures) ∙ c.if-contains.true, c.loop-i.invariant.together)

pub loop-i-preserved : goal.loop-i-preserved
loop-i-preserved g c =
    let read = (goal.at.loop-i-preserved g c).After-section-section in
    let ss = sections_in c.args.self.store in
    let i = c.loop-i.i in
    let inv = c.loop-i.invariant in
    let t = here g read in
    elim c.if-section-eq-MARK.branch [
      | then-section-eq-MARK+else-contains w ↦
          let none = ap has_bytes (as_mark t.words w.if-section-eq-MARK.true) in
          let together = sym (tested g read _ w.if-section-eq-MARK.true w.contains.ensures) ∙ w.if-contains.false in
          rw (w.map-is, w.run-is) (next_empty ss i _ _ t.below inv none together)
      | else-section-eq-MARK+then-has_bytes w ↦
          let some = sym (w.has_bytes.ensures ∙ bytes_words_lem t.words) ∙ w.if-has_bytes.true in
          let together = apart_none ss i (not_mark t.words w.if-section-eq-MARK.false) in
          rw (w.map-is, w.run-is) (next_bytes ss i _ _ t.below inv _ some together w.put_marks.ensures)
      | else-section-eq-MARK+else-has_bytes w ↦
          let none = sym (w.has_bytes.ensures ∙ bytes_words_lem t.words) ∙ w.if-has_bytes.false in
          let together = apart_none ss i (not_mark t.words w.if-section-eq-MARK.false) in
          rw (w.map-is, w.run-is) (next_empty ss i _ _ t.below inv none together)
    ]

pub returns : goal.returns
returns g c i l = c.loop-i.invariant.together i (omega (arith, sections_count c.args.self.store))
