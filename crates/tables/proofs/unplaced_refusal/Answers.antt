-- The section found is a reference to an unplaced mark; its kind and the map tell which mark it misses. Assumes nothing.
use Prim.Native.Nat.{◌*◌, ◌<◌}
use native.Mathlib.Omega.{arith}
use mathlib.Core.Path.{refl, ap, ◌∙◌}
use lib.ListN.{length}
use borrow.Author.Rules.{rules}
use Rattle.layout.specs.Conditions.{Missing, missing_at}
use Rattle.settling.specs.SectionWalk.{sections_in, missing_refusal}
use Rattle.settling.specs.Settle.{settled_reply}
use Rattle.std.specs.Prelude.{Err}
use Rattle.settling.proofs.Sections.{sections_count, Turn, turn_at, unplaced_kind, missing_test}
use Rattle.settling.proofs.SettleAnswers.{missing_reply}
use Rattle.tables.proofs.Checks.{is_unplaced}
use Rattle.tables.proofs.Searches.{turn_covered, in_placed}
use Rattle.tables.proofs.unplaced_refusal.Given.{Over}
use Rattle.tables.proofs.unplaced_refusal.Goals as goal
use Rattle.tables.proofs.unplaced_refusal.Goals.{After-section-section, Start}

-- it is one of them
below : (g : Over) (c : goal.Start g) → c.args.at < c.args.fitting.store.counts.sections
below g c = omega (arith, sections_count c.args.fitting.store, c.requires.first.0)

here : (g : Over) (c : goal.After-section-section g) → Turn (sections_in c.args.fitting.store) c.args.at c.section-section.result
here g c = turn_at c.args.fitting.store _ _ (below g (goal.at.After-section-section g c).Start) c.section-section.ensures

-- the map has room for its first mark
first-in : (g : Over) (c : goal.After-section-section g) → c.section-section.result.first < 8 * g.row.BYTES
first-in g c =
    (turn_covered c.args.fitting.store _ _ c.args.fitting.in_table c.args.fitting.covers _ _ (below g (goal.at.After-section-section g c).Start) c.section-section.ensures).first
    (unplaced_kind _ _ _ (here g c) c.requires.first.1)

pub contains-start_placed-requires : goal.contains-start_placed-requires
contains-start_placed-requires g c = (search rules, first-in g (goal.at.contains-start_placed-requires g c).After-section-section)

pub returns : goal.returns
returns g c =
    let read = (goal.at.returns g c).After-section-section in
    let ss = sections_in c.args.fitting.store in
    let room : c.section-section.result.first < 8 * length c.args.map.now.bits = omega (arith, first-in g read, c.args.map.now.whole) in
    let same = c.contains-start_placed.ensures ∙ in_placed _ _ c.args.map.now.bits c.requires.marked (sections_count c.args.fitting.store) _ room in
    let missed = missing_test _ _ _ (here g read) c.requires.first.1 _ same in
    let is = c.missing_refusal.ensures ∙ ap (λ (x : Missing). missing_refusal x c.args.at) missed in
    ap (λ r. settled_reply (Err r)) is ∙ missing_reply (missing_at ss c.args.at) c.args.at
    ∙ is_unplaced c.args.fitting.table.now ss c.args.fitting.in_table _ c.args.at c.requires.first refl
