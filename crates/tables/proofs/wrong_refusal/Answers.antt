-- 9 by its search, over the map emptied; else 16 where the section found is a mark, and 10 where it isn't. Assumes nothing.
use Prim.Native.Nat.{◌<◌}
use native.Mathlib.Omega.{arith}
use Rattle.layout.specs.Conditions.{Never, apart_at}
use Rattle.settling.specs.SectionWalk.{sections_in}
use Rattle.settling.proofs.SectionWords.{as_mark, not_mark}
use Rattle.settling.proofs.Sections.{sections_count, Turn, turn_at}
use Rattle.tables.proofs.Checks.{is_apart, is-differs, is-narrow}
use Rattle.tables.proofs.wrong_refusal.Given.{Over}
use Rattle.tables.proofs.wrong_refusal.Goals as goal
use Rattle.tables.proofs.wrong_refusal.Goals.{After-section-section, Start}

-- the section that the walk found is below the count
below : (g : Over) (c : goal.Start g) → c.args.at < c.args.fitting.store.counts.sections
below g c = omega (arith, c.requires.first.0, sections_count c.args.fitting.store)

-- its words
here : (g : Over) (c : goal.After-section-section g) → Turn (sections_in c.args.fitting.store) c.args.at c.section-section.result
here g c = turn_at c.args.fitting.store _ _ (below g (goal.at.After-section-section g c).Start) c.section-section.ensures

-- no mark is placed apart
together : (g : Over) (c : goal.After-section-section g)
    → let ss = sections_in c.args.fitting.store in
    Never ss (apart_at ss)
together g c = c.in_default.ensures

pub returns-in-Some : goal.returns-in-Some
returns-in-Some g c =
    let ss = sections_in c.args.fitting.store in
    is_apart c.args.fitting.table.now ss c.args.fitting.in_table c.requires.never _ c.in-Some.ensures

pub returns-then-section-eq-MARK : goal.returns-then-section-eq-MARK
returns-then-section-eq-MARK g c =
    let read = (goal.at.returns-then-section-eq-MARK g c).After-section-section in
    let ss = sections_in c.args.fitting.store in
    is-differs c.args.fitting.table.now ss c.args.fitting.in_table c.requires.never (together g read) _ c.requires.first _ (as_mark (here g read).words c.if-section-eq-MARK.true)

pub returns : goal.returns
returns g c =
    let read = (goal.at.returns g c).After-section-section in
    let ss = sections_in c.args.fitting.store in
    is-narrow c.args.fitting.table.now ss c.args.fitting.in_table c.requires.never (together g read) _ c.requires.first (not_mark (here g read).words c.if-section-eq-MARK.false)
