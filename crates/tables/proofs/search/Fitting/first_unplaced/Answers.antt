-- Where every mark that the table has an entry for is in the map, no reference is to an unplaced one. Else the invariant: no section before
-- i is one. Assumes nothing.
use native.Mathlib.Omega.{arith}
use mathlib.Core.Path.{◌≡◌, sym, ◌∙◌}
use borrow.Author.Rules.{rules}
use Rattle.slices.proofs.First.{search_next}
use Rattle.layout.specs.Conditions.{unplaced_at}
use Rattle.settling.specs.SectionWalk.{sections_in}
use Rattle.settling.proofs.Sections.{sections_count}
use Rattle.tables.proofs.Searches.{turn_covered, code_unplaced, all_in}
use Rattle.tables.proofs.search.Fitting.first_unplaced.Given.{Over}
use Rattle.tables.proofs.search.Fitting.first_unplaced.Goals as goal
use Rattle.tables.proofs.search.Fitting.first_unplaced.Goals.{After-is_unplaced}

-- the code's test is that of 8, 17 and 18
tested : (g : Over) (c : goal.After-is_unplaced g) → c.is_unplaced.result ≡ unplaced_at (sections_in c.args.self.store) c.loop-i.i
tested g c =
    c.is_unplaced.ensures
    ∙ code_unplaced c.args.self.store _ _ c.args.map.now.bits c.args.self.in_table c.args.self.covers c.args.map.now.whole c.requires _ _ c.loop-i-test.true c.section.ensures

pub returns-then-has_all_below : goal.returns-then-has_all_below
returns-then-has_all_below g c =
    all_in _ _ c.args.map.now.bits c.requires (sections_count c.args.self.store) _ c.args.self.in_table (c.has_all_below.ensures c.if-has_all_below.true)

pub is_unplaced-requires : goal.is_unplaced-requires
is_unplaced-requires g c = (search rules, turn_covered c.args.self.store _ _ c.args.self.in_table c.args.self.covers _ _ c.loop-i-test.true c.section.ensures)

pub returns-then-is_unplaced : goal.returns-then-is_unplaced
returns-then-is_unplaced g c =
    (omega (arith, sections_count c.args.self.store), sym (tested g (goal.at.returns-then-is_unplaced g c).After-is_unplaced) ∙ c.if-is_unplaced.true, c.loop-i.invariant)

pub loop-i-preserved : goal.loop-i-preserved
loop-i-preserved g c = search_next _ _ c.loop-i.invariant (sym (tested g (goal.at.loop-i-preserved g c).After-is_unplaced) ∙ c.if-is_unplaced.false)

pub returns : goal.returns
returns g c i l = c.loop-i.invariant i (omega (arith, sections_count c.args.self.store))
