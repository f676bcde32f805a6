-- The invariant: no section before i is short. Assumes nothing.
use native.Mathlib.Omega.{arith}
use mathlib.Core.Path.{◌≡◌, sym, ◌∙◌}
use Rattle.slices.proofs.First.{search_next}
use Rattle.layout.specs.Conditions.{short_at}
use Rattle.settling.specs.SectionWalk.{sections_in}
use Rattle.settling.proofs.Sections.{sections_count, turn_at, short_test}
use Rattle.tables.proofs.search.first_short.Goals as goal
use Rattle.tables.proofs.search.first_short.Goals.{After-is_short}

-- the code's test is 7's
tested : (c : goal.After-is_short) → c.is_short.result ≡ short_at c.args.limit (sections_in c.args.store) c.loop-i.i
tested c = c.is_short.ensures ∙ short_test _ _ _ _ (turn_at c.args.store _ _ c.loop-i-test.true c.section.ensures)

pub returns-then-is_short : goal.returns-then-is_short
returns-then-is_short c =
    (omega (arith, sections_count c.args.store), sym (tested (goal.at.returns-then-is_short c).After-is_short) ∙ c.if-is_short.true, c.loop-i.invariant)

pub loop-i-preserved : goal.loop-i-preserved
loop-i-preserved c = search_next _ _ c.loop-i.invariant (sym (tested (goal.at.loop-i-preserved c).After-is_short) ∙ c.if-is_short.false)

pub returns : goal.returns
returns c i l = c.loop-i.invariant i (omega (arith, sections_count c.args.store))
