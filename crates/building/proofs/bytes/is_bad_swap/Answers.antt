-- Both bounds by a test each.
-- Assumes nothing.
use borrow.Author.Tests.{eq-eqb, ne_eqb}
use Rattle.building.proofs.bytes.is_bad_swap.Goals as goal

pub returns-then-depth-eq0 : goal.returns-then-depth-eq0
returns-then-depth-eq0 c = rw (eq-eqb _ 0 c.if-depth-eq0.true)

pub returns : goal.returns
returns c = rw (ne_eqb _ 0 c.if-depth-eq0.false)
