-- The invariant: the entries before the index are less 1, the others as they were. Assumes nothing.
use Rattle.settling.proofs.StartTable.{less_done}
use Rattle.settling.proofs.table.less_one.Goals as goal

pub returns : goal.returns
returns c = less_done c.args.table.now c.loop-entry.table c.loop-entry.entry-index c.loop-entry.invariant c.loop-entry-test.false
