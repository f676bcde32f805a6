-- The invariant: the entries before the index are less 1, the others as they were. Assumes nothing.
use Rattle.settling.proofs.StartTable.{LessTo}
use Rattle.settling.proofs.table.less_one.Given as goal

abbrev pub invariant-loop-entry : goal.invariant-loop-entry
invariant-loop-entry l = LessTo l.initial.table l.table l.entry-index
