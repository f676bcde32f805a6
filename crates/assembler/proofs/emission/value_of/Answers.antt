-- `value_of` is the definition, by the kind word; no delta is backward.
-- Assumes nothing.
use Rattle.assembler.proofs.Writes.{value_one, value_two}
use Rattle.assembler.proofs.emission.value_of.Goals as goal

pub returns-then-section-eq-DIRECT : goal.returns-then-section-eq-DIRECT
returns-then-section-eq-DIRECT c = (value_one c.args.table.now c.args.section c.requires c.if-section-eq-DIRECT.true).1

pub overflow_sub-result : goal.overflow_sub-result
overflow_sub-result c = (value_two c.args.table.now c.args.section c.requires c.if-section-eq-DIRECT.false).2

pub returns : goal.returns
returns c = (value_two c.args.table.now c.args.section c.requires c.if-section-eq-DIRECT.false).3
