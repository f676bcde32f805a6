-- One byte more than the push size.
-- Assumes nothing.
use Rattle.evm.proofs.Opcodes.{length_from}
use Rattle.evm.proofs.op.instruction_length.Goals as goal

pub returns-in-Some : goal.returns-in-Some
returns-in-Some c = rw c.from.ensures (length_from _ _ _ c.push_size.ensures c.in-Some.is)

pub returns-in-None : goal.returns-in-None
returns-in-None c = length_from _ _ _ c.push_size.ensures c.in-None.is
