-- One byte written.
-- Assumes nothing.
use Rattle.assembler.proofs.Writes.{wrote_byte}
use Rattle.assembler.proofs.emission.CodeWriter.write_byte.Goals as goal

pub returns : goal.returns
returns c = wrote_byte c.args.self.now c.args.byte c.requires
