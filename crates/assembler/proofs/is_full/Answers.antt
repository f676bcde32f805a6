-- `is_full` is the definition: the position first, then the length against what is left.
-- Assumes nothing.
use Rattle.assembler.proofs.Outcomes.{full_position, full_length}
use Rattle.assembler.proofs.is_full.Goals as goal

pub returns-then-room-position : goal.returns-then-room-position
returns-then-room-position c = full_position c.args.room c.args.position c.args.length c.if-room-position.true

pub returns : goal.returns
returns c = full_length c.args.room c.args.position c.args.length c.if-room-position.false
