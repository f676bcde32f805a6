-- What `push_op` gives.
-- Assumes nothing.
use mathlib.Core.Path.{refl}
use Rattle.calls.specs.Calls.{push_op_byte}
use Rattle.short.proofs.Judged.{pushed}
use Rattle.building.proofs.bytes.push_op_byte.Goals as goal

pub returns : goal.returns
returns c =
    let a = c.args in
    let all = pushed a.state a.bytes.now a.words.now (push_op_byte a.byte) (refl, (refl, refl)) refl (c.push_op.ensures.reply, (c.push_op.ensures.bytes, c.push_op.ensures.words)) in
    record { reply = all.0; bytes = all.1.0; words = all.1.1 }
