-- What adding the push of the number gives.
-- Assumes nothing.
use mathlib.Core.Path.{refl}
use Rattle.calls.specs.Calls.{push_minimal_u32}
use Rattle.short.proofs.Judged.{pushed}
use Rattle.minimal.proofs.push_minimal_u32.Goals as goal

pub returns : goal.returns
returns c =
    let a = c.args in
    let all = pushed a.state a.bytes.now a.words.now (push_minimal_u32 a.value) (refl, (refl, refl)) refl
    (c.push_number.ensures.reply, (c.push_number.ensures.bytes, c.push_number.ensures.words)) in
    record { reply = all.0; bytes = all.1.0; words = all.1.1 }
