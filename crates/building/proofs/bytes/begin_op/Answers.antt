-- At once where an Ops section begins; else what adding the byte gives.
-- Assumes nothing.
use Rattle.short.proofs.Judged.{add_judged}
use Rattle.building.proofs.bytes.begin_op.Goals as goal

pub returns-in-Some : goal.returns-in-Some
returns-in-Some c =
    let all = c.in-Some.ensures.all in
    record { reply = all.0; bytes = all.1.0; words = all.1.1 }

pub returns : goal.returns
returns c =
    let a = c.args in
    let all = add_judged a.state a.bytes.now a.words.now _ c.in_default.ensures (c.add_bytes.ensures.reply, (c.add_bytes.ensures.bytes, c.add_bytes.ensures.words)) in
    record { reply = all.0; bytes = all.1.0; words = all.1.1 }
