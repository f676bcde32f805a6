-- What `assembler::write` answers, as a number, and its clauses of the defined reply.
-- Assumes nothing.
use Rattle.answers.proofs.ByNumber.{wrote_packs, wrote_all}
use Rattle.answers.proofs.write.Goals as goal
use Rattle.answers.proofs.write.Goals.{After-counts_in, After-write, Start}

-- the counts, and the entry, seen from after the call
abbrev counted : goal.After-write → goal.After-counts_in
counted c = (goal.at.After-write c).After-counts_in

abbrev entry : goal.After-write → goal.Start
entry c = (goal.at.After-counts_in (counted c)).Start

pub assembled_number-requires : goal.assembled_number-requires
assembled_number-requires c =
    let called = (goal.at.assembled_number-requires c).After-write in
    let a = (entry called).args in
    wrote_packs a.bytes.now a.words.now a.table.now a.res.now _ _ _ called.write.ensures.reply

pub returns : goal.returns
returns c =
    let called = (goal.at.returns c).After-write in
    let a = (entry called).args in
    let all = wrote_all a.bytes.now a.words.now a.table.now a.res.now a.position a.state _ (counted called).counts_in.ensures _ _
    (called.write.ensures.reply, (called.write.ensures.res, (called.write.ensures.shortest, (called.write.ensures.enough, (called.write.ensures.pushes, (called.write.ensures.within, called.write.ensures.least)))))) c.assembled_number.ensures in
    record { reply = all.0; res = all.1.0; shortest = all.1.1.0; enough = all.1.1.1.0; pushes = all.1.1.1.1.0; within = all.1.1.1.1.1.0; least = all.1.1.1.1.1.1 }
