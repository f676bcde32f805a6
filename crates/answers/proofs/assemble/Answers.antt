-- What `assembler::assemble` answers, as a number, and its clauses of the defined reply.
-- Assumes nothing.
use Rattle.answers.proofs.ByNumber.{assembled_packs, assembled_all}
use Rattle.answers.proofs.assemble.Goals as goal
use Rattle.answers.proofs.assemble.Goals.{After-assemble, After-counts_in, Start}

-- the counts, and the entry, seen from after the call
abbrev counted : goal.After-assemble → goal.After-counts_in
counted c = (goal.at.After-assemble c).After-counts_in

abbrev entry : goal.After-assemble → goal.Start
entry c = (goal.at.After-counts_in (counted c)).Start

pub assembled_number-requires : goal.assembled_number-requires
assembled_number-requires c =
    let called = (goal.at.assembled_number-requires c).After-assemble in
    let a = (entry called).args in
    assembled_packs a.bytes.now a.words.now a.table.now a.res.now _ _ _ called.assemble.ensures.reply

pub returns : goal.returns
returns c =
    let called = (goal.at.returns c).After-assemble in
    let a = (entry called).args in
    let all = assembled_all a.bytes.now a.words.now a.table.now a.res.now a.position a.state _ (counted called).counts_in.ensures _ _ _
    (called.assemble.ensures.reply, (called.assemble.ensures.table, (called.assemble.ensures.res, (called.assemble.ensures.shortest, (called.assemble.ensures.pushes, (called.assemble.ensures.within, called.assemble.ensures.least)))))) c.assembled_number.ensures in
    record { reply = all.0; table = all.1.0; res = all.1.1.0; shortest = all.1.1.1.0; pushes = all.1.1.1.1.0; within = all.1.1.1.1.1.0; least = all.1.1.1.1.1.1 }
