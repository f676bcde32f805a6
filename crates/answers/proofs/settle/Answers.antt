-- What `settling::settle` answers, as a number, and its clauses of the defined reply.
-- Assumes nothing.
use Rattle.answers.proofs.ByNumber.{settled_packs, settled_all}
use Rattle.answers.proofs.settle.Goals as goal
use Rattle.answers.proofs.settle.Goals.{After-counts_in, After-settle, Start}

-- the counts, and the entry, seen from after the call
abbrev counted : goal.After-settle → goal.After-counts_in
counted c = (goal.at.After-settle c).After-counts_in

abbrev entry : goal.After-settle → goal.Start
entry c = (goal.at.After-counts_in (counted c)).Start

pub assembled_number-requires : goal.assembled_number-requires
assembled_number-requires c =
    let called = (goal.at.assembled_number-requires c).After-settle in
    let a = (entry called).args in
    settled_packs a.bytes.now a.words.now a.table.now _ _ called.settle.ensures.reply

pub returns : goal.returns
returns c =
    let called = (goal.at.returns c).After-settle in
    let a = (entry called).args in
    let all = settled_all a.bytes.now a.words.now a.table.now a.state _ (counted called).counts_in.ensures _ _
    (called.settle.ensures.reply, (called.settle.ensures.table, (called.settle.ensures.shortest, (called.settle.ensures.within, called.settle.ensures.least)))) c.assembled_number.ensures in
    record { reply = all.0; table = all.1.0; shortest = all.1.1.0; within = all.1.1.1.0; least = all.1.1.1.1 }
