-- What `listing::write_asm` answers, as a number.
-- Assumes nothing.
use Rattle.answers.proofs.ByNumber.{listed_packs, listed_all}
use Rattle.answers.proofs.write_asm.Goals as goal
use Rattle.answers.proofs.write_asm.Goals.{After-counts_in, After-write_asm, Start}

-- the counts, and the entry, seen from after the call
abbrev counted : goal.After-write_asm → goal.After-counts_in
counted c = (goal.at.After-write_asm c).After-counts_in

abbrev entry : goal.After-write_asm → goal.Start
entry c = (goal.at.After-counts_in (counted c)).Start

pub listed_number-requires : goal.listed_number-requires
listed_number-requires c =
    let called = (goal.at.listed_number-requires c).After-write_asm in
    let a = (entry called).args in
    listed_packs a.bytes.now a.words.now a.text.now _ _ called.write_asm.ensures.answer

pub returns : goal.returns
returns c =
    let called = (goal.at.returns c).After-write_asm in
    let a = (entry called).args in
    let all = listed_all a.bytes.now a.words.now a.text.now a.state _ (counted called).counts_in.ensures _ _ (called.write_asm.ensures.answer, called.write_asm.ensures.written)
    c.listed_number.ensures in
    record { answer = all.0; written = all.1 }
