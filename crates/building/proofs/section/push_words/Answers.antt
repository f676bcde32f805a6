-- At once after a last section; else what adding the words gives.
-- Assumes nothing.
use Rattle.records.specs.Record.{stored_section}
use Rattle.short.proofs.Judged.{words_judged}
use Rattle.building.proofs.section.push_words.Goals as goal

pub returns-in-Some : goal.returns-in-Some
returns-in-Some c =
    let all = c.in-Some.ensures.all in
    record { reply = all.0; words = all.1.1 }

pub returns : goal.returns
returns c =
    let a = c.args in
    let all = words_judged a.state a.bytes.now a.words.now (stored_section a.kind a.first a.second) c.in_default.ensures.1
    (c.add_section.ensures.reply, c.add_section.ensures.words) in
    record { reply = all.0; words = all.1 }
