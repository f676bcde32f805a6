-- At once where the last section is extended; else what adding the data gives.
-- Assumes nothing.
use mathlib.Core.Path.{refl}
use Rattle.calls.specs.Calls.{push_data}
use Rattle.short.proofs.Judged.{pushed, push_judged}
use Rattle.building.proofs.bytes.push_data.Goals as goal

pub returns-in-Some : goal.returns-in-Some
returns-in-Some c =
    let a = c.args in
    let all = pushed a.state a.bytes.now a.words.now (push_data a.«data».now) (refl, (refl, refl)) refl c.in-Some.ensures.all in
    record { reply = all.0; bytes = all.1.0; words = all.1.1 }

pub returns : goal.returns
returns c =
    let a = c.args in
    let all = push_judged a.state a.bytes.now a.words.now (push_data a.«data».now) (refl, (refl, refl)) refl c.in_default.ensures (c.add_bytes.ensures.reply, (c.add_bytes.ensures.bytes, c.add_bytes.ensures.words)) in
    record { reply = all.0; bytes = all.1.0; words = all.1.1 }
