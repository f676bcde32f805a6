-- 3; at once after a last section; else what adding the words gives.
-- Assumes nothing.
use mathlib.Core.Path.{refl, sym, ◌∙◌}
use Rattle.records.specs.Store.{words_per_section}
use Rattle.calls.specs.Calls.{push_mark}
use Rattle.numbers.specs.Numbers.{store_in}
use Rattle.numbers.proofs.Adds.{push_large_mark}
use Rattle.short.proofs.Judged.{put_done, put_judged}
use Rattle.building.proofs.section.push_mark.Goals as goal

pub returns-then-is_large : goal.returns-then-is_large
returns-then-is_large c =
    let a = c.args in
    let st = store_in a.state a.bytes.now a.words.now in
    let all = push_large_mark words_per_section (push_mark a.mark) st refl refl (sym c.is_large.ensures ∙ c.if-is_large.true) in
    record { reply = c.refusal_number.ensures ∙ all.0; words = all.1.1 }

pub returns-in-Some : goal.returns-in-Some
returns-in-Some c =
    let a = c.args in
    let all = put_done a.state a.bytes.now a.words.now (push_mark a.mark) (refl, (refl, sym c.is_large.ensures ∙ c.if-is_large.false)) tt refl c.in-Some.ensures in
    record { reply = all.0; words = all.1 }

pub returns : goal.returns
returns c =
    let a = c.args in
    let all = put_judged a.state a.bytes.now a.words.now (push_mark a.mark) (refl, (refl, sym c.is_large.ensures ∙ c.if-is_large.false)) tt refl c.in_default.ensures.1
    (c.push_words.ensures.reply, c.push_words.ensures.words) in
    record { reply = all.0; words = all.1 }
