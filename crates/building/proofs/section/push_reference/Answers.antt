-- 3; else what adding the words gives.
-- Assumes nothing.
use mathlib.Core.Path.{refl, sym, ◌∙◌}
use Rattle.records.specs.Store.{words_per_section}
use Rattle.calls.specs.Calls.{push_reference}
use Rattle.numbers.specs.Numbers.{store_in}
use Rattle.numbers.proofs.Adds.{push_large_mark}
use Rattle.short.proofs.Judged.{put}
use Rattle.building.proofs.section.push_reference.Goals as goal

pub returns-then-names_large_mark : goal.returns-then-names_large_mark
returns-then-names_large_mark c =
    let a = c.args in
    let st = store_in a.state a.bytes.now a.words.now in
    let all = push_large_mark words_per_section (push_reference a.r) st refl refl (sym c.names_large_mark.ensures ∙ c.if-names_large_mark.true) in
    record { reply = c.refusal_number.ensures ∙ all.0; words = all.1.1 }

pub returns : goal.returns
returns c =
    let a = c.args in
    let all = put a.state a.bytes.now a.words.now (push_reference a.r) (refl, (refl, sym c.names_large_mark.ensures ∙ c.if-names_large_mark.false)) tt
    c.reference_words-section.ensures (c.push_words.ensures.reply, c.push_words.ensures.words) in
    record { reply = all.0; words = all.1 }
