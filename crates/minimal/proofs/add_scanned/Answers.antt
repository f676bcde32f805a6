-- The op byte and the bytes after the leading zeros are the minimal push: tried at once, or judged.
-- Assumes nothing.
use native.Mathlib.Omega.{arith}
use mathlib.Core.Path.{ap, ◌∙◌}
use Rattle.records.specs.Store.{words_per_section}
use Rattle.records.specs.Sections.{ops}
use Rattle.numbers.proofs.Adds.{add_same}
use Rattle.short.proofs.Judged.{add_judged}
use Rattle.minimal.proofs.Digits.{minimal_of, instruction_of}
use Rattle.minimal.proofs.add_scanned.Goals as goal

pub returns-in-Some : goal.returns-in-Some
returns-in-Some c =
    let a = c.args in
    let same = ap ops (instruction_of a.digits.now a.zeros c.requires.digits_len_bound (λ i. omega (arith, c.type_inv.digits i)) c.requires.leading_zeros _ (omega arith)) in
    let all = add_same words_per_section _ _ _ _ _ _ same c.in-Some.ensures.all in
    record { reply = all.0; bytes = all.1.0; words = all.1.1 }

pub returns : goal.returns
returns c =
    let a = c.args in
    let minimal = minimal_of a.digits.now a.zeros c.requires.digits_len_bound (λ i. omega (arith, c.type_inv.digits i)) c.requires.leading_zeros in
    let same = ap ops (c.push_bytes-push.ensures.1 ∙ minimal) in
    let added = add_same words_per_section _ _ _ _ _ _ same (c.add_bytes.ensures.reply, (c.add_bytes.ensures.bytes, c.add_bytes.ensures.words)) in
    let all = add_judged a.state a.bytes.now a.words.now _ c.in_default.ensures added in
    record { reply = all.0; bytes = all.1.0; words = all.1.1 }
