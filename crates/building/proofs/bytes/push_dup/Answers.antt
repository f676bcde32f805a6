-- 1; else what `push_op` gives.
-- Assumes nothing.
use mathlib.Core.Path.{refl, ◌∙◌}
use borrow.Author.Tests.{lt-ltb, le-ltb}
use Rattle.records.specs.Store.{words_per_section}
use Rattle.calls.specs.Calls.{push_dup}
use Rattle.numbers.specs.Numbers.{store_in}
use Rattle.numbers.proofs.Adds.{push_bad_depth}
use Rattle.short.proofs.Judged.{pushed}
use Rattle.building.proofs.bytes.push_dup.Goals as goal

pub returns-then-depth-gt-MAX_DUP : goal.returns-then-depth-gt-MAX_DUP
returns-then-depth-gt-MAX_DUP c =
    let a = c.args in
    let st = store_in a.state a.bytes.now a.words.now in
    let all = push_bad_depth words_per_section (push_dup a.depth) st (lt-ltb 15 _ c.if-depth-gt-MAX_DUP.true) in
    record { reply = c.refusal_number.ensures ∙ all.0; bytes = all.1.0; words = all.1.1 }

pub returns : goal.returns
returns c =
    let a = c.args in
    let all = pushed a.state a.bytes.now a.words.now (push_dup a.depth) (le-ltb 15 _ c.if-depth-gt-MAX_DUP.false, (refl, refl)) refl (c.push_op.ensures.reply, (c.push_op.ensures.bytes, c.push_op.ensures.words)) in
    record { reply = all.0; bytes = all.1.0; words = all.1.1 }
