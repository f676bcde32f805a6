-- Nothing of an empty run; at once where the last section is extended, or an Ops section begins; else what judging the run gives.
-- Assumes nothing.
use native.Mathlib.Omega.{arith}
use Rattle.records.specs.Store.{words_per_section}
use Rattle.numbers.proofs.Adds.{op_bytes_empty, op_bytes_judged}
use Rattle.short.proofs.Judged.{op_bytes_done, op_bytes_left}
use Rattle.building.proofs.bytes.push_op_bytes.Goals as goal

pub returns-then-run-eq0 : goal.returns-then-run-eq0
returns-then-run-eq0 c =
    let a = c.args in
    let all = op_bytes_empty words_per_section a.run.now a.state a.bytes.now a.words.now c.if-run-eq0.true in
    record { reply = all.0; bytes = all.1.0; words = all.1.1 }

pub returns-in-Some : goal.returns-in-Some
returns-in-Some c =
    let a = c.args in
    let all = op_bytes_done a.state a.bytes.now a.words.now a.run.now c.if-run-eq0.false c.in-Some.ensures in
    record { reply = all.0; bytes = all.1.0; words = all.1.1 }

pub returns-in-Some-begin_ops : goal.returns-in-Some-begin_ops
returns-in-Some-begin_ops c =
    let a = c.args in
    let all = op_bytes_left a.state a.bytes.now a.words.now a.run.now c.in_default.ensures
    (op_bytes_done a.state _ _ a.run.now c.if-run-eq0.false c.in-Some-begin_ops.ensures) in
    record { reply = all.0; bytes = all.1.0; words = all.1.1 }

pub returns : goal.returns
returns c =
    let a = c.args in
    let judged = op_bytes_judged words_per_section a.run.now _ _ _ _ (omega arith) c.if-run-eq0.false (c.add_run.ensures.reply, (c.add_run.ensures.bytes, c.add_run.ensures.words)) in
    let all = op_bytes_left a.state a.bytes.now a.words.now a.run.now c.in_default.ensures
    (op_bytes_left a.state _ _ a.run.now c.in_default-begin_ops.ensures judged) in
    record { reply = all.0; bytes = all.1.0; words = all.1.1 }
