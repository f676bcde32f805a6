-- The opcode, then the bytes of the number, and the end moved.
-- Assumes nothing.
use native.Mathlib.Omega.{arith}
use Prim.Native.Nat.{ℕ, ◌+◌, ◌%◌, ◌^◌, ◌<◌}
use mathlib.Core.Path.{◌≡◌, ap, ◌∙◌}
use lib.ListN.{length}
use Rattle.records.specs.Record.{ops_kind}
use Rattle.records.specs.Store.{words_per_section}
use Rattle.calls.specs.Calls.{minimal_push}
use Rattle.short.specs.Tests.{end_moved}
use Rattle.short.proofs.Digits.{length_push, push_nine, push_written}
use Rattle.short.proofs.Ways.{done_as, span_extended, extends_fewer}
use Rattle.short.proofs.extend_push.Goals as goal

pub returns : goal.returns
returns c =
    let a = c.args in
    let e = c.extends.ensures c.if-not-extends.false in
    let count = c.least_bytes-count in
    let long : 1 + count.result ≡ length (minimal_push a.value) = omega (arith, count.ensures.0, length_push a.value) in
    let fits : a.state % 2 ^ 32 < length a.bytes.now = omega (arith, e.room) in
    done_as (c.move_end.ensures.state ∙ ap (λ (n : ℕ). a.state + n) long)
    (c.write_number.ensures ∙ push_written a.bytes.now (a.state % 2 ^ 32) count.result a.value count.ensures.0 fits)
    (c.move_end.ensures.words ∙ ap (end_moved words_per_section a.state a.words.now) long)
    (span_extended a.state a.bytes.now a.words.now ops_kind (minimal_push a.value) (omega arith) (omega arith)
    (extends_fewer _ ops_kind 9 e (length (minimal_push a.value)) (push_nine a.value (omega arith))))
