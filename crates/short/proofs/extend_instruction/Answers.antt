-- The op byte, then the immediate after it, and the end moved.
-- Assumes nothing.
use native.Mathlib.Omega.{arith}
use Prim.Native.Nat.{ℕ, ◌+◌, ◌%◌, ◌^◌}
use mathlib.Core.Path.{◌≡◌, ap, ◌∙◌}
use mathlib.Core.List.{◌∷◌}
use lib.ListN.{length}
use Rattle.records.specs.Record.{ops_kind}
use Rattle.records.specs.Store.{words_per_section}
use Rattle.short.specs.Tests.{end_moved}
use Rattle.short.proofs.Digits.{instruction_written}
use Rattle.short.proofs.Ways.{done_as, span_extended, extends_fewer}
use Rattle.short.proofs.extend_instruction.Goals as goal

pub returns : goal.returns
returns c =
    let a = c.args in
    let e = c.extends.ensures c.if-not-extends.false in
    let long : 1 + length a.immediate.now ≡ length (a.op ∷ a.immediate.now) = omega arith in
    done_as (c.move_end.ensures.state ∙ ap (λ (n : ℕ). a.state + n) long)
    (c.write_bytes.ensures ∙ instruction_written a.bytes.now (a.state % 2 ^ 32) a.op a.immediate.now e.room)
    (c.move_end.ensures.words ∙ ap (end_moved words_per_section a.state a.words.now) long)
    (span_extended a.state a.bytes.now a.words.now ops_kind (a.op ∷ a.immediate.now) (omega arith) (omega arith)
    (extends_fewer _ ops_kind _ e (length (a.op ∷ a.immediate.now)) (omega arith)))
