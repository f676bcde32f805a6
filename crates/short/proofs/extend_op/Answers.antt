-- The byte stored, and the end moved.
-- Assumes nothing.
use native.Mathlib.Omega.{arith}
use Prim.Native.Nat.{◌%◌, ◌^◌}
use mathlib.Core.List.{[], ◌∷◌}
use Rattle.records.specs.Record.{ops_kind}
use Rattle.slices.proofs.Over.{over_one}
use Rattle.short.proofs.Ways.{done_as, span_extended}
use Rattle.short.proofs.extend_op.Goals as goal

pub returns : goal.returns
returns c =
    let a = c.args in
    let e = c.extends.ensures c.if-not-extends.false in
    done_as c.move_end.ensures.state (over_one a.bytes.now (a.state % 2 ^ 32) a.op (omega (arith, e.room))) c.move_end.ensures.words
    (span_extended a.state a.bytes.now a.words.now ops_kind (a.op ∷ []) (omega arith) (omega arith) e)
