-- The invariant: with the span's bytes from i on still to be written, the writer is as it is to be.
-- Assumes nothing.
use Prim.Native.Nat.{◌+◌}
use native.Mathlib.Omega.{arith}
use mathlib.Core.List.{[], ◌∷◌}
use lib.ListN.{get_or}
use lib.Seq.{slice}
use Rattle.assembler.proofs.Writes.{span_next, span_none, left_fits, left_next, left_done}
use Rattle.assembler.proofs.emission.CodeWriter.write_few.Goals as goal

pub write_byte-requires : goal.write_byte-requires
write_byte-requires c =
    let bytes = c.args.bytes.now in
    let i = c.loop-i.i in
    left_fits c.loop-i.invariant (get_or bytes i 0 ∷ []) (slice (i + 1) c.args.span.end.0 bytes) (span_next bytes i c.args.span.end.0 c.loop-i-test.true c.requires.span_in.1)

pub loop-i-preserved : goal.loop-i-preserved
loop-i-preserved c =
    let bytes = c.args.bytes.now in
    let i = c.loop-i.i in
    left_next c.loop-i.invariant (get_or bytes i 0 ∷ []) (slice (i + 1) c.args.span.end.0 bytes) (span_next bytes i c.args.span.end.0 c.loop-i-test.true c.requires.span_in.1) c.write_byte.ensures

pub returns : goal.returns
returns c =
    left_done c.loop-i.invariant (span_none c.args.bytes.now c.loop-i.i c.args.span.end.0 (omega (arith, c.requires.span_in, c.loop-i-test.false)))
