-- The invariant: with the span's bytes from i on still to be written, the writer is as it is to be.
-- Assumes nothing.
use lib.Seq.{slice}
use Rattle.undamaged.specs.Section.{span_bytes}
use Rattle.assembler.specs.Writing.{wrote}
use Rattle.assembler.proofs.Writes.{Left}
use Rattle.assembler.proofs.emission.CodeWriter.write_few.Given as goal

abbrev pub invariant-loop-i : goal.invariant-loop-i
invariant-loop-i l = Left (wrote l.initial.self (span_bytes l.bytes l.fn.span)) l.self (slice l.i l.i-end l.bytes)
