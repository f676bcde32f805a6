-- The invariant: adding the bytes that are left gives the sink with all of them. Assumes nothing.
use mathlib.Core.Path.{◌≡◌}
use lib.ListN.{drop}
use Rattle.lines.specs.Sink.{added}
use Rattle.lines.proofs.text.TextSink.put.Given as goal

abbrev pub invariant-loop-byte : goal.invariant-loop-byte
invariant-loop-byte l = added l.self (drop l.byte-index l.bytes) ≡ added l.initial.self l.bytes
