-- The invariant: adding the bytes that are left gives the sink with all of them. Assumes nothing.
use Prim.Native.Nat.{◌<◌, ◌^◌}
use mathlib.Core.Path.{◌≡◌}
use lib.ListN.{drop}
use Rattle.lines.specs.Lines.{hex}
use Rattle.lines.specs.Sink.{added}
use Rattle.lines.proofs.text.TextSink.put_hex.Given as goal

abbrev pub invariant-loop-byte : goal.invariant-loop-byte
invariant-loop-byte l = (l.self.place < 2 ^ 64) × (added l.self (hex (drop l.byte-index l.bytes)) ≡ added l.initial.self (hex l.bytes))
