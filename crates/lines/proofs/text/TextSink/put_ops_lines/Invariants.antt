-- The invariant: adding the lines from i on gives the sink with all of them. The measure is what is left. Assumes nothing.
use Prim.Native.Nat.{◌-◌, ◌<◌, ◌^◌}
use mathlib.Core.Path.{◌≡◌}
use lib.Seq.{slice}
use Rattle.lines.specs.Lines.{ops_lines}
use Rattle.lines.specs.Sink.{added}
use Rattle.lines.proofs.text.TextSink.put_ops_lines.Given as goal

abbrev pub invariant-loop-i : goal.invariant-loop-i
invariant-loop-i l = (l.self.place < 2 ^ 64) × (added l.self (ops_lines (slice l.i l.end l.bytes)) ≡ added l.initial.self (ops_lines (slice l.initial.i l.end l.bytes)))

abbrev pub decreases-loop-i : goal.decreases-loop-i
decreases-loop-i l = l.end - l.i
