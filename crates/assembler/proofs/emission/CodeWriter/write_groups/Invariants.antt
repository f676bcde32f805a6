-- The invariant: the span's bytes up to `at` are written. The measure is what is left of the span.
-- Assumes nothing.
use Prim.Native.Nat.{◌-◌, ◌≤◌}
use mathlib.Core.Path.{◌≡◌}
use lib.Seq.{slice}
use Rattle.assembler.specs.Writing.{wrote}
use Rattle.assembler.proofs.emission.CodeWriter.write_groups.Given as goal

abbrev pub invariant-loop-at : goal.invariant-loop-at
invariant-loop-at l = (l.initial.at ≤ l.at) × (l.at ≤ l.end) × (l.self ≡ wrote l.initial.self (slice l.initial.at l.at l.bytes))

abbrev pub decreases-loop-at : goal.decreases-loop-at
decreases-loop-at l = l.end - l.at
