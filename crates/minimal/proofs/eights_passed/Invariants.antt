-- The invariant: every byte before the group is 0.
-- Assumes nothing.
use Prim.Native.Nat.{◌*◌}
use Rattle.minimal.specs.Groups.{ZerosFrom}
use Rattle.minimal.proofs.eights_passed.Given as goal

abbrev pub invariant-loop-i : goal.invariant-loop-i
invariant-loop-i l = ZerosFrom l.digits 0 (8 * l.i)
