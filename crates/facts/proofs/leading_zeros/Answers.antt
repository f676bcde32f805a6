-- The bytes looked at are the zeros or one more, so half of the sum is the zeros, and the half rounded up the bytes looked at.
-- Assumes nothing.
use native.Mathlib.Omega.{arith}
use mathlib.Core.Path.{subst}
use Rattle.minimal.specs.Zeros.{LeadingZeros}
use Rattle.minimal.proofs.Looked.{looked_bytes}
use Rattle.facts.proofs.leading_zeros.Goals as goal

pub overflow_add-result : goal.overflow_add-result
overflow_add-result c = omega (arith, looked_bytes _ _ c.leading_zeros-scan.ensures.zeros)

pub returns : goal.returns
returns c =
    let found = c.leading_zeros-scan.ensures in
    let same = looked_bytes _ _ found.zeros in
    record {
      zeros = subst (LeadingZeros _) (omega (arith, same)) found.zeros;
      looked = omega (arith, same);
    }
