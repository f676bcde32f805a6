-- As many bytes as the bits need.
-- Assumes nothing.
use native.Mathlib.Omega.{arith}
use Rattle.std.proofs.lemmas.Nat.{leading_length}
use Rattle.short.proofs.Digits.{least_by_bits, least_eight}
use Rattle.short.proofs.write.least_bytes.Goals as goal

pub returns : goal.returns
returns c =
    let v = c.args.value in
    let bits = leading_length 64 v (omega arith) in
    let least = least_by_bits v bits.0 c.div_ceil.result bits.2 bits.3 (omega arith) (omega arith) (omega arith) in
    (least, omega (arith, least, least_eight v (omega arith)))
