-- The scan from where groups of zeros were passed over.
-- Assumes nothing.
use native.Mathlib.Omega.{arith}
use Rattle.minimal.proofs.Groups.{rest_passed}
use Rattle.minimal.proofs.leading_zeros.Goals as goal

pub scan_from-requires : goal.scan_from-requires
scan_from-requires c =
    let seven = c.begins_with_seven.ensures c.if-begins_with_seven.true in
    (omega (arith, seven), rest_passed c.args.digits.now c.eights_passed-passed.result _ 7 (omega (arith, seven)) c.eights_passed-passed.ensures.1 seven.1)
