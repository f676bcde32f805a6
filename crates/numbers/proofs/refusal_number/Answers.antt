-- Every number of the table is below 256, so that the sum fits.
-- Assumes nothing.
use native.Mathlib.Omega.{arith}
use Rattle.units.proofs.Refusals.{number_small}
use Rattle.numbers.proofs.refusal_number.Goals as goal
use Rattle.numbers.proofs.refusal_number.Goals.{After-number}

pub overflow_mul-result : goal.overflow_mul-result
overflow_mul-result c = omega (arith, number_small c.args.refusal, c.number.ensures)

pub overflow_add-result : goal.overflow_add-result
overflow_add-result c = omega (arith, number_small c.args.refusal, c.number.ensures)

pub overflow_add-result-2 : goal.overflow_add-result-2
overflow_add-result-2 c =
    let numbered = (goal.at.overflow_add-result-2 c).After-number in
    omega (arith, number_small numbered.args.refusal, numbered.number.ensures)
