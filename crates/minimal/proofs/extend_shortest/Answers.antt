-- One byte after the zeros, or none, is the minimal push.
-- Assumes nothing.
use native.Mathlib.Omega.{arith}
use mathlib.Core.Path.{ap}
use Rattle.records.specs.Sections.{ops}
use Rattle.minimal.proofs.Digits.{instruction_of, push_zero}
use Rattle.minimal.proofs.extend_shortest.Goals as goal

pub returns-in-0 : goal.returns-in-0
returns-in-0 c =
    let a = c.args in
    let same = ap ops (push_zero a.digits.now a.zeros c.requires.digits_len_bound (λ i. omega (arith, c.type_inv.digits i)) c.requires.leading_zeros (omega arith)) in
    rw same at c.extend_op.ensures

pub returns-in-1 : goal.returns-in-1
returns-in-1 c =
    let a = c.args in
    let same = ap ops (instruction_of a.digits.now a.zeros c.requires.digits_len_bound (λ i. omega (arith, c.type_inv.digits i)) c.requires.leading_zeros 96 (omega arith)) in
    rw same at c.extend_instruction.ensures
