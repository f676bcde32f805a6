-- The section that the loop stops at is the first with the property; where it goes through, none has it. Assumes nothing.
use native.Mathlib.Omega.{arith}
use mathlib.Core.Bool.{true, false}
use Rattle.std.proofs.Common.{rules}
use Rattle.settling.proofs.Sections.{sections_count}
use Rattle.settling.proofs.search.first_section.Goals as goal

pub returns-then-is_one : goal.returns-then-is_one
returns-then-is_one g c test same =
    let is = same c.loop-i.i true (search rules) (search rules) in
    (omega (arith, sections_count c.args.store), is, λ j l. same j false (omega (arith, c.loop-i-test.true)) (c.loop-i.invariant j l))

pub returns : goal.returns
returns g c test same i l =
    let k = c.loop-i.invariant i (omega (arith, sections_count c.args.store)) in
    same i false (omega (arith, sections_count c.args.store)) k
