-- One byte less is left.
-- Assumes nothing.
use Rattle.short.proofs.Digits.{digits_done}
use Rattle.slices.proofs.Over.{over_set}
use Rattle.slices.specs.Over.{over}
use Rattle.units.specs.Numbers.{big_endian}
use Rattle.units.proofs.BigEndian.{length_big_endian}
use lib.ListN.{length}
use Prim.Native.Nat.{ℕ, suc, ◌+◌, ◌-◌, ◌/◌, ◌%◌, ◌<◌}
use mathlib.Core.Path.{◌≡◌, ap, ◌∙◌}
use native.Mathlib.Omega.{arith}
use Rattle.short.proofs.write.write_number.Goals as goal

pub loop-left-preserved : goal.loop-left-preserved
unfolding big_endian
loop-left-preserved c =
    let turn = c.loop-left in
    let a = c.args in
    let fits : a.at + (turn.left - 1) < length turn.bytes = omega arith in
    let long = length_big_endian (turn.left - 1) (turn.rest / 256) in
    let same : suc (turn.left - 1) ≡ turn.left = omega arith in
    over_set turn.bytes a.at (turn.left - 1) (turn.rest % 256) (big_endian (turn.left - 1) (turn.rest / 256)) long fits
    ∙ ap (λ (k : ℕ). over turn.bytes a.at (big_endian k turn.rest)) same ∙ turn.invariant

pub returns : goal.returns
returns c = digits_done _ c.args.at _ c.loop-left.rest (omega arith) ∙ c.loop-left.invariant
