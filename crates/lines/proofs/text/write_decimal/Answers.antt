-- The digits are counted on an empty text; where there is room for them they are put, else nothing is. Assumes nothing.
use native.Mathlib.Omega.{arith}
use mathlib.Core.Path.{sym}
use Rattle.std.proofs.Common.{rules}
use Rattle.slices.proofs.Over.{no_room}
use Rattle.lines.specs.Sink.{added}
use Rattle.lines.proofs.Puts.{over_sets}
use Rattle.lines.proofs.Sinks.{counted_small}
use Rattle.lines.proofs.Digits.{decimal_length}
use Rattle.lines.proofs.text.write_decimal.Goals as goal

pub returns-then-end-at : goal.returns-then-end-at
returns-then-end-at c =
    let digits = counted_small _ _ (omega (arith, decimal_length c.args.value)) c.new-counted.ensures.1 c.put_decimal.ensures in
    record { digits = digits; text = sym (no_room _ _ _ (omega (arith, c.if-end-at.true))) }

pub returns-then-end-at-2 : goal.returns-then-end-at-2
returns-then-end-at-2 c =
    let digits = counted_small _ _ (omega (arith, decimal_length c.args.value)) c.new-counted.ensures.1 c.put_decimal.ensures in
    record { digits = digits; text = sym (no_room _ _ _ (omega (arith, c.if-end-at-2.true, digits))) }

pub returns : goal.returns
unfolding added
returns c =
    let digits = counted_small _ _ (omega (arith, decimal_length c.args.value)) c.new-counted.ensures.1 c.put_decimal.ensures in
    record { digits = digits; text = over_sets _ _ _ _ (omega (arith, c.if-end-at-2.false, digits)) (search rules) }
