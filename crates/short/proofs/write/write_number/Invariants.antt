-- The invariant: the bytes left, written over what there is now, are the number.
-- Assumes nothing.
use Rattle.slices.specs.Over.{over}
use Rattle.units.specs.Numbers.{big_endian}
use mathlib.Core.Path.{◌≡◌}
use Rattle.short.proofs.write.write_number.Given as goal

abbrev pub invariant-loop-left : goal.invariant-loop-left
invariant-loop-left l = over l.bytes l.at (big_endian l.left l.rest) ≡ over l.initial.bytes l.at (big_endian l.count l.value)
