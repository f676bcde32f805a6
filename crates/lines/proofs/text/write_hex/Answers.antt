-- Where there is room, the bytes are put; else nothing is. Assumes nothing.
use native.Mathlib.Omega.{arith}
use mathlib.Core.Path.{sym}
use Rattle.slices.proofs.Over.{no_room}
use Rattle.std.proofs.Common.{rules}
use Rattle.lines.specs.Sink.{added}
use Rattle.lines.proofs.Puts.{over_sets}
use Rattle.lines.proofs.Turns.{hex_length}
use Rattle.lines.proofs.text.write_hex.Goals as goal

pub returns-then-text-at : goal.returns-then-text-at
returns-then-text-at c = sym (no_room _ _ _ (omega (arith, c.if-text-at.true)))

pub returns-then-text-at-2 : goal.returns-then-text-at-2
returns-then-text-at-2 c = sym (no_room _ _ _ (omega (arith, hex_length c.args.bytes.now, c.if-text-at-2.true)))

pub returns : goal.returns
unfolding added
returns c = over_sets _ _ _ _ (omega (arith, hex_length c.args.bytes.now, c.if-text-at-2.false)) (search rules)
