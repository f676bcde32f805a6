-- The bytes copied, for which there is room, and the end moved.
-- Assumes nothing.
use Prim.Native.Nat.{◌%◌, ◌^◌}
use mathlib.Core.Path.{◌∙◌}
use Rattle.slices.proofs.Over.{has_room}
use Rattle.short.proofs.Ways.{done_as, span_extended}
use Rattle.short.proofs.extend_bytes.Goals as goal

pub returns : goal.returns
returns c =
    let a = c.args in
    let e = c.extends.ensures c.if-not-extends.false in
    done_as c.move_end.ensures.state (c.write_bytes.ensures ∙ has_room a.bytes.now (a.state % 2 ^ 32) a.added.now e.room) c.move_end.ensures.words
    (span_extended a.state a.bytes.now a.words.now a.kind a.added.now c.requires.0 c.requires.1 e)
