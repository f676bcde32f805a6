-- The bytes copied, for which there is room, and the words of one section more.
-- Assumes nothing.
use Prim.Native.Nat.{ℕ, ◌+◌, ◌%◌, ◌^◌}
use mathlib.Core.Path.{◌∙◌, ap}
use lib.ListN.{length}
use Rattle.slices.proofs.Over.{has_room}
use Rattle.short.proofs.Ways.{done_as, ops_begun}
use Rattle.short.proofs.begin_ops.Goals as goal

pub returns : goal.returns
returns c =
    let a = c.args in
    let b = c.begins_ops.ensures c.if-not-begins_ops.false in
    done_as (ap (λ (n : ℕ). n + length a.added.now) c.append_words.ensures.state)
    (c.write_bytes.ensures ∙ has_room a.bytes.now (a.state % 2 ^ 32) a.added.now b.room) c.append_words.ensures.words
    (ops_begun a.state a.bytes.now a.words.now a.added.now b)
