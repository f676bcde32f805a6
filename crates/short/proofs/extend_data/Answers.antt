-- A word's bytes as an array are the same bytes, so what is tried with them is what is asked.
-- Assumes nothing.
use Prim.Native.Nat.{ℕ}
use mathlib.Core.Path.{◌≡◌, ◌∙◌}
use mathlib.Core.List.{List}
use native.Mathlib.Omega.{arith}
use lib.ListN.{length, replicate}
use Rattle.slices.proofs.Over.{has_room, over_whole}
use Rattle.short.proofs.extend_data.Goals as goal

pub returns-then-added-eq-DATA_WORD : goal.returns-then-added-eq-DATA_WORD
returns-then-added-eq-DATA_WORD c =
    let added : List ℕ = c.args.added.now in
    let long : length added ≡ 32 = c.if-added-eq-DATA_WORD.true in
    let word = c.write_bytes.ensures ∙ has_room (replicate 32 0) 0 added (omega (arith, long)) ∙ over_whole (replicate 32 0) added long in
    rw word at c.extend_bytes.ensures
