-- The byte stored, and the words of one section more.
-- Assumes nothing.
use native.Mathlib.Omega.{arith}
use Prim.Native.Nat.{ℕ, ◌+◌}
use mathlib.Core.Path.{ap}
use mathlib.Core.List.{[], ◌∷◌}
use Rattle.slices.proofs.Over.{over_one}
use Rattle.short.proofs.Ways.{done_as, ops_begun}
use Rattle.short.proofs.begin_op.Goals as goal

pub returns : goal.returns
returns c =
    let a = c.args in
    let b = c.begins_ops.ensures c.if-not-begins_ops.false in
    done_as (ap (λ (n : ℕ). n + 1) c.append_words.ensures.state) (over_one a.bytes.now _ a.op (omega (arith, b.room))) c.append_words.ensures.words
    (ops_begun a.state a.bytes.now a.words.now (a.op ∷ []) b)
