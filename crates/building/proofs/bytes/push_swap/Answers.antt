-- 1; else what `push_op` gives.
-- Assumes nothing.
use Prim.Native.Nat.{ℕ}
use mathlib.Core.Path.{refl, sym, ap, ◌∙◌}
use mathlib.Core.List.{[], ◌∷◌}
use Rattle.records.specs.Store.{words_per_section}
use Rattle.records.specs.Sections.{ops}
use Rattle.calls.specs.Calls.{push_swap}
use Rattle.numbers.specs.Numbers.{store_in}
use Rattle.numbers.proofs.Adds.{push_bad_depth}
use Rattle.short.proofs.Judged.{pushed}
use Rattle.building.proofs.Depths.{swap_depth}
use Rattle.building.proofs.bytes.push_swap.Goals as goal

pub returns-then-is_bad_swap : goal.returns-then-is_bad_swap
returns-then-is_bad_swap c =
    let a = c.args in
    let st = store_in a.state a.bytes.now a.words.now in
    let all = push_bad_depth words_per_section (push_swap a.depth) st (sym c.is_bad_swap.ensures ∙ c.if-is_bad_swap.true) in
    record { reply = c.refusal_number.ensures ∙ all.0; bytes = all.1.0; words = all.1.1 }

pub swap_op-requires : goal.swap_op-requires
swap_op-requires c = swap_depth _ (sym c.is_bad_swap.ensures ∙ c.if-is_bad_swap.false)

pub returns : goal.returns
returns c =
    let a = c.args in
    let all = pushed a.state a.bytes.now a.words.now (push_swap a.depth) (sym c.is_bad_swap.ensures ∙ c.if-is_bad_swap.false, (refl, refl))
    (ap (λ (x : ℕ). ops (x ∷ [])) c.swap_op.ensures) (c.push_op.ensures.reply, (c.push_op.ensures.bytes, c.push_op.ensures.words)) in
    record { reply = all.0; bytes = all.1.0; words = all.1.1 }
