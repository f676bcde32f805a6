-- The passes from the start table are the settling; 12 is judged on the table that they left. Assumes nothing.
use Prim.Native.Nat.{ℕ}
use mathlib.Core.Path.{◌≡◌, sym, ap, ap₂, ◌∙◌}
use lib.ListN.{length, replicate}
use Rattle.std.specs.Prelude.{Err}
use Rattle.std.proofs.lemmas.Result.{err_from_is_err_and}
use Rattle.layout.specs.Passes.{settle}
use Rattle.settling.specs.SectionWalk.{sections_in, passes_reply, passes_table}
use Rattle.settling.specs.Settle.{settled_reply}
use Rattle.settling.proofs.SettleAnswers.{settle_is, placed_refused, placed_backward, placed_done}
use Rattle.settling.proofs.settle_placed.Goals as goal
use Rattle.settling.proofs.settle_placed.Goals.{After-run_passes}

-- the passes' reply and the table that they left, by what they come to
passed : (c : goal.After-run_passes)
    → let n = length c.args.table.now in
    let s = settle n (sections_in c.args.store) in
    (c.run_passes.result ≡ passes_reply s) × (c.run_passes.new.table ≡ passes_table n s)
passed c =
    let is = settle_is (length c.args.table.now) (sections_in c.args.store) _ (c.less_one.ensures ∙ c.requires.table_value) in
    (c.run_passes.ensures.reply ∙ ap passes_reply is, c.run_passes.ensures.table ∙ ap₂ passes_table c.less_one.auto.table is)

pub returns-in_err-laid : goal.returns-in_err-laid
returns-in_err-laid c =
    let r = passed (goal.at.returns-in_err-laid c).After-run_passes in
    let all = placed_refused _ _ _ _ (settle _ _) _ r.0 r.1 c.in_err-laid.was in
    let p = err_from_is_err_and c.from_residual.result c.from_residual.ensures.1 in
    record { reply = ap settled_reply (p.1 ∙ ap Err p.2 ∙ sym c.in_err-laid.was) ∙ all.0; table = all.1 }

pub returns-in-Some : goal.returns-in-Some
returns-in-Some c =
    let r = passed (goal.at.returns-in-Some c).After-run_passes in
    let all = placed_backward _ _ _ _ (settle _ _) _ _ _ r.0 r.1 c.in_ok-laid.was c.in-Some.ensures
    (c.refuse.ensures.table ∙ ap (λ (n : ℕ). replicate n 0) (c.run_passes.auto.table ∙ c.less_one.auto.table)) in
    record { reply = ap settled_reply c.refuse.ensures.reply ∙ all.0; table = all.1 }

pub returns : goal.returns
returns c =
    let r = passed (goal.at.returns c).After-run_passes in
    let all = placed_done _ _ _ _ (settle _ _) _ r.0 r.1 c.in_ok-laid.was c.in_default.ensures in
    record { reply = all.0; table = all.1 }
