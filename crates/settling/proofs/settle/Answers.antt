-- 6, with the table cleared before it; then the rest, of an undamaged store.
-- Assumes nothing.
use Prim.Native.Nat.{ℕ}
use mathlib.Core.Path.{sym, ap, ◌∙◌}
use mathlib.Core.List.{List}
use lib.ListN.{length}
use Rattle.std.specs.Prelude.{Err}
use Rattle.std.proofs.lemmas.Result.{err_from_is_err_and}
use Rattle.records.specs.Store.{words_per_section}
use Rattle.records.specs.Sections.{Section}
use Rattle.layout.specs.Answer.{answer, answer_reply, answer_table}
use Rattle.settling.specs.SectionWalk.{sections_in}
use Rattle.settling.specs.Settle.{Settlement, settled_reply}
use Rattle.settling.proofs.Sections.{sections_same}
use Rattle.settling.proofs.SettleAnswers.{settles_as}
use Rattle.settling.proofs.SettleKept.{settles_kept}
use Rattle.settling.proofs.settle.Goals as goal
use Rattle.settling.proofs.settle.Goals.{After-clear}

pub returns-in_err-store : goal.returns-in_err-store
returns-in_err-store c =
    let p = err_from_is_err_and c.from_residual.result c.from_residual.ensures.1 in
    let is = settles_as words_per_section (length c.args.table.now) _ _ (sym c.in_err-store.ensures.soundness) in
    let all = settles_kept words_per_section _ _
    (ap settled_reply (p.1 ∙ ap Err p.2) ∙ ap (λ (s : Settlement). s.reply) (sym is))
    (c.clear.ensures ∙ ap (λ (s : Settlement). s.table) (sym is)) in
    record { reply = all.0; table = all.1.0; shortest = all.1.1.0; within = all.1.1.1.0; least = all.1.1.1.1 }

pub returns : goal.returns
returns c =
    let is = settles_as words_per_section (length c.args.table.now) _ _ (sym c.in_ok-store.ensures.soundness) in
    let same = sections_same c.in_ok-store.store c.args.store c.args.bytes.now c.args.words.now c.in_ok-store.ensures.store in
    let all = settles_kept words_per_section _ _
    (c.settle_whole.ensures.reply ∙ ap (λ (n : ℕ). answer_reply (answer n (sections_in c.in_ok-store.store))) c.clear.auto.table ∙ ap (λ (ss : List Section). answer_reply (answer (length c.args.table.now) ss)) same ∙ ap (λ (s : Settlement). s.reply) (sym is))
    (c.settle_whole.ensures.table ∙ ap (λ (n : ℕ). answer_table n (answer n (sections_in c.in_ok-store.store))) c.clear.auto.table ∙ ap (λ (ss : List Section). answer_table (length c.args.table.now) (answer (length c.args.table.now) ss)) same ∙ ap (λ (s : Settlement). s.table) (sym is)) in
    record { reply = all.0; table = all.1.0; shortest = all.1.1.0; within = all.1.1.1.0; least = all.1.1.1.1 }
