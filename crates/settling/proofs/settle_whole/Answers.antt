-- 7 and 9 by what the walk of the placings found, 8, 17 or 18 by the search, then the settling. Before they are answered the table is 0
-- again. Assumes nothing.
use Prim.Native.Nat.{ℕ}
use mathlib.Core.Path.{ap, ◌∙◌}
use lib.ListN.{length, replicate}
use Rattle.layout.specs.Passes.{settle}
use Rattle.layout.specs.Answer.{short_table, placed_apart, settling_answer, answer_reply, answer_table}
use Rattle.settling.specs.SectionWalk.{sections_in}
use Rattle.settling.specs.Settle.{settled_reply}
use Rattle.settling.proofs.SettleAnswers.{answers_said, answers_sound}
use Rattle.settling.proofs.settle_whole.Goals as goal

pub returns-in-Err : goal.returns-in-Err
returns-in-Err c =
    let said =
    answers_said (length c.args.table.now) (sections_in c.args.store) (short_table _) _ c.in-Err.ensures
    (c.refuse.ensures.table ∙ ap (λ (n : ℕ). replicate n 0) c.place.auto.table) in
    record { reply = ap settled_reply c.refuse.ensures.reply ∙ said.0; table = said.1 }

pub returns-in-Some-apart : goal.returns-in-Some-apart
returns-in-Some-apart c =
    let found = c.in-Ok.ensures in
    let said =
    answers_said (length c.args.table.now) (sections_in c.args.store) (placed_apart _) _
    (found.in_table, c.in_default.ensures, rw c.in-Some-apart.is at found.apart)
    (c.refuse-in-Some-apart.ensures.table ∙ ap (λ (n : ℕ). replicate n 0) c.place.auto.table) in
    record { reply = ap settled_reply c.refuse-in-Some-apart.ensures.reply ∙ said.0; table = said.1 }

pub returns : goal.returns
returns c =
    let ss = sections_in c.args.store in
    let found = c.in-Ok.ensures in
    let all = answers_sound (length c.args.table.now) ss _ _ (found.in_table, c.in_default.ensures, rw c.in_default-apart.is at found.apart) (
      c.settle_placed.ensures.reply ∙ ap (λ (n : ℕ). answer_reply (settling_answer ss (settle n ss))) c.place.auto.table,
      c.settle_placed.ensures.table ∙ ap (λ (n : ℕ). answer_table n (settling_answer ss (settle n ss))) c.place.auto.table,
    ) in
    record { reply = all.0; table = all.1 }
