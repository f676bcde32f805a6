-- Too short a buffer, or what `make` answers and its text.
-- Assumes nothing.
use Prim.Native.Nat.{◌≤◌}
use mathlib.Core.Path.{sym, ◌∙◌}
use lib.ListN.{length}
use Rattle.records.specs.Store.{words_per_section}
use Rattle.jobs.specs.JobOutcome.{short_text, ran, lent_slices, job_reply}
use Rattle.jobs.proofs.JobReplies.{Outcome, reply_fits, outcome_short, outcome_ran}
use Rattle.jobs.proofs.run_job.Goals as goal
use Rattle.jobs.proofs.run_job.Goals.{Then-is_short, After-write_reply-text_length}

short : (c : goal.Then-is_short)
    → Outcome c.args.job.now (lent_slices c.args.bytes.now c.args.words.now c.args.table.now c.args.res.now) c.args.text.now
    short_text (lent_slices c.args.bytes.now c.args.words.now c.args.table.now c.args.res.now) c.args.text.now (Unit {0})
short c = outcome_short c.args.job.now _ c.args.text.now (sym c.is_short.ensures ∙ c.if-is_short.true)

pub returns-then-is_short-clause-answer : goal.returns-then-is_short-clause-answer
returns-then-is_short-clause-answer c = (short c).0

pub returns-then-is_short-clause-slices : goal.returns-then-is_short-clause-slices
returns-then-is_short-clause-slices c = (short c).1.0

pub returns-then-is_short-clause-text : goal.returns-then-is_short-clause-text
returns-then-is_short-clause-text c = (short c).1.1.0

pub write_reply-text_length-requires-clause-fits_in : goal.write_reply-text_length-requires-clause-fits_in
write_reply-text_length-requires-clause-fits_in c =
    reply_fits words_per_section c.args.job.now (lent_slices c.args.bytes.now c.args.words.now c.args.table.now c.args.res.now) _ _
    c.make-reply.ensures.result_value c.make-reply.auto.res

done : (c : goal.After-write_reply-text_length)
    → Outcome c.args.job.now (lent_slices c.args.bytes.now c.args.words.now c.args.table.now c.args.res.now) c.args.text.now
    (ran (job_reply c.make-reply.result) c.write_reply-text_length.result)
    (lent_slices c.make-reply.new.bytes c.make-reply.new.words c.make-reply.new.table c.make-reply.new.res) c.write_reply-text_length.new.text
    (c.write_reply-text_length.result ≤ length c.args.text.now)
done c =
    let made = c.make-reply.ensures in
    let w = c.write_reply-text_length.ensures in
    outcome_ran c.args.job.now _ c.args.text.now (sym c.is_short.ensures ∙ c.if-is_short.false) c.make-reply.result _ _ _
    made.result_value made.res_after (w.upper_bound, (w.value, w.text_after))

pub returns-clause-answer : goal.returns-clause-answer
returns-clause-answer c = (done (goal.at.returns-clause-answer c).After-write_reply-text_length).0

pub returns-clause-slices : goal.returns-clause-slices
returns-clause-slices c = (done (goal.at.returns-clause-slices c).After-write_reply-text_length).1.0

pub returns-clause-text : goal.returns-clause-text
returns-clause-text c = (done (goal.at.returns-clause-text c).After-write_reply-text_length).1.1.0
