-- The three tests in turn.
-- Assumes nothing.
use mathlib.Core.Path.{sym, ap, ◌∙◌}
use Rattle.std.proofs.Common.{is_some}
use Rattle.job_steps.proofs.JobLoops.{listed_bytes, too_long, not_whole, if_listed, parts_listed}
use Rattle.job_steps.proofs.validate.job_parts.Goals as goal

pub returns-then-job-gt-MAX_JOB-clause-job : goal.returns-then-job-gt-MAX_JOB-clause-job
returns-then-job-gt-MAX_JOB-clause-job c = too_long c.args.job.now c.if-job-gt-MAX_JOB.true

pub returns-in_err-parts-clause-job : goal.returns-in_err-parts-clause-job
returns-in_err-parts-clause-job c = ap is_some c.from_residual.ensures ∙ not_whole _ (sym c.in_err-parts.ensures.whole)

pub returns-then-not-all_listed-clause-job : goal.returns-then-not-all_listed-clause-job
returns-then-not-all_listed-clause-job c =
    let whole = sym c.in_ok-parts.ensures.whole in
    let parts = c.in_ok-parts.ensures.parts in
    sym c.if-not-all_listed.true
    ∙ c.all_listed.ensures
    ∙ listed_bytes _ _
    ∙ parts_listed _ _ _ whole parts.0 parts.1
    ∙ if_listed _ c.if-job-gt-MAX_JOB.false whole

pub returns-clause-job : goal.returns-clause-job
returns-clause-job c =
    let whole = sym c.in_ok-parts.ensures.whole in
    let parts = c.in_ok-parts.ensures.parts in
    sym c.if-not-all_listed.false
    ∙ c.all_listed.ensures
    ∙ listed_bytes _ _
    ∙ parts_listed _ _ _ whole parts.0 parts.1
    ∙ if_listed _ c.if-job-gt-MAX_JOB.false whole
