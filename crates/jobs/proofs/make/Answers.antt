-- By the outcomes of JobMade: an error of the steps, or assembly.
-- Assumes nothing.
use mathlib.Core.Path.{◌≡◌, sym, ap, ◌∙◌}
use Rattle.assembler.specs.Assemble.{assembled_reply}
use Rattle.job_steps.specs.declared.JobError.TheVariants.{Refused}
use Rattle.std.proofs.Common.{rules, Err}
use Rattle.jobs.specs.JobOutcome.{job_reply, lent_slices}
use Rattle.job_steps.specs.JobBuild.{error_reply}
use Rattle.jobs.proofs.JobMade.{Says, made_of_error, made_assembled}
use Rattle.jobs.proofs.make.Goals as goal
use Rattle.jobs.proofs.make.Goals.{After-from_residual, After-assemble}

-- an error of the steps
refused : (c : goal.After-from_residual)
    → Says c.args.job.now c.args.bytes.now c.args.words.now c.args.table.now c.args.res.now
    (error_reply c.in_err-store.field-0.0) (lent_slices c.build_job.new.bytes c.build_job.new.words c.args.table.now c.args.res.now)
refused c = let e = c.in_err-store.ensures in made_of_error _ _ _ _ _ c.in_err-store.field-0.0 _ _ (e.reply, (e.bytes, e.words))

pub returns-in_err-store-clause-result_value : goal.returns-in_err-store-clause-result_value
returns-in_err-store-clause-result_value c =
    let told : c.from_residual.result ≡ Err c.in_err-store.field-0.0 = search rules in
    ap job_reply told ∙ (refused c).0

pub returns-in_err-store-clause-res_after : goal.returns-in_err-store-clause-res_after
returns-in_err-store-clause-res_after c = (refused c).1

-- what is assembled, accepted or refused
assembled : (c : goal.After-assemble)
    → Says c.args.job.now c.args.bytes.now c.args.words.now c.args.table.now c.args.res.now
    (assembled_reply c.assemble.result) (lent_slices c.build_job.new.bytes c.build_job.new.words c.assemble.new.table c.assemble.new.res)
assembled c =
    let e = c.in_ok-store.ensures in
    let done = c.assemble.ensures in
    made_assembled _ _ _ _ _ c.in_ok-store.store _ _ _ _ _ (e.reply, (e.bytes, e.words)) done.reply done.table done.res

pub returns-in_err-assemble-clause-result_value : goal.returns-in_err-assemble-clause-result_value
returns-in_err-assemble-clause-result_value c =
    let told : c.from_residual-in_err-assemble.result ≡ Err (Refused c.in_err-assemble.field-0.0) = search rules in
    ap job_reply told ∙ sym (ap assembled_reply c.in_err-assemble.was) ∙ (assembled (goal.at.returns-in_err-assemble-clause-result_value c).After-assemble).0

pub returns-in_err-assemble-clause-res_after : goal.returns-in_err-assemble-clause-res_after
returns-in_err-assemble-clause-res_after c = (assembled (goal.at.returns-in_err-assemble-clause-res_after c).After-assemble).1

pub returns-clause-result_value : goal.returns-clause-result_value
returns-clause-result_value c = sym (ap assembled_reply c.in_ok-assemble.was) ∙ (assembled (goal.at.returns-clause-result_value c).After-assemble).0

pub returns-clause-res_after : goal.returns-clause-res_after
returns-clause-res_after c = (assembled (goal.at.returns-clause-res_after c).After-assemble).1
