-- The invariant holds before the first step, a step that is taken keeps it, and a refused one ends the job.
-- Assumes nothing.
use mathlib.Core.Path.{◌≡◌, sym, ap, ◌∙◌, subst}
use Rattle.std.specs.Prelude.{is_some, IfSome}
use Rattle.std.proofs.Common.{rules, Err}
use Rattle.job_steps.specs.declared.JobError.TheVariants.{Refused}
use Rattle.job_steps.specs.JobBuild.{job_built_reply}
use mathlib.Core.Bool.{false≢true}
use lib.ListN.{length}
use Rattle.units.specs.Reply.{accepted, refusal_reply}
use Rattle.records.specs.Store.{store_of, empty_counts}
use Rattle.job_steps.specs.JobFormat.{is_listed}
use Rattle.job_steps.specs.JobCalls.{push_of, step_call}
use Rattle.job_steps.proofs.JobSteps.{as_step}
use Rattle.job_steps.proofs.JobLoops.{Comes, taking_start, taking_listed, taking_refused, taking_next, taking_done}
use Rattle.job_steps.proofs.run.run_steps.Goals as goal
use Rattle.job_steps.proofs.run.run_steps.Goals.{In_default, In_err-store, After-loop-step}

pub loop-step-init : goal.loop-step-init
loop-step-init c = taking_start _ _ _ _ _ c.requires c.new-store.ensures

-- no step is unlisted
never : goal.In_default → ⊥
never c =
    false≢true (sym (ap is_some c.in_default.is) ∙ c.call_of-listed.ensures.listed ∙ ap (is_listed (length c.args.job.pool.now)) c.step_of.ensures
    ∙ taking_listed _ _ _ _ _ c.loop-step.invariant c.loop-step-test.true)

pub returns-in_default-clause-reply : goal.returns-in_default-clause-reply
returns-in_default-clause-reply c = absurd (never c)

pub returns-in_default-clause-bytes : goal.returns-in_default-clause-bytes
returns-in_default-clause-bytes c = absurd (never c)

pub returns-in_default-clause-words : goal.returns-in_default-clause-words
returns-in_default-clause-words c = absurd (never c)

-- what a refused call leaves
ended : (c : goal.In_err-store)
    → Comes c.args.job.pool.now (store_of empty_counts c.args.bytes.now c.args.words.now) c.args.job.steps.now
    (refusal_reply c.in_err-store.field-0.0) c.make_call.new.bytes c.make_call.new.words
ended c =
    taking_refused _ _ _ _ _ c.loop-step.invariant c.loop-step-test.true c.in_err-store.field-0.0 _ _
    (as_step (store_of c.loop-step.store c.loop-step.bytes c.loop-step.words) (subst (λ r. IfSome r (λ call. push_of call ≡ step_call c.args.job.pool.now c.step_of.result)) c.in-Some.is c.call_of-listed.ensures.call ∙ ap (step_call c.args.job.pool.now) c.step_of.ensures)
    (c.in_err-store.ensures.reply, (c.in_err-store.ensures.bytes, c.in_err-store.ensures.words)))

pub returns-in_err-store-clause-reply : goal.returns-in_err-store-clause-reply
returns-in_err-store-clause-reply c =
    let told : c.from_residual.result ≡ Err (Refused c.in_err-store.field-0.0) = search rules in
    ap job_built_reply told ∙ (ended (goal.at.returns-in_err-store-clause-reply c).In_err-store).0

pub returns-in_err-store-clause-bytes : goal.returns-in_err-store-clause-bytes
returns-in_err-store-clause-bytes c = (ended (goal.at.returns-in_err-store-clause-bytes c).In_err-store).1.0

pub returns-in_err-store-clause-words : goal.returns-in_err-store-clause-words
returns-in_err-store-clause-words c = (ended (goal.at.returns-in_err-store-clause-words c).In_err-store).1.1

pub loop-step-preserved : goal.loop-step-preserved
loop-step-preserved c =
    taking_next _ _ _ _ _ c.loop-step.invariant c.loop-step-test.true c.in_ok-store.store _ _
    (as_step (store_of c.loop-step.store c.loop-step.bytes c.loop-step.words) (subst (λ r. IfSome r (λ call. push_of call ≡ step_call c.args.job.pool.now c.step_of.result)) c.in-Some.is c.call_of-listed.ensures.call ∙ ap (step_call c.args.job.pool.now) c.step_of.ensures)
    (c.in_ok-store.ensures.reply, (c.in_ok-store.ensures.bytes, c.in_ok-store.ensures.words)))

-- what all the calls leave
done : (c : goal.After-loop-step)
    → Comes c.args.job.pool.now (store_of empty_counts c.args.bytes.now c.args.words.now) c.args.job.steps.now (accepted c.loop-step.store) c.loop-step.bytes c.loop-step.words
done c = taking_done _ _ _ _ _ _ _ c.loop-step.invariant c.loop-step-test.false

pub returns-clause-reply : goal.returns-clause-reply
returns-clause-reply c = (done c).0

pub returns-clause-bytes : goal.returns-clause-bytes
returns-clause-bytes c = (done c).1.0

pub returns-clause-words : goal.returns-clause-words
returns-clause-words c = (done c).1.1
