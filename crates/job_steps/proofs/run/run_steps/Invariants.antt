-- The invariant: with the steps left still to be taken, the job is as it is to be.
-- Assumes nothing.
use Rattle.records.specs.Store.{store_of, empty_counts}
use Rattle.job_steps.proofs.JobLoops.{Taking}
use Rattle.job_steps.proofs.run.run_steps.Given as goal

abbrev pub invariant-loop-step : goal.invariant-loop-step
invariant-loop-step l =
    Taking l.job.pool.now (store_of empty_counts l.initial.bytes l.initial.words) l.job.steps.now l.step-index (store_of l.store l.bytes l.words)
