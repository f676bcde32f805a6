-- By the outcomes of JobBuilds: 15, or what the calls answer.
-- Assumes nothing.
use mathlib.Core.Path.{sym, ap, ◌∙◌}
use mathlib.Core.List.{List}
use Rattle.records.specs.Store.{Store, store_of, empty_counts, words_per_section}
use Rattle.calls.specs.Calls.{Push, all_reply}
use Rattle.units.specs.Reply.{refused}
use Rattle.job_steps.specs.JobFormat.{bad_job}
use Rattle.job_steps.specs.JobBuild.{job_built_reply}
use Rattle.job_steps.specs.JobCalls.{built_by}
use Rattle.job_steps.proofs.JobBuilds.{Builds, builds_none, builds_called}
use Rattle.job_steps.proofs.JobLoops.{job_listed, calls_read}
use Rattle.job_steps.proofs.build_job.Goals as goal
use Rattle.job_steps.proofs.build_job.Goals.{In_default, After-run_steps}

none : (c : goal.In_default) → Builds words_per_section c.args.job.now (store_of empty_counts c.args.bytes.now c.args.words.now) (refused bad_job 0 0) c.args.bytes.now c.args.words.now
none c = builds_none words_per_section _ (store_of empty_counts c.args.bytes.now c.args.words.now) (sym c.in_default.ensures.job)

pub returns-in_default-clause-reply : goal.returns-in_default-clause-reply
returns-in_default-clause-reply c = (none c).0

pub returns-in_default-clause-bytes : goal.returns-in_default-clause-bytes
returns-in_default-clause-bytes c = (none c).1.0

pub returns-in_default-clause-words : goal.returns-in_default-clause-words
returns-in_default-clause-words c = (none c).1.1

pub run_steps-requires : goal.run_steps-requires
run_steps-requires c = let e = c.in-Some.ensures in job_listed c.args.job.now _ _ (sym e.job) e.parts.0 e.parts.1

ran : (c : goal.After-run_steps)
    → Builds words_per_section c.args.job.now (store_of empty_counts c.args.bytes.now c.args.words.now) (job_built_reply c.run_steps.result) c.run_steps.new.bytes c.run_steps.new.words
ran c =
    let st : Store = store_of empty_counts c.args.bytes.now c.args.words.now in
    let e = c.in-Some.ensures in
    let same = calls_read c.args.job.now _ _ (sym e.job) e.parts.0 e.parts.1 in
    let built = ap (λ (ps : List Push). built_by words_per_section ps st) same in
    builds_called words_per_section _ st (sym e.job) _ _ _
    (c.run_steps.ensures.reply ∙ ap (λ (ps : List Push). all_reply words_per_section ps st) same)
    (c.run_steps.ensures.bytes ∙ ap (λ (s : Store). s.bytes) built)
    (c.run_steps.ensures.words ∙ ap (λ (s : Store). s.words) built)

pub returns-clause-reply : goal.returns-clause-reply
returns-clause-reply c = (ran (goal.at.returns-clause-reply c).After-run_steps).0

pub returns-clause-bytes : goal.returns-clause-bytes
returns-clause-bytes c = (ran (goal.at.returns-clause-bytes c).After-run_steps).1.0

pub returns-clause-words : goal.returns-clause-words
returns-clause-words c = (ran (goal.at.returns-clause-words c).After-run_steps).1.1
