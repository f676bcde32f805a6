-- Document 02, request 2: what a job's steps come to, before assembly. Assumes nothing.
use Rattle.std.specs.Prelude.{ℕ, cond, List, Result, Ok, Err}
use Rattle.units.specs.Reply.{Reply, accepted, refused, refusal_reply}
use Rattle.records.specs.declared.Assembler.{Assembler}
use Rattle.records.specs.Store.{Store}
use Rattle.calls.specs.Calls.{BuiltReply, all_reply}
use Rattle.job_steps.specs.declared.JobError.{JobError}
use Rattle.job_steps.specs.declared.JobError.TheVariants.{Refused, BadJob}
use Rattle.job_steps.specs.JobFormat.{is_job, bad_job}
use Rattle.job_steps.specs.JobCalls.{job_calls, built_by}

-- why a job came to nothing, as a reply: 15, or the refusal
abbrev pub error_reply : {A : Type 0} → JobError → Reply A
error_reply (Refused r) = refusal_reply r
error_reply BadJob = refused bad_job 0 0

-- what the function answers, as a reply
abbrev pub job_built_reply : Result Assembler JobError → BuiltReply
job_built_reply (Ok counts) = accepted counts
job_built_reply (Err error) = error_reply error

-- the reply, and the store afterwards
pub record JobBuild : Type 0 where
  pub reply : BuiltReply
  pub store : Store

-- 15, tested before any step, and the store as it was; else the calls in turn, up to the first that is refused
unfoldable pub job_build : ℕ → List ℕ → Store → JobBuild
job_build w job st =
    cond (is_job job)
    (record { reply = all_reply w (job_calls job) st; store = built_by w (job_calls job) st })
    (record { reply = refused bad_job 0 0; store = st })
