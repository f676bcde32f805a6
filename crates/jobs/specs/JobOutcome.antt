-- Document 02, request 2: a job as one definition, from its bytes and the lent slices to the answer and the slices afterwards. The bytes
-- printed are those that the same calls assemble on these slices. Assumes nothing.
use Rattle.std.specs.Prelude.{ℕ, ◌≤◌, cond, List, ltb, length, Result, Ok, Err}
use Rattle.units.specs.Reply.{Reply, accepted, refused}
use Rattle.slices.specs.Over.{over}
use Rattle.records.specs.Store.{Store, store_of, empty_counts}
use Rattle.calls.specs.Calls.{BuiltReply, all_reply}
use Rattle.layout.specs.Answer.{Laid}
use Rattle.assembler.specs.Assemble.{written, assembly}
use Rattle.units.specs.declared.reply.LaidOut.{LaidOut}
use Rattle.jobs.specs.declared.JobRun.{JobRun}
use Rattle.jobs.specs.declared.ShortText.{ShortText}
use Rattle.job_steps.specs.declared.JobError.{JobError}
use Rattle.job_steps.specs.JobBuild.{error_reply}
use Rattle.job_steps.specs.JobFormat.{is_job, bad_job}
use Rattle.job_steps.specs.JobCalls.{job_calls, built_by}
use Rattle.jobs.specs.JobText.{text_for, longest_text}

-- what the function answers, as a reply
abbrev pub job_reply : Result LaidOut JobError → Reply Laid
job_reply (Ok laid) = written laid.length laid.passes
job_reply (Err error) = error_reply error

-- the slices that are lent: 'store bytes, .. result bytes, a section for each step and a table of .. marks'
pub record LentSlices : Type 0 where
  pub bytes : List ℕ
  pub words : List ℕ
  pub table : List ℕ
  pub result : List ℕ

-- the four of them
abbrev pub lent_slices : List ℕ → List ℕ → List ℕ → List ℕ → LentSlices
lent_slices bytes words table result = record { bytes = bytes; words = words; table = table; result = result }

-- the reply, and the slices afterwards
pub record JobResult : Type 0 where
  pub reply : Reply Laid
  pub slices : LentSlices

-- 'counts to 0' (document 01, module 2), over the lent slices
abbrev pub empty_store : LentSlices → Store
empty_store lent = store_of empty_counts lent.bytes lent.words

-- what was built is assembled, from position 0 of the result on; of a refused call neither table nor result is touched
abbrev pub assembled_from : ℕ → LentSlices → BuiltReply → Store → JobResult
assembled_from w lent (refused n i k) st =
    record {
      reply = refused n i k;
      slices = lent_slices st.bytes st.words lent.table lent.result;
    }
assembled_from w lent (accepted counts) st =
    let made = assembly w st (length lent.table) lent.result 0 in
    record {
      reply = made.reply;
      slices = lent_slices st.bytes st.words made.table made.result;
    }

-- 15 before any call; else the calls in turn up to the first that is refused, and assembly
unfoldable pub job_result : ℕ → List ℕ → LentSlices → JobResult
job_result w job lent =
    cond (is_job job)
    (assembled_from w lent (all_reply w (job_calls job) (empty_store lent)) (built_by w (job_calls job) (empty_store lent)))
    (record { reply = refused bad_job 0 0; slices = lent })

-- the text of a job
abbrev pub job_text : ℕ → List ℕ → LentSlices → List ℕ
job_text w job lent = text_for (job_result w job lent).reply (job_result w job lent).slices.result

-- ---- with a buffer for the text

-- the reply and the text's length; or the buffer is shorter than the longest text, which has no number
pub data JobAnswer : Type 0 where
  ran : Reply Laid → ℕ → JobAnswer
  short_text : JobAnswer

-- what the function answers
abbrev pub answer_of : Result JobRun ShortText → JobAnswer
answer_of (Ok run) = ran (job_reply run.reply) run.text_length
answer_of (Err _) = short_text

-- the answer, the slices and the text buffer afterwards
pub record JobOutcome : Type 0 where
  pub answer : JobAnswer
  pub slices : LentSlices
  pub text : List ℕ

-- a text buffer that is too short is tested first, and nothing changes; else the text stands at its start
unfoldable pub job_outcome : ℕ → List ℕ → LentSlices → List ℕ → JobOutcome
job_outcome w job lent buffer =
    cond (ltb (length buffer) (longest_text (length lent.result)))
    (record { answer = short_text; slices = lent; text = buffer })
    (record {
      answer = ran (job_result w job lent).reply (length (job_text w job lent));
      slices = (job_result w job lent).slices;
      text = over buffer 0 (job_text w job lent);
    })

-- a text lies within a buffer of so many bytes
abbrev pub TextWithin : ℕ → Result JobRun ShortText → Type 0
TextWithin room (Ok run) = run.text_length ≤ room
TextWithin room (Err _) = Unit {0}

-- ---- private to the functions of this crate

-- code of an accepted reply lies within a result of so many bytes
abbrev pub FitsIn : ℕ → Reply Laid → Type 0
FitsIn room (accepted laid) = laid.length ≤ room
FitsIn room (refused n i k) = Unit {0}
