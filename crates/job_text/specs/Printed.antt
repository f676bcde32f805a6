-- Document 02, request 2: what is printed for a job. Assumes nothing.
use Rattle.std.specs.Prelude.{ℕ, ◌*◌, ◌≡◌, List, length, replicate}
use Rattle.slices.specs.Over.{over}
use Rattle.records.specs.Store.{words_per_section}
use Rattle.job_steps.specs.JobFormat.{step_count}
use Rattle.jobs.specs.JobOutcome.{LentSlices, lent_slices, job_result, job_text, ran, job_outcome}

-- 'The program lends 65,536 store bytes, 65,536 result bytes, a section for each step and a table of 16,384 marks.'
abbrev pub store_bytes : ℕ
store_bytes = 65536

abbrev pub result_bytes : ℕ
result_bytes = 65536

abbrev pub table_marks : ℕ
table_marks = 16384

-- so many zeros; what slices hold doesn't matter (`job_alone`, proofs/JobAlone)
unfoldable pub zeros : ℕ → List ℕ
zeros n = replicate n 0

-- the slices, for so many steps
abbrev pub request_slices : ℕ → LentSlices
request_slices steps = lent_slices (zeros store_bytes) (zeros (words_per_section * steps)) (zeros table_marks) (zeros result_bytes)

-- the text of a job on them
abbrev pub printed : List ℕ → List ℕ
printed job = job_text words_per_section job (request_slices (step_count job))

-- a run on them with this text buffer leaves it at the buffer's start and answers its length; so it does wherever the buffer has at least
-- 131,078 bytes (`prints`, proofs/JobAlone)
pub record Prints (job buffer : List ℕ) : Type 0 where
  pub answer :
      (job_outcome words_per_section job (request_slices (step_count job)) buffer).answer
      ≡ ran (job_result words_per_section job (request_slices (step_count job))).reply (length (printed job))
  pub text : (job_outcome words_per_section job (request_slices (step_count job)) buffer).text ≡ over buffer 0 (printed job)
