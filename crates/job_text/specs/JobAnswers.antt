-- Document 02, request 2: laws of a job's answer: when it is 15, which numbers there are, and that the text depends on the job alone,
-- given the slices' lengths. They are proved in proofs/JobNumbers (`fifteen_iff`, `job_numbers`) and proofs/JobAlone (`job_alone`).
-- Assumes nothing.
use Rattle.std.specs.Prelude.{ℕ, ◌*◌, ◌≤◌, ◌≡◌, ◌↔◌, ◌⊎◌, true, false, List, length}
use Rattle.units.specs.Replies.{large_mark, bytes_full, sections_full, short_table, result_full, start_unplaced, end_unplaced}
use Rattle.units.specs.Reply.{refused}
use Rattle.records.specs.Store.{words_per_section}
use Rattle.job_steps.specs.JobFormat.{step_count, is_job, bad_job}
use Rattle.jobs.specs.JobOutcome.{LentSlices, job_result, job_text}

-- a job is refused with a number, a section and passes
abbrev pub JobRefused : List ℕ → LentSlices → ℕ → ℕ → ℕ → Type 0
JobRefused job lent n i k = (job_result words_per_section job lent).reply ≡ refused n i k

-- 15 is answered at 0 with no pass, to what is no job and to nothing else
abbrev pub FifteenIff : List ℕ → LentSlices → Type 0
FifteenIff job lent = (i k : ℕ) → JobRefused job lent bad_job i k ↔ ((is_job job ≡ false) × (i ≡ 0) × (k ≡ 0))

-- 'a section for each step' of a job is lent
abbrev pub HasSections : List ℕ → LentSlices → Type 0
HasSections job lent = is_job job ≡ true → words_per_section * step_count job ≤ length lent.words

-- 3, 4 or 5 of a call, or 15: at 0, with no pass
abbrev pub EarlyRefusal : ℕ → ℕ → ℕ → Type 0
EarlyRefusal n i k = ((n ≡ large_mark) ⊎ ((n ≡ bytes_full) ⊎ ((n ≡ sections_full) ⊎ (n ≡ bad_job)))) × (i ≡ 0) × (k ≡ 0)

-- 7 to 13, 17 or 18, of assembly
abbrev pub LateRefusal : ℕ → Type 0
LateRefusal n = ((short_table ≤ n) × (n ≤ result_full)) ⊎ ((n ≡ start_unplaced) ⊎ (n ≡ end_unplaced))

-- the numbers of a job's refusals
pub record NumbersOf (job : List ℕ) (lent : LentSlices) : Type 0 where
  -- on any slices: never 6
  pub any : (n i k : ℕ) → JobRefused job lent n i k → EarlyRefusal n i k ⊎ LateRefusal n
  -- where there is a section for each step, no 5
  pub no_five : HasSections job lent → (i k : ℕ) → JobRefused job lent sections_full i k → ⊥

-- ---- the text is the job's alone

-- byte slices, tables and results of the same length, and a section for each step in both
pub record Alike (job : List ℕ) (a b : LentSlices) : Type 0 where
  pub bytes : length a.bytes ≡ length b.bytes
  pub table : length a.table ≡ length b.table
  pub result : length a.result ≡ length b.result
  pub sections : HasSections job a
  pub sections' : HasSections job b

-- the same answer and the same text
pub record SameText (job : List ℕ) (a b : LentSlices) : Type 0 where
  pub reply : (job_result words_per_section job a).reply ≡ (job_result words_per_section job b).reply
  pub text : job_text words_per_section job a ≡ job_text words_per_section job b
