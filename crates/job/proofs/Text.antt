-- What a run of a job answers and leaves in its text buffer is the text of the job, and no buffer that has room is too short.
-- Assumes nothing.
use Rattle.std.proofs.Common.{◌≡◌, ℕ, ◌+◌, ◌≤◌, ◌<◌, List, arith, length, take, drop, sym, ap, ◌∙◌, take_at, take_all, length-take-le}
use Rattle.std.proofs.lemmas.Bool.{lt-leb, cases_lt}
use mathlib.Core.Logic.{◌⊎◌, inl, inr}
use mathlib.Core.Bool.{false, ◌&&◌}
use Rattle.slices.specs.Over.{over}
use Rattle.units.specs.Reply.{Reply}
use Rattle.layout.specs.Answer.{Laid}
use Rattle.records.specs.Store.{words_per_section}
use Rattle.job_steps.specs.JobFormat.{step_count, steps, pool_count, is_whole, all_listed, is_job, bad_job, max_job}
use Rattle.jobs.specs.JobOutcome.{JobResult, ran, short_text, job_outcome}
use Rattle.jobs.specs.JobText.{text_for, refused_text}
use Rattle.jobs.proofs.JobMade.{made_of_none}
use Rattle.job_text.specs.Printed.{printed, request_slices}
use Rattle.job_text.proofs.JobAlone.{prints}

short_is_not_ran : (r : Reply Laid) (n : ℕ) → short_text ≡ ran r n → ⊥
short_is_not_ran r n e = let z : ◌≡◌ {A = ℕ} 0 1 = cc in omega arith

same_count : (r q : Reply Laid) (m n : ℕ) → ran r m ≡ ran q n → m ≡ n
same_count r q m n e = cc

front : (text old xs : List ℕ) (n : ℕ) → text ≡ over old 0 xs → n ≡ length xs → take n text ≡ xs
front text old xs n written long = ap (take n) written ∙ take_at xs (drop (0 + length xs) old) n (sym long)

-- 'too short' is not what a run answers where there is room
pub not_short : (job buffer : List ℕ) → 131078 ≤ length buffer → short_text ≡ (job_outcome words_per_section job (request_slices (step_count job)) buffer).answer → ⊥
not_short job buffer room answer = short_is_not_ran _ _ (answer ∙ (prints job buffer room).answer)

-- as many bytes of the buffer as are answered are the job's text
pub text_of_job : (job buffer text : List ℕ) (r : Reply Laid) (n : ℕ) → 131078 ≤ length buffer
    → ran r n ≡ (job_outcome words_per_section job (request_slices (step_count job)) buffer).answer
    → text ≡ (job_outcome words_per_section job (request_slices (step_count job)) buffer).text
    → take n text ≡ printed job
text_of_job job buffer text r n room answer written =
    let told = prints job buffer room in
    front text buffer (printed job) n (written ∙ told.text) (same_count r _ n _ (answer ∙ told.answer))

-- ---- an input that is longer than the longest job

-- what is no job has the text of 15
text_of_none : (job : List ℕ) → is_job job ≡ false → printed job ≡ refused_text bad_job 0
text_of_none job none = ap (λ (m : JobResult). text_for m.reply m.slices.result) (made_of_none job (request_slices (step_count job)) none)

-- what is longer is no job
long_is_none : (job : List ℕ) → max_job < length job → is_job job ≡ false
unfolding is_job
long_is_none job long = ap (λ b. b && is_whole job && all_listed (pool_count job) (steps job)) (lt-leb _ _ long)

of_read : (input : List ℕ) → (max_job + 1 < length input) ⊎ (length input ≤ max_job + 1) → printed (take (max_job + 1) input) ≡ printed input
of_read input (inl long) =
    let read : length (take (max_job + 1) input) ≡ max_job + 1 = length-take-le (max_job + 1) input (omega arith) in
    text_of_none (take (max_job + 1) input) (long_is_none (take (max_job + 1) input) (omega arith)) ∙ sym (text_of_none input (long_is_none input (omega arith)))
of_read input (inr whole) = ap printed (take_all (max_job + 1) input whole)

-- the text of an input is that of as much of it as is read
pub printed_of_read : (input : List ℕ) → printed (take (max_job + 1) input) ≡ printed input
printed_of_read input = of_read input (cases_lt (max_job + 1) (length input))
