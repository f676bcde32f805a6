-- Document 02, request 2: what a job is, and when it is 15, before any step. Reads nothing of any store. Assumes nothing.
use Rattle.std.specs.Prelude.{ℕ, zero, suc, ◌+◌, ◌*◌, ◌-◌, Bool, true, cond, ◌&&◌, List, [], ◌∷◌, length, get_or, leb, eqb}
use Rattle.std.proofs.Math.Seq.{slice}
use Rattle.units.specs.Numbers.{number}
use Rattle.numbers.specs.Forms.{is_form}
use Rattle.job_steps.specs.declared.read.Step.{Step}

-- ---- its parts: 'two sections in this order, each after its count of four bytes, highest first: pool bytes, then steps'

-- the number in the four bytes from `at` on, 'highest first'; a list that ends before them gives the number of fewer
abbrev pub number_at : List ℕ → ℕ → ℕ
number_at job at = number (slice at (at + 4) job)

-- the first count
abbrev pub pool_count : List ℕ → ℕ
pool_count job = number_at job 0

-- the pool bytes, after it
abbrev pub pool : List ℕ → List ℕ
pool job = slice 4 (4 + pool_count job) job

-- the second count, after the pool
abbrev pub step_count : List ℕ → ℕ
step_count job = number_at job (4 + pool_count job)

-- where the steps begin, after both counts and the pool
abbrev pub steps_start : List ℕ → ℕ
steps_start job = 8 + pool_count job

-- 'counted as steps, nine bytes each'
abbrev pub step_bytes : ℕ
step_bytes = 9

-- 'A step is a kind byte and two four-byte numbers, highest byte first.' The one that begins at `at`
abbrev pub step_at : List ℕ → ℕ → Step
step_at job at = record { kind = get_or job at 0; first = number_at job (at + 1); second = number_at job (at + 5) }

-- the step that nine bytes are
abbrev pub step_of : List ℕ → Step
step_of bytes = step_at bytes 0

-- n steps, one after another, the first at `at`
unfoldable pub steps_from : List ℕ → ℕ → ℕ → List Step
steps_from job zero at = []
steps_from job (suc n) at = step_at job at ∷ steps_from job n (at + step_bytes)

-- all steps
abbrev pub steps : List ℕ → List Step
steps job = steps_from job (step_count job) (steps_start job)

-- ---- 15

-- 'Errors: 15 at 0'
abbrev pub bad_job : ℕ
bad_job = 15

-- 'above 32,768 bytes'
abbrev pub max_job : ℕ
max_job = 32768

-- not 'short, long': the counts, the pool and the steps are the whole of it. Of a list that ends within a count or the pool the sum is
-- above the length
abbrev pub is_whole : List ℕ → Bool
is_whole job = eqb (length job) (steps_start job + step_bytes * step_count job)

-- the kinds: 1 a mark, 2 an op byte, 3 pool data, 4 a direct reference, 32 + form a delta
abbrev pub mark_step : ℕ
mark_step = 1

abbrev pub op_step : ℕ
op_step = 2

abbrev pub data_step : ℕ
data_step = 3

abbrev pub direct_step : ℕ
direct_step = 4

abbrev pub delta_step : ℕ
delta_step = 32

-- a listed kind with listed fields, with so many pool bytes: 'a mark (number, 0), .. an op byte (value up to 255, 0), .. pool data (start,
-- end, with the start at most the end and the end at most the pool count), .. a direct reference (mark, form), 32 + form a delta'
unfoldable pub is_listed : ℕ → Step → Bool
is_listed count s =
    cond (eqb s.kind mark_step) (eqb s.second 0)
    (cond (eqb s.kind op_step) (leb s.first 255 && eqb s.second 0)
    (cond (eqb s.kind data_step) (leb s.first s.second && leb s.second count)
    (cond (eqb s.kind direct_step) (is_form s.second)
    (leb delta_step s.kind && is_form (s.kind - delta_step)))))

-- every step is listed
unfoldable pub all_listed : ℕ → List Step → Bool
all_listed count [] = true
all_listed count (s ∷ ss) = is_listed count s && all_listed count ss

-- a job; anything else is 15: 'a job short, long, above 32,768 bytes, or with an unlisted kind or field, tested before any step'
unfoldable pub is_job : List ℕ → Bool
is_job job = leb (length job) max_job && is_whole job && all_listed (pool_count job) (steps job)
