-- The calls of a job: one for each step, and none that can be refused by 1 or 2. Assumes nothing.
use Prim.Native.Nat.{ℕ, zero, suc, ◌+◌}
use mathlib.Core.Path.{◌≡◌, refl, ap, ◌∙◌}
use mathlib.Core.Bool.{false}
use mathlib.Core.List.{List, [], ◌∷◌, map}
use lib.Dec.{eqb}
use lib.ListN.{length, length-map}
use Rattle.slices.proofs.Tests.{cond_case}
use Rattle.calls.specs.Calls.{Push, has_bad_depth, has_bad_word}
use Rattle.job_steps.specs.declared.read.Step.{Step}
use Rattle.job_steps.specs.JobFormat.{pool, step_count, steps_start, step_bytes, steps_from, steps, mark_step, op_step, data_step, direct_step}
use Rattle.job_steps.specs.JobCalls.{step_call, job_calls}

-- a call that can't be refused by 1 or 2
abbrev pub Plain : Push → Type 0
Plain p = (has_bad_depth p ≡ false) × (has_bad_word p ≡ false)

-- so every call of a list
abbrev pub EveryPlain : List Push → Type 0
EveryPlain [] = Unit {0}
EveryPlain (p ∷ ps) = Plain p × EveryPlain ps

-- the call of a step is one
step_plain : (bytes : List ℕ) (s : Step) → Plain (step_call bytes s)
unfolding step_call
step_plain bytes s =
    cond_case Plain (eqb s.kind mark_step) _ _ (λ _. (refl, refl))
    (λ _. cond_case Plain (eqb s.kind op_step) _ _ (λ _. (refl, refl))
    (λ _. cond_case Plain (eqb s.kind data_step) _ _ (λ _. (refl, refl))
    (λ _. cond_case Plain (eqb s.kind direct_step) _ _ (λ _. (refl, refl)) (λ _. (refl, refl)))))

-- so are those of steps
steps_plain : (bytes : List ℕ) (ss : List Step) → EveryPlain (map (step_call bytes) ss)
steps_plain bytes [] = tt
steps_plain bytes (s ∷ ss) = (step_plain bytes s, steps_plain bytes ss)

-- and of a job
pub job_plain : (job : List ℕ) → EveryPlain (job_calls job)
job_plain job = steps_plain (pool job) (steps job)

-- so many steps
length_steps : (job : List ℕ) (n at : ℕ) → length (steps_from job n at) ≡ n
unfolding steps_from
length_steps job zero at = refl
length_steps job (suc n) at = ap suc (length_steps job n (at + step_bytes))

-- a call for each step
pub length_calls : (job : List ℕ) → length (job_calls job) ≡ step_count job
length_calls job = length-map (steps job) (step_call (pool job)) ∙ length_steps job (step_count job) (steps_start job)
