-- The parts are cut off in turn.
-- Assumes nothing.
use native.Mathlib.Omega.{arith}
use Prim.Native.Nat.{ℕ}
use mathlib.Core.Path.{ap, sym, ◌∙◌}
use mathlib.Core.List.{List, map}
use Rattle.job_steps.specs.JobFormat.{step_of}
use Rattle.job_steps.proofs.JobBytes.{Cut, cut, cut_whole, cut_not_whole, cut_steps}
use Rattle.job_steps.proofs.read.whole_parts.Goals as goal
use Rattle.job_steps.proofs.read.whole_parts.Goals.{then-left-ne0-via-then-left-ne0, then-left-ne0-via-else-left-ne0+then-steps-number}

pub returns-then-left-ne0-clause-whole : goal.returns-then-left-ne0-clause-whole
returns-then-left-ne0-clause-whole c =
    let first = c.in_ok-pool_count.ensures.cases in
    let split = c.in_ok-pool.ensures.cases in
    let second = c.in_ok-step_count.ensures.cases in
    let parts = cut c.args.job.now _ _ _ _ _ _ _ first.0 first.1 first.2 c.number.ensures split second.0 second.1 second.2 in
    let left = c.as_chunks.ensures.back_len in
    let whole = c.as_chunks.ensures.front_len in
    cut_not_whole _ _ _ _ parts (λ e. elim c.then-left-ne0.branch [
      | then-left-ne0-via-then-left-ne0 w ↦ omega (arith, e, left, w.if-left-ne0.true)
      | then-left-ne0-via-else-left-ne0+then-steps-number w ↦ omega (arith, e, whole, w.number-else-left-ne0.ensures, w.if-steps-number.true)
    ])

parts : (c : goal.Else-steps-number) → Cut c.args.job.now c.in_ok-pool.pool.now c.in_ok-step_count.rest.now c.number-else-left-ne0.result
parts c =
    let first = c.in_ok-pool_count.ensures.cases in
    let split = c.in_ok-pool.ensures.cases in
    let second = c.in_ok-step_count.ensures.cases in
    rw c.number-else-left-ne0.ensures (cut c.args.job.now _ _ _ _ _ _ _ first.0 first.1 first.2 c.number.ensures split second.0 second.1 second.2)

pub returns-clause-whole : goal.returns-clause-whole
returns-clause-whole c =
    let left = c.as_chunks.ensures.back_len in
    let whole = c.as_chunks.ensures.front_len in
    let none = c.if-left-ne0.false in
    let all = c.if-steps-number.false in
    cut_whole _ _ _ _ (parts c) (omega (arith, left, whole, none, all))

pub returns-clause-parts : goal.returns-clause-parts
returns-clause-parts c =
    let chunks = c.as_chunks.ensures in
    ((parts c).lent, ap (λ (xs : List (List ℕ)). map step_of xs) chunks.front ∙ cut_steps _ _ _ _ (parts c) _ (sym chunks.front_len ∙ c.if-steps-number.false))
