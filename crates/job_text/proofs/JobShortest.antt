-- Demand 3 of a job: what its calls built is assembled, so under demand 3's premises the code in its result is the shortest.
-- Assumes nothing.
use Prim.Native.Nat.{ℕ}
use mathlib.Core.Path.{◌≡◌}
use mathlib.Core.Bool.{true}
use mathlib.Core.List.{List}
use lib.ListN.{length}
use Rattle.units.specs.Reply.{accepted}
use Rattle.records.specs.declared.Assembler.{Assembler}
use Rattle.records.specs.Store.{words_per_section}
use Rattle.assembler.specs.Demand3.{Demand3}
use Rattle.assembler.proofs.Demand3.{demand_3_assembly}
use Rattle.job_steps.specs.JobFormat.{is_job}
use Rattle.jobs.specs.JobOutcome.{LentSlices, job_result}
use Rattle.jobs.proofs.JobMade.{calls_reply, calls_build, made_of_calls}

-- where every call of a job is accepted, demand 3 holds of what they built and of the job's reply, table and result
pub job_shortest : (job : List ℕ) (lent : LentSlices) (a : Assembler) → is_job job ≡ true → calls_reply job lent ≡ accepted a
    → Demand3 words_per_section (calls_build job lent) (length lent.table) lent.result 0
    (job_result words_per_section job lent).reply (job_result words_per_section job lent).slices.table
    (job_result words_per_section job lent).slices.result
job_shortest job lent a good e =
    rw (made_of_calls job lent good (accepted a) e)
    (demand_3_assembly words_per_section (calls_build job lent) (length lent.table) lent.result 0)
