-- Document 02, request 2: the calls that a job's steps are, and what they build. Assumes nothing.
use Rattle.std.specs.Prelude.{ℕ, ◌-◌, ◌%◌, cond, List, [], ◌∷◌, map, leb, eqb}
use Rattle.std.proofs.Math.Seq.{slice}
use Rattle.units.specs.declared.MarkReference.{MarkReference}
use Rattle.records.specs.Record.{set_size_of}
use Rattle.records.specs.Store.{Store}
use Rattle.calls.specs.Calls.{Push, push_mark, push_op_byte, push_data, push_reference, push_reply, push_after, if_stored}
use Rattle.numbers.specs.Forms.{direct, delta, formed}
use Rattle.job_steps.specs.declared.read.Step.{Step}
use Rattle.job_steps.specs.declared.validate.Call.{Call}
use Rattle.job_steps.specs.declared.validate.Call.TheVariants.{Mark, OpByte, Data, Reference}
use Rattle.job_steps.specs.JobFormat.{pool, steps, step_of, mark_step, op_step, data_step, direct_step, delta_step}

-- 'Form is the set size, 0 if unsized, plus 8 if pushed.' These marks in a form
abbrev pub in_form : MarkReference → ℕ → Push
in_form m form = push_reference (formed m (set_size_of (form % 8)) (leb 8 form))

-- the call that a listed step was read as
abbrev pub push_of : Call → Push
push_of (Mark mark) = push_mark mark.0
push_of (OpByte byte) = push_op_byte byte
push_of (Data bytes) = push_data bytes.now
push_of (Reference r) = push_reference r

-- the call that a listed step is: a mark, an op byte, the pool bytes from start up to end as data, a direct reference, a delta
unfoldable pub step_call : List ℕ → Step → Push
step_call bytes s =
    cond (eqb s.kind mark_step) (push_mark s.first)
    (cond (eqb s.kind op_step) (push_op_byte s.first)
    (cond (eqb s.kind data_step) (push_data (slice s.first s.second bytes))
    (cond (eqb s.kind direct_step) (in_form (direct s.first) s.second)
    (in_form (delta s.first s.second) (s.kind - delta_step)))))

-- the calls that a job's steps are, in order
abbrev pub job_calls : List ℕ → List Push
job_calls job = map (step_call (pool job)) (steps job)

-- the calls of steps of nine bytes each
abbrev pub calls_of : List ℕ → List (List ℕ) → List Push
calls_of bytes steps = map (step_call bytes) (map step_of steps)

-- 'The first refused call ends the job': the store after calls made in turn, up to the first that is refused
unfoldable pub built_by : ℕ → List Push → Store → Store
built_by w [] st = st
built_by w (p ∷ ps) st = if_stored (push_reply w p st) (built_by w ps (push_after w p st)) st
