-- A mark and a reference leave the bytes as they are.
-- Assumes nothing.
use mathlib.Core.Path.{sym, ap}
use Rattle.calls.specs.Calls.{added, bytes_of}
use Rattle.job_steps.specs.declared.validate.Call.{Call}
use Rattle.job_steps.specs.JobCalls.{push_of}
use Rattle.job_steps.proofs.JobSteps.{bytes_left}
use Rattle.job_steps.proofs.run.make_call.Goals as goal

pub returns-in-Mark-clause-bytes : goal.returns-in-Mark-clause-bytes
returns-in-Mark-clause-bytes c = sym (bytes_left _ _ (ap (λ (k : Call). bytes_of (added (push_of k))) c.in-Mark.is))

pub returns-in-Reference-clause-bytes : goal.returns-in-Reference-clause-bytes
returns-in-Reference-clause-bytes c = sym (bytes_left _ _ (ap (λ (k : Call). bytes_of (added (push_of k))) c.in-Reference.is))
