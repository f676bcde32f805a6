-- Assumes nothing.
use mathlib.Core.Path.{◌∙◌}
use Rattle.std.proofs.Common.{rules}
use Rattle.job_steps.proofs.JobBytes.{four_bytes}
use Rattle.job_steps.proofs.read.number.Goals as goal

pub returns : goal.returns
returns c = c.from_be_bytes.ensures ∙ four_bytes _ (search rules)
