-- The slices are as long as the request says, and what they hold doesn't matter.
-- Assumes nothing.
use mathlib.Core.Path.{◌∙◌}
use Rattle.jobs.specs.JobOutcome.{lent_slices}
use Rattle.job_text.proofs.JobAlone.{MadeSlices, made_outcome}
use Rattle.job_text.proofs.write_text.Goals as goal

pub returns : goal.returns
returns c =
    let made : MadeSlices (lent_slices _ _ _ _) =
    record {
      bytes = c.filled-bytes.ensures;
      words = c.filled-words.ensures;
      table = c.filled-table.ensures;
      result = c.filled-result.ensures;
    } in
    let e = c.run_job.ensures in
    let same = made_outcome c.args.job.now _ c.args.text.now made in
    record {
      answer = e.answer ∙ same.0;
      text = e.text ∙ same.1;
      within = e.within;
    }
