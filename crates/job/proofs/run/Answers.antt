use Rattle.std.proofs.Common.{ℕ, List, OnOk, Result, Ok, Err, subst, sym, ◌∙◌}
use Rattle.std.specs.Io.KnownBytes.{Appends}
use Rattle.job_text.specs.Printed.{printed}
use Rattle.job.proofs.Input.{of_input}
use Rattle.job.proofs.Text.{printed_of_read}
use Rattle.job.proofs.run.Goals as goal

then : {X E : Type 0} {A B : Type 0} (r : Result X E) → OnOk r A → (A → B) → OnOk r B
then (Ok x) p f = f p
then (Err e) p f = tt

-- the text of what was read is that of all the input
pub returns-clause-written : goal.returns-clause-written
returns-clause-written g c =
    let h = c.in_ok-n.ensures in
    let Holds : List ℕ → Type 0 = λ text. Appends (g.W.Write.contents c.args.out.now) (g.W.Write.contents c.print_job.new.out) text in
    let long = sym c.filled-job.ensures ∙ sym c.read_full.auto.buffer in
    then c.print_job.result c.print_job.ensures.written (λ written.
    of_input _ _ c.read_full.new.buffer _ c.in_ok-n.n (λ bytes. Holds (printed bytes)) long h.within h.bytes h.all (λ bytes p. subst Holds (printed_of_read bytes) p) written)
