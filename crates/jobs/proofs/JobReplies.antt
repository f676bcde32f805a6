-- The text of a reply, and the whole outcome by its two cases. Assumes nothing.
use Prim.Native.Nat.{ℕ, ◌≤◌}
use native.Mathlib.Omega.{arith}
use mathlib.Core.Path.{◌≡◌, sym, ap, ap₂, ◌∙◌, subst}
use mathlib.Core.Bool.{true, false}
use mathlib.Core.List.{List}
use lib.ListN.{length}
use lib.Dec.{ltb}
use Rattle.units.specs.Reply.{Reply, accepted, refused}
use Rattle.slices.specs.Over.{over}
use Rattle.slices.proofs.Tests.{cond_case}
use Rattle.records.specs.Store.{Store, words_per_section}
use Rattle.calls.specs.Calls.{BuiltReply, all_reply}
use Rattle.layout.specs.Answer.{Laid}
use Rattle.settling.specs.Settle.{settling}
use Rattle.records.specs.Sections.{decode}
use Rattle.assembler.specs.Assemble.{Outcome as Assembly, is_full, writing, assembly}
use Rattle.assembler.proofs.Outcomes.{fits_law}
use Rattle.std.specs.declared.result.Result.{Result}
use Rattle.units.specs.declared.reply.LaidOut.{LaidOut}
use Rattle.job_steps.specs.declared.JobError.{JobError}
use Rattle.job_steps.specs.JobFormat.{is_job}
use Rattle.job_steps.specs.JobCalls.{job_calls, built_by}
use Rattle.jobs.specs.JobText.{text_for, longest_text}
use Rattle.jobs.specs.JobOutcome.{LentSlices, empty_store, job_reply, assembled_from, JobResult, job_result, FitsIn, JobAnswer, short_text, ran, JobOutcome, job_text, job_outcome}

-- ---- the text of a reply

-- it stands at the start of the buffer, which it doesn't pass, and so many bytes it has
abbrev pub Wrote : List ℕ → List ℕ → Result LaidOut JobError → ℕ → List ℕ → Type 0
Wrote result buffer reply n after =
    (n ≤ length buffer) × ((n ≡ length (text_for (job_reply reply) result)) × (after ≡ over buffer 0 (text_for (job_reply reply) result)))

-- of the reply in its case
pub wrote : (result buffer : List ℕ) (reply x : Result LaidOut JobError) {n : ℕ} {after : List ℕ} → reply ≡ x → Wrote result buffer x n after → Wrote result buffer reply n after
wrote result buffer reply x {n} {after} e w = subst (λ (r : Result LaidOut JobError). Wrote result buffer r n after) (sym e) w

-- ---- the code lies within the result

assembly_fits : (w : ℕ) (st : Store) (n : ℕ) (result : List ℕ) → FitsIn (length result) (assembly w st n result 0).reply
unfolding assembly
assembly_fits w st n result = go (settling w n st).reply
  where
    go : (r : Reply Laid) → FitsIn (length result) (writing n result 0 (decode w st) (settling w n st).table r).reply
    go (refused m i k) = tt
    go (accepted laid) =
        cond_case (λ (o : Assembly). FitsIn (length result) o.reply) (is_full (length result) 0 laid.length) _ _ (λ _. tt)
        (λ e. let h = (fits_law (length result) 0 laid.length).0 e in omega (arith, h))

from_fits : (w : ℕ) (lent : LentSlices) (r : BuiltReply) (st : Store) → FitsIn (length lent.result) (assembled_from w lent r st).reply
from_fits w lent (refused n i k) st = tt
from_fits w lent (accepted a) st = assembly_fits w st (length lent.table) lent.result

made_fits : (w : ℕ) (job : List ℕ) (lent : LentSlices) → FitsIn (length lent.result) (job_result w job lent).reply
unfolding job_result
made_fits w job lent =
    cond_case (λ (m : JobResult). FitsIn (length lent.result) m.reply) (is_job job) _ _
    (λ _. from_fits w lent (all_reply w (job_calls job) (empty_store lent)) (built_by w (job_calls job) (empty_store lent))) (λ _. tt)

-- of the code's own reply, and a result of that length
pub reply_fits : (w : ℕ) (job : List ℕ) (lent : LentSlices) (r : Reply Laid) (room : ℕ) → r ≡ (job_result w job lent).reply → room ≡ length lent.result → FitsIn room r
reply_fits w job lent r room e l = subst (λ (n : ℕ). FitsIn n r) (sym l) (subst (FitsIn (length lent.result)) (sym e) (made_fits w job lent))

-- ---- the outcome

module _ (job : List ℕ) (lent : LentSlices) (buffer : List ℕ) where
  abbrev pub Outcome : JobAnswer → LentSlices → List ℕ → Type 0 → Type 0
  Outcome answer slices text within =
      (answer ≡ (job_outcome words_per_section job lent buffer).answer)
      × ((slices ≡ (job_outcome words_per_section job lent buffer).slices) × ((text ≡ (job_outcome words_per_section job lent buffer).text) × within))

  -- what is an outcome
  is_outcome : (o : JobOutcome) → o ≡ job_outcome words_per_section job lent buffer → Outcome o.answer o.slices o.text (Unit {0})
  is_outcome o e = (ap (λ (x : JobOutcome). x.answer) e, (ap (λ (x : JobOutcome). x.slices) e, (ap (λ (x : JobOutcome). x.text) e, tt)))

  -- too short a buffer: nothing changes
  pub outcome_short : ltb (length buffer) (longest_text (length lent.result)) ≡ true → Outcome short_text lent buffer (Unit {0})
  unfolding job_outcome
  outcome_short e = is_outcome (record { answer = short_text; slices = lent; text = buffer }) (rw e)

  -- else the reply and its text
  pub outcome_ran : ltb (length buffer) (longest_text (length lent.result)) ≡ false
      → (reply : Result LaidOut JobError) (slices : LentSlices) (n : ℕ) (text : List ℕ)
      → job_reply reply ≡ (job_result words_per_section job lent).reply → slices ≡ (job_result words_per_section job lent).slices
      → Wrote slices.result buffer reply n text
      → Outcome (ran (job_reply reply) n) slices text (n ≤ length buffer)
  unfolding job_outcome
  outcome_ran e reply slices n text r s w =
      let made = job_result words_per_section job lent in
      let t : text_for (job_reply reply) slices.result ≡ job_text words_per_section job lent = ap₂ (λ (x : Reply Laid) (y : LentSlices). text_for x y.result) r s in
      let defined : JobOutcome = record { answer = ran made.reply (length (job_text words_per_section job lent)); slices = made.slices; text = over buffer 0 (job_text words_per_section job lent) } in
      let same : defined ≡ job_outcome words_per_section job lent buffer = rw e in
      let o = is_outcome defined same in
      (ap₂ ran r (w.1.0 ∙ ap length t) ∙ o.0, (s ∙ o.1.0, (w.1.1 ∙ ap (over buffer 0) t ∙ o.1.1.0, w.0)))
