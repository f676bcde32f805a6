-- What a job comes to, by its outcomes: 15, a refused call, or assembly. Assumes nothing.
use Prim.Native.Nat.{ℕ}
use mathlib.Core.Path.{◌≡◌, refl, sym, ap, ap₂, ◌∙◌}
use mathlib.Core.Bool.{Bool, true, false}
use mathlib.Core.List.{List}
use lib.ListN.{length}
use Rattle.units.specs.Reply.{Reply, accepted, refused}
use Rattle.records.specs.declared.Assembler.{Assembler}
use Rattle.records.specs.Store.{Store, store_of, counts_of, words_per_section}
use Rattle.calls.specs.Calls.{BuiltReply, all_reply}
use Rattle.layout.specs.Answer.{Laid}
use Rattle.assembler.specs.Assemble.{assembly}
use Rattle.job_steps.specs.JobFormat.{is_job, bad_job}
use Rattle.job_steps.specs.JobCalls.{job_calls, built_by}
use Rattle.job_steps.specs.declared.JobError.{JobError}
use Rattle.job_steps.specs.declared.JobError.TheVariants.{Refused, BadJob}
use Rattle.job_steps.specs.JobBuild.{JobBuild, job_build, error_reply}
use Rattle.job_steps.proofs.JobBuilds.{Builds, build_counts}
use Rattle.jobs.specs.JobOutcome.{LentSlices, JobResult, lent_slices, empty_store, assembled_from, job_result}

-- ---- by cases

-- what a job's calls answer
abbrev pub calls_reply : List ℕ → LentSlices → BuiltReply
calls_reply job lent = all_reply words_per_section (job_calls job) (empty_store lent)

-- what they build
abbrev pub calls_build : List ℕ → LentSlices → Store
calls_build job lent = built_by words_per_section (job_calls job) (empty_store lent)

module _ (job : List ℕ) (lent : LentSlices) where
  -- no job
  pub made_of_none : is_job job ≡ false → job_result words_per_section job lent ≡ record { reply = refused bad_job 0 0; slices = lent }
  unfolding job_result
  made_of_none e = rw e

  -- by what the calls answer
  pub made_of_calls : is_job job ≡ true → (r : BuiltReply) → calls_reply job lent ≡ r
      → job_result words_per_section job lent ≡ assembled_from words_per_section lent r (calls_build job lent)
  unfolding job_result
  made_of_calls good r e = rw (good, e)

module _ (job bytes words table result : List ℕ) where
  abbrev lent : LentSlices
  lent = lent_slices bytes words table result

  -- a reply and the slices afterwards are the job's
  abbrev pub Says : Reply Laid → LentSlices → Type 0
  Says reply slices = (reply ≡ (job_result words_per_section job lent).reply) × (slices ≡ (job_result words_per_section job lent).slices)

  -- what is made of one
  says : (m : JobResult) → m ≡ job_result words_per_section job lent → Says m.reply m.slices
  says m e = (ap (λ (x : JobResult). x.reply) e, ap (λ (x : JobResult). x.slices) e)

  -- what the steps come to
  abbrev steps : JobBuild
  steps = job_build words_per_section job (empty_store lent)

  abbrev pub Steps : BuiltReply → List ℕ → List ℕ → Type 0
  Steps reply bytes' words' = Builds words_per_section job (empty_store lent) reply bytes' words'

  -- the job is that, assembled: of what is no job nothing is, as of a refused call
  made_of_steps : assembled_from words_per_section lent steps.reply steps.store ≡ job_result words_per_section job lent
  unfolding job_build job_result
  made_of_steps = go (is_job job) refl
    where
      go : (b : Bool) → is_job job ≡ b → assembled_from words_per_section lent steps.reply steps.store ≡ job_result words_per_section job lent
      go true e = rw e refl
      go false e = rw e refl

  made_from : (r : BuiltReply) → r ≡ steps.reply → Says (assembled_from words_per_section lent r steps.store).reply (assembled_from words_per_section lent r steps.store).slices
  made_from r e =
      says (assembled_from words_per_section lent r steps.store) (ap (λ (x : BuiltReply). assembled_from words_per_section lent x steps.store) e ∙ made_of_steps)

  -- 15 or a refused call: neither table nor result is touched
  made_refused : (n i k : ℕ) (bytes' words' : List ℕ) → Steps (refused n i k) bytes' words' → Says (refused n i k) (lent_slices bytes' words' table result)
  made_refused n i k bytes' words' h =
      let m = made_from (refused n i k) h.0 in
      (m.0, ap₂ (λ (x y : List ℕ). lent_slices x y table result) h.1.0 h.1.1 ∙ m.1)

  -- so an error of the steps is the job's
  pub made_of_error : (e : JobError) (bytes' words' : List ℕ) → Steps (error_reply e) bytes' words' → Says (error_reply e) (lent_slices bytes' words' table result)
  made_of_error (Refused r) bytes' words' h = made_refused _ _ _ bytes' words' h
  made_of_error BadJob bytes' words' h = made_refused _ _ _ bytes' words' h

  -- else assembly
  pub made_assembled : (a : Assembler) (bytes' words' table' result' : List ℕ) (reply : Reply Laid) → Steps (accepted a) bytes' words'
      → reply ≡ (assembly words_per_section (store_of a bytes' words') (length table) result 0).reply
      → table' ≡ (assembly words_per_section (store_of a bytes' words') (length table) result 0).table
      → result' ≡ (assembly words_per_section (store_of a bytes' words') (length table) result 0).result
      → Says reply (lent_slices bytes' words' table' result')
  made_assembled a bytes' words' table' result' reply h p q r =
      let b = h.1.0 in
      let w = h.1.1 in
      let st = steps.store in
      let counted : store_of a bytes' words' ≡ store_of (counts_of st) bytes' words' =
      ap (λ (x : Assembler). store_of x bytes' words') (build_counts job (empty_store lent) a (sym h.0)) in
      let same : store_of a bytes' words' ≡ st = counted ∙ ap₂ (λ (x y : List ℕ). store_of (counts_of st) x y) b w in
      let m = made_from (accepted a) h.0 in (
        p ∙ ap (λ (s : Store). (assembly words_per_section s (length table) result 0).reply) same ∙ m.0,
        ap₂ (λ (x y : List ℕ). lent_slices x y table' result') b w
            ∙ ap₂ (λ (x y : List ℕ). lent_slices st.bytes st.words x y)
            (q ∙ ap (λ (s : Store). (assembly words_per_section s (length table) result 0).table) same)
            (r ∙ ap (λ (s : Store). (assembly words_per_section s (length table) result 0).result) same)
            ∙ m.1,
      )
