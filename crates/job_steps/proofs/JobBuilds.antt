-- What a job's steps come to, by its outcomes, and for a caller the counts of what was built. Assumes nothing.
use Prim.Native.Nat.{ℕ}
use mathlib.Core.Path.{◌≡◌, refl, sym, ap, ◌∙◌}
use mathlib.Core.Bool.{Bool, true, false}
use mathlib.Core.List.{List, [], ◌∷◌}
use Rattle.units.specs.Reply.{accepted, refused}
use Rattle.records.specs.declared.Assembler.{Assembler}
use Rattle.records.specs.Store.{Store, counts_of, words_per_section}
use Rattle.calls.specs.Calls.{BuiltReply, Push, push_after, all_reply}
use Rattle.calls.proofs.Refusals.{accepted_refused, all_first}
use Rattle.job_steps.specs.JobFormat.{is_job, bad_job}
use Rattle.job_steps.specs.JobCalls.{job_calls, built_by}
use Rattle.job_steps.specs.JobBuild.{job_build}
use Rattle.job_steps.proofs.JobLoops.{built_next}

module _ (w : ℕ) (job : List ℕ) (st : Store) where
  -- a reply and the two slices afterwards are the job's
  abbrev pub Builds : BuiltReply → List ℕ → List ℕ → Type 0
  Builds reply bytes words = (reply ≡ (job_build w job st).reply) × ((bytes ≡ (job_build w job st).store.bytes) × (words ≡ (job_build w job st).store.words))

  -- no job
  pub builds_none : is_job job ≡ false → Builds (refused bad_job 0 0) st.bytes st.words
  unfolding job_build
  builds_none e = rw e (refl, (refl, refl))

  -- the calls
  pub builds_called : is_job job ≡ true → (r : BuiltReply) (bytes words : List ℕ) → r ≡ all_reply w (job_calls job) st
      → bytes ≡ (built_by w (job_calls job) st).bytes → words ≡ (built_by w (job_calls job) st).words → Builds r bytes words
  unfolding job_build
  builds_called good r bytes words e b c = rw good (e, (b, c))

-- where every call is accepted, the counts answered are those of what was built
built_counts : (ps : List Push) (st : Store) (a : Assembler) → all_reply words_per_section ps st ≡ accepted a → a ≡ counts_of (built_by words_per_section ps st)
unfolding all_reply built_by
built_counts [] st a e = cc
built_counts (p ∷ ps) st a e =
    let first = all_first words_per_section p ps st a e in
    built_counts ps (push_after words_per_section p st) a first.2 ∙ ap counts_of (sym (built_next p ps st first.0 first.1))

-- and so where a job is
pub build_counts : (job : List ℕ) (st : Store) (a : Assembler) → (job_build words_per_section job st).reply ≡ accepted a → a ≡ counts_of (job_build words_per_section job st).store
unfolding job_build
build_counts job st a = go (is_job job) refl
  where
    go : (b : Bool) → is_job job ≡ b → (job_build words_per_section job st).reply ≡ accepted a → a ≡ counts_of (job_build words_per_section job st).store
    go true good e = rw good (built_counts (job_calls job) st a (rw good at e))
    go false none e = absurd (accepted_refused (sym (rw none at e)))
