-- The loop over a job's steps: what is left of them comes to what all of them come to. Assumes nothing.
use Prim.Native.Nat.{ℕ, ◌+◌, ◌*◌, ◌-◌, ◌≤◌, ◌<◌}
use native.Mathlib.Omega.{arith}
use mathlib.Core.Path.{◌≡◌, refl, sym, ap, ap₂, ◌∙◌, subst}
use mathlib.Core.Bool.{Bool, true, false, ◌&&◌, and-false, and-eq-true_iff as and-true}
use mathlib.Core.List.{List, [], ◌∷◌, map}
use lib.ListN.{length, get_or, drop}
use lib.Seq.{length-slice}
use lib.Dec.{leb}
use Rattle.std.specs.List.{list_all}
use Rattle.std.proofs.lemmas.List.{drop_more, drop_all}
use borrow.Author.Tests.{eqb-true, leb-true, le-leb, lt-leb}
use Rattle.units.specs.Reply.{accepted, refused, refusal_reply}
use Rattle.units.specs.declared.reply.Refusal.{Refusal}
use Rattle.records.specs.declared.Assembler.{Assembler}
use Rattle.records.specs.Store.{Store, store_of, counts_of, empty_counts, words_per_section}
use Rattle.calls.specs.Calls.{Push, BuiltReply, push_reply, push_after, all_reply}
use Rattle.calls.proofs.Refusals.{push_answers, accepted_added, refused_same, all_next, all_refused}
use Rattle.job_steps.specs.declared.read.Step.{Step}
use Rattle.job_steps.specs.JobFormat.{step_of, steps, step_bytes, is_listed, all_listed, pool_count, pool, step_count, steps_start, is_whole, is_job, max_job}
use Rattle.job_steps.specs.JobCalls.{step_call, job_calls, calls_of, built_by}
use Rattle.job_steps.proofs.JobSteps.{Answers}

-- ---- all listed

-- by the steps' bytes, or as they are read
pub listed_bytes : (n : ℕ) (xs : List (List ℕ)) → list_all (λ x. is_listed n (step_of x)) xs ≡ all_listed n (map step_of xs)
unfolding all_listed
listed_bytes n [] = refl
listed_bytes n (x ∷ xs) = ap (λ (b : Bool). is_listed n (step_of x) && b) (listed_bytes n xs)

-- ---- a job

module _ (job : List ℕ) where
  pub too_long : max_job < length job → false ≡ is_job job
  unfolding is_job
  too_long l = rw (lt-leb (length job) max_job l)

  pub not_whole : is_whole job ≡ false → false ≡ is_job job
  unfolding is_job
  not_whole e = rw (e, and-false (leb (length job) max_job))

  -- a whole one is a job if its steps are listed
  pub if_listed : length job ≤ max_job → is_whole job ≡ true → all_listed (pool_count job) (steps job) ≡ is_job job
  unfolding is_job
  if_listed l e = rw (le-leb (length job) max_job l, e)

  -- as long as its counts say
  pub whole_length : is_whole job ≡ true → length job ≡ steps_start job + step_bytes * step_count job
  whole_length e = eqb-true (length job) (steps_start job + step_bytes * step_count job) e

  -- the pool is as long as its count says
  pub pool_length : is_whole job ≡ true → length (pool job) ≡ pool_count job
  pool_length e =
      let h = whole_length e in
      let f : 4 + pool_count job - 4 ≡ pool_count job = omega arith in
      length-slice 4 (4 + pool_count job) job (omega (arith, h)) ∙ f

  -- the steps that were read are listed if the job's are
  pub parts_listed : (p : List ℕ) (xs : List (List ℕ)) → is_whole job ≡ true → p ≡ pool job → map step_of xs ≡ steps job
      → all_listed (length p) (map step_of xs) ≡ all_listed (pool_count job) (steps job)
  parts_listed p xs e lent read = ap₂ all_listed (ap length lent ∙ pool_length e) read

pub record IsJob (job : List ℕ) : Type 0 where
  pub short : length job ≤ max_job
  pub whole : length job ≡ steps_start job + step_bytes * step_count job
  pub listed : all_listed (pool_count job) (steps job) ≡ true

-- it is whole
is_job-whole : (job : List ℕ) → is_job job ≡ true → is_whole job ≡ true
unfolding is_job
is_job-whole job e = let two = (and-true (leb (length job) max_job && is_whole job) (all_listed (pool_count job) (steps job))).0 e in ((and-true (leb (length job) max_job) (is_whole job)).0 two.0).1

-- what `is_job` tests
pub job_facts : (job : List ℕ) → is_job job ≡ true → IsJob job
unfolding is_job
job_facts job e =
    let two = (and-true (leb (length job) max_job && is_whole job) (all_listed (pool_count job) (steps job))).0 e in
    let one = (and-true (leb (length job) max_job) (is_whole job)).0 two.0 in
    record { short = leb-true (length job) max_job one.0; whole = whole_length job one.1; listed = two.1 }

module _ (job p : List ℕ) (xs : List (List ℕ)) (good : is_job job ≡ true) (lent : p ≡ pool job) (read : map step_of xs ≡ steps job) where
  -- of a job every step that was read is listed
  pub job_listed : all_listed (length p) (map step_of xs) ≡ true
  job_listed = parts_listed job p xs (is_job-whole job good) lent read ∙ (job_facts job good).listed

  -- and the calls are the job's
  pub calls_read : calls_of p xs ≡ job_calls job
  calls_read = ap₂ (λ (b : List ℕ) (ss : List Step). map (step_call b) ss) lent read

-- ---- the calls of a job

module _ (pool : List ℕ) (start : Store) where
  -- with the steps from i on still to be taken, the job is as it is to be, from the store at the start to the one that stands
  pub record Taking (xs : List (List ℕ)) (i : ℕ) (st : Store) : Type 0 where
    pub listed : all_listed (length pool) (map step_of (drop i xs)) ≡ true
    pub reply : all_reply words_per_section (calls_of pool (drop i xs)) st ≡ all_reply words_per_section (calls_of pool xs) start
    pub built : built_by words_per_section (calls_of pool (drop i xs)) st ≡ built_by words_per_section (calls_of pool xs) start

  -- a reply and the two slices are what the steps come to
  abbrev pub Comes : List (List ℕ) → BuiltReply → List ℕ → List ℕ → Type 0
  Comes xs r bytes words =
      (r ≡ all_reply words_per_section (calls_of pool xs) start)
      × ((bytes ≡ (built_by words_per_section (calls_of pool xs) start).bytes) × (words ≡ (built_by words_per_section (calls_of pool xs) start).words))

-- before the first step
pub taking_start : (pool bytes words : List ℕ) (xs : List (List ℕ)) (a : Assembler) → all_listed (length pool) (map step_of xs) ≡ true → a ≡ empty_counts
    → Taking pool (store_of empty_counts bytes words) xs 0 (store_of a bytes words)
taking_start pool bytes words xs a good e =
    subst (λ (x : Assembler). Taking pool (store_of empty_counts bytes words) xs 0 (store_of x bytes words)) (sym e)
    (record { listed = good; reply = refl; built = refl })

module _ (p : Push) (ps : List Push) (st : Store) where
  built_refused : (n i k : ℕ) → push_reply words_per_section p st ≡ refused n i k → built_by words_per_section (p ∷ ps) st ≡ st
  unfolding built_by
  built_refused n i k e = rw e

  pub built_next : (a : Assembler) → push_reply words_per_section p st ≡ accepted a
      → built_by words_per_section (p ∷ ps) st ≡ built_by words_per_section ps (push_after words_per_section p st)
  unfolding built_by
  built_next a e = rw e

-- an accepted call answers the counts of the store that it leaves
counts_after : (p : Push) (st : Store) (a : Assembler) → push_reply words_per_section p st ≡ accepted a → a ≡ counts_of (push_after words_per_section p st)
counts_after p st a e =
    (((push_answers words_per_section p st).accepted_iff a).0 e).1 ∙ ap counts_of (sym (accepted_added words_per_section p st a e))

module _ (pool : List ℕ) (start : Store) (xs : List (List ℕ)) (i : ℕ) (st : Store) (t : Taking pool start xs i st) (some : i < length xs) where
  -- the next step, its call, and the calls after it
  abbrev s : Step
  s = step_of (get_or xs i [])

  abbrev p : Push
  p = step_call pool s

  abbrev ps : List Push
  ps = calls_of pool (drop (i + 1) xs)

  turn : calls_of pool (drop i xs) ≡ p ∷ ps
  turn = ap (calls_of pool) (drop_more xs i [] some)

  -- it is listed, and so are those after it
  both : (is_listed (length pool) s ≡ true) × (all_listed (length pool) (map step_of (drop (i + 1) xs)) ≡ true)
  unfolding all_listed
  both =
      (and-true (is_listed (length pool) s) (all_listed (length pool) (map step_of (drop (i + 1) xs)))).0
      (ap (λ (l : List (List ℕ)). all_listed (length pool) (map step_of l)) (sym (drop_more xs i [] some)) ∙ t.listed)

  pub taking_listed : is_listed (length pool) s ≡ true
  taking_listed = both.0

  -- a refused call ends the job
  pub taking_refused : (refusal : Refusal) (bytes words : List ℕ) → Answers p st (refusal_reply refusal) bytes words
      → Comes pool start xs (refusal_reply refusal) bytes words
  taking_refused refusal bytes words a =
      let e = sym a.0 in
      let same : push_after words_per_section p st ≡ built_by words_per_section (calls_of pool xs) start =
      refused_same words_per_section p st _ _ _ e
      ∙ sym (built_refused p ps st _ _ _ e)
      ∙ ap (λ (l : List Push). built_by words_per_section l st) (sym turn)
      ∙ t.built in (
        sym (all_refused words_per_section p ps st _ _ _ e) ∙ ap (λ (l : List Push). all_reply words_per_section l st) (sym turn) ∙ t.reply,
        (a.1.0 ∙ ap (λ (s : Store). s.bytes) same, a.1.1 ∙ ap (λ (s : Store). s.words) same),
      )

  -- after an accepted one the others follow
  pub taking_next : (a : Assembler) (bytes words : List ℕ) → Answers p st (accepted a) bytes words → Taking pool start xs (i + 1) (store_of a bytes words)
  taking_next a bytes words answered =
      let e = answered.0 in
      let after = push_after words_per_section p st in
      let counted : store_of a bytes words ≡ store_of (counts_of after) bytes words = ap (λ (x : Assembler). store_of x bytes words) (counts_after p st a (sym e)) in
      let same : after ≡ store_of a bytes words = sym (counted ∙ ap₂ (λ (x y : List ℕ). store_of (counts_of after) x y) answered.1.0 answered.1.1) in
      subst (λ (s : Store). Taking pool start xs (i + 1) s) same
      (record {
        listed = both.1;
        reply = sym (all_next words_per_section p ps st a (sym e)) ∙ ap (λ (l : List Push). all_reply words_per_section l st) (sym turn) ∙ t.reply;
        built = sym (built_next p ps st a (sym e)) ∙ ap (λ (l : List Push). built_by words_per_section l st) (sym turn) ∙ t.built;
      })

-- no step is left
pub taking_done : (pool : List ℕ) (start : Store) (xs : List (List ℕ)) (i : ℕ) (a : Assembler) (bytes words : List ℕ)
    → Taking pool start xs i (store_of a bytes words) → length xs ≤ i
    → Comes pool start xs (accepted a) bytes words
unfolding all_reply built_by
taking_done pool start xs i a bytes words t l =
    let none : calls_of pool (drop i xs) ≡ [] = ap (calls_of pool) (drop_all i xs l) in
    let st = store_of a bytes words in
    let built : st ≡ built_by words_per_section (calls_of pool xs) start = ap (λ (l : List Push). built_by words_per_section l st) (sym none) ∙ t.built in
    (ap (λ (l : List Push). all_reply words_per_section l st) (sym none) ∙ t.reply, (ap (λ (s : Store). s.bytes) built, ap (λ (s : Store). s.words) built))
