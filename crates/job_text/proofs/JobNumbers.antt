-- The numbers of a job's answer: 15 exactly for what is no job; on any slices no 6; and where there is a section for each step, no 5. From
-- the empty store each accepted call adds at most one section and leaves an undamaged store. Assumes nothing.
use Prim.Native.Nat.{ℕ, suc, ◌+◌, ◌*◌, ◌≤◌}
use native.Mathlib.Omega.{arith}
use mathlib.Core.Path.{◌≡◌, refl, sym, ap, ◌∙◌, subst}
use mathlib.Core.Bool.{Bool, true, false, cond, not, and-false, true≢false}
use mathlib.Core.Logic.{◌⊎◌, inl, inr}
use mathlib.Core.List.{List, [], ◌∷◌, map}
use lib.ListN.{length}
use borrow.Author.Tests.{le-ltb}
use Rattle.units.specs.Replies.{large_mark, bytes_full, sections_full, result_full}
use Rattle.units.specs.Reply.{Reply, accepted, refused}
use Rattle.slices.proofs.Tests.{cond_case}
use Rattle.records.specs.declared.Assembler.{Assembler}
use Rattle.records.specs.Store.{Store, max_sections, words_per_section}
use Rattle.records.specs.Sections.{Section, decode}
use Rattle.undamaged.specs.View.{Undamaged}
use Rattle.undamaged.proofs.Soundness.{undamaged_last_sound}
use Rattle.calls.specs.Calls.{BuiltReply, Push, push, has_large_mark, added, joins, with_section}
use Rattle.calls.specs.Calls.{bytes_pass, section_passes, room_reply, add_reply, push_reply, push_after}
use Rattle.calls.specs.Calls.{all_reply, each_after, all_after, run_replies, run_after}
use Rattle.calls.specs.Lists.{added_each}
use Rattle.calls.specs.Answers.{IsStored, EveryStored}
use Rattle.calls.proofs.Refusals.{accepted_refused, accepted_added, all_refused, all_next, all_first, all_each}
use Rattle.calls.proofs.Rooms.{left_slice}
use Rattle.calls.proofs.Calls.{call_kept, emptied_undamaged, emptied_decode, all_accepted_lem, call_undamaged}
use Rattle.calls.proofs.Runs.{each_run, all_stored}
use Rattle.layout.specs.Conditions.{direct_mark, delta_start, delta_end}
use Rattle.layout.specs.Answer.{LayoutRefusal, short_table, unplaced, placed_apart, too_narrow, unsettled, backward, layout_numbers}
use Rattle.layout.specs.Answer.{Answer, laid_out, no_layout, answer, answer_reply, answer_table}
use Rattle.settling.proofs.SettlingLaw.{sound_settles}
use Rattle.assembler.specs.Assemble.{Outcome, is_full, writing, assembly}
use Rattle.job_steps.specs.JobFormat.{is_job, bad_job}
use Rattle.job_steps.specs.JobCalls.{job_calls, built_by}
use Rattle.jobs.specs.JobOutcome.{LentSlices, JobResult, empty_store, assembled_from, job_result}
use Rattle.job_text.specs.JobAnswers.{FifteenIff, HasSections, EarlyRefusal, LateRefusal, NumbersOf}
use Rattle.job_steps.proofs.JobCalls.{Plain, EveryPlain, job_plain, length_calls}
use Rattle.job_steps.proofs.JobLoops.{built_next, job_facts}
use Rattle.jobs.proofs.JobMade.{calls_reply, calls_build, made_of_none, made_of_calls}

-- ---- a job's answer by cases

module _ (job : List ℕ) (lent : LentSlices) where
  -- what holds of 15, of every refused call and of assembly holds of a job
  pub job_cases : (P : JobResult → Type 0)
      → (is_job job ≡ false → P (record { reply = refused bad_job 0 0; slices = lent }))
      → (is_job job ≡ true → (n i k : ℕ) → calls_reply job lent ≡ refused n i k
      → P (assembled_from words_per_section lent (refused n i k) (calls_build job lent)))
      → (is_job job ≡ true → (a : Assembler) → calls_reply job lent ≡ accepted a
      → P (assembled_from words_per_section lent (accepted a) (calls_build job lent)))
      → P (job_result words_per_section job lent)
  job_cases P none stopped built = go (is_job job) refl
    where
      by-calls : is_job job ≡ true → (r : BuiltReply) → calls_reply job lent ≡ r → P (job_result words_per_section job lent)
      by-calls good (refused n i k) e = subst P (sym (made_of_calls job lent good (refused n i k) e)) (stopped good n i k e)
      by-calls good (accepted a) e = subst P (sym (made_of_calls job lent good (accepted a) e)) (built good a e)

      go : (b : Bool) → is_job job ≡ b → P (job_result words_per_section job lent)
      go false e = subst P (sym (made_of_none job lent e)) (none e)
      go true e = by-calls e (calls_reply job lent) refl

-- ---- what the calls build

-- accepted, each call has left its store
built_each : (ps : List Push) (st : Store) (a : Assembler) → all_reply words_per_section ps st ≡ accepted a
    → built_by words_per_section ps st ≡ each_after words_per_section ps st
unfolding built_by each_after
built_each [] st a e = refl
built_each (p ∷ ps) st a e =
    let first = all_first words_per_section p ps st a e in
    built_next p ps st first.0 first.1 ∙ built_each ps (push_after words_per_section p st) a first.2

-- so a job whose calls are accepted has run them as a list of building calls, each accepted
pub job_runs : (job : List ℕ) (lent : LentSlices) (a : Assembler) → calls_reply job lent ≡ accepted a
    → EveryStored (run_replies words_per_section (map push (job_calls job)) (empty_store lent))
    × (calls_build job lent ≡ run_after words_per_section (map push (job_calls job)) (empty_store lent))
job_runs job lent a e =
    let st = empty_store lent in (
      (all_stored words_per_section (job_calls job) st).0 (subst IsStored (sym e) tt),
      built_each (job_calls job) st a e ∙ each_run words_per_section (job_calls job) st,
    )

-- the empty store is undamaged
pub empty_undamaged : (lent : LentSlices) → Undamaged words_per_section (empty_store lent)
empty_undamaged lent = emptied_undamaged words_per_section (empty_store lent)

-- what is built is undamaged, and its list of sections is the calls'
pub built_list : (job : List ℕ) (lent : LentSlices) (a : Assembler) → calls_reply job lent ≡ accepted a
    → Undamaged words_per_section (calls_build job lent) × (decode words_per_section (calls_build job lent) ≡ added_each [] (job_calls job))
built_list job lent a e =
    let st : Store = empty_store lent in
    let all = all_accepted_lem words_per_section (job_calls job) st a (omega arith) (empty_undamaged lent) e in
    let same : calls_build job lent ≡ all_after words_per_section (job_calls job) st =
    built_each (job_calls job) st a e ∙ sym (all_each words_per_section (job_calls job) st a e) in
    let list = ap (λ (l : List Section). added_each l (job_calls job)) (emptied_decode words_per_section st) in
    rw same (all.0, all.1 ∙ list)

-- ---- its assembly

-- assembly by the list of sections alone
abbrev pub list_assembly : ℕ → List ℕ → List Section → Outcome
list_assembly n result l = writing n result 0 l (answer_table n (answer n l)) (answer_reply (answer n l))

-- so of an undamaged store
pub assembly_by_list : (st : Store) (n : ℕ) (result : List ℕ) → Undamaged words_per_section st
    → assembly words_per_section st n result 0 ≡ list_assembly n result (decode words_per_section st)
unfolding assembly
assembly_by_list st n result u = rw (sound_settles words_per_section n st u)

-- a refusal of the layout is 7 to 12, 17 or 18
layout_late : (r : LayoutRefusal) → LateRefusal (layout_numbers r).number
layout_late (short_table i) = inl (omega arith, omega arith)
layout_late (unplaced direct_mark i) = inl (omega arith, omega arith)
layout_late (unplaced delta_start i) = inr (inl refl)
layout_late (unplaced delta_end i) = inr (inr refl)
layout_late (placed_apart i) = inl (omega arith, omega arith)
layout_late (too_narrow i k) = inl (omega arith, omega arith)
layout_late unsettled = inl (omega arith, omega arith)
layout_late (backward i k) = inl (omega arith, omega arith)

-- it is no 5 and no 15
late_other : (n : ℕ) → LateRefusal n → (n ≡ sections_full → ⊥) × (n ≡ bad_job → ⊥)
late_other n (inl h) = (λ e. omega arith, λ e. omega arith)
late_other n (inr (inl h)) = (λ e. omega arith, λ e. omega arith)
late_other n (inr (inr h)) = (λ e. omega arith, λ e. omega arith)

-- refusals that are the same have the same number
same_number : {A : Type 0} {m j l n i k : ℕ} → ◌≡◌ {A = Reply A} (refused m j l) (refused n i k) → m ≡ n
same_number e = cc

-- a refusal of assembly is 7 to 13, 17 or 18
writing_late : (m : ℕ) (result : List ℕ) (ss : List Section) (a : Answer) (n i k : ℕ)
    → (writing m result 0 ss (answer_table m a) (answer_reply a)).reply ≡ refused n i k → LateRefusal n
writing_late m result ss (no_layout r) n i k e = subst LateRefusal (same_number e) (layout_late r)
writing_late m result ss (laid_out table size passes) n i k e =
    cond_case (λ (o : Outcome). o.reply ≡ refused n i k → LateRefusal n) (is_full (length result) 0 size) _ _
    (λ _ f. let same : result_full ≡ n = same_number f in inl (omega arith, omega arith))
    (λ _ f. let z : ◌≡◌ {A = ℕ} 0 1 = cc in absurd (omega arith))
    e

-- so of what the calls build
built_late : (job : List ℕ) (lent : LentSlices) (a : Assembler) (n i k : ℕ) → calls_reply job lent ≡ accepted a
    → (assembled_from words_per_section lent (accepted a) (calls_build job lent)).reply ≡ refused n i k → LateRefusal n
built_late job lent a n i k e f =
    let st : Store = calls_build job lent in
    let m : ℕ = length lent.table in
    let ss : List Section = decode words_per_section st in
    let same = assembly_by_list st m lent.result (built_list job lent a e).0 in
    writing_late m lent.result ss (answer m ss) n i k (sym (ap (λ (o : Outcome). o.reply) same) ∙ f)

-- ---- room for a section for each call

-- room for so many sections more
pub record Room (st : Store) (n : ℕ) : Type 0 where
  pub limit : st.sections + n ≤ max_sections
  pub words : words_per_section * (st.sections + n) ≤ length st.words

-- so the next one fits
pub room_fits : (s : Section) (st : Store) (n : ℕ) → Room st (suc n) → section_passes words_per_section s st ≡ false
unfolding section_passes
room_fits s st n room =
    let end : ℕ = words_per_section * (st.sections + 1) in
    let fits : end ≤ length st.words = omega (arith, room.words) in
    let left = left_slice words_per_section st.sections st.words (omega (arith, room.limit)) in
    rw (sym left, le-ltb (length st.words) end fits, and-false (not (joins words_per_section s st)))

-- a call adds at most one
one_section : (s : Section) (st : Store) → (with_section words_per_section s st).sections ≤ st.sections + 1
unfolding with_section
one_section s st =
    cond_case (λ (x : Store). x.sections ≤ st.sections + 1) (joins words_per_section s st) _ _ (λ _. omega arith) (λ _. omega arith)

-- and leaves room for the others
pub room_next : (p : Push) (st : Store) (n : ℕ) (a : Assembler) → Room st (suc n) → push_reply words_per_section p st ≡ accepted a
    → Room (push_after words_per_section p st) n
room_next p st n a room e =
    let after : Store = push_after words_per_section p st in
    let one : after.sections ≤ st.sections + 1 = rw (accepted_added words_per_section p st a e) (one_section (added p) st) in
    let long : length after.words ≡ length st.words = (call_kept words_per_section (push p) st (omega arith)).words_length in
    record { limit = omega (arith, room.limit); words = omega (arith, room.words) }

-- so with a section for each step there is room for a job's calls
pub job_room : (job : List ℕ) (lent : LentSlices) → is_job job ≡ true → HasSections job lent → Room (empty_store lent) (length (job_calls job))
job_room job lent good has =
    let count = length_calls job in
    let facts = job_facts job good in
    let room = has good in
    record { limit = omega (arith, count, facts.whole, facts.short); words = omega (arith, count, room) }

-- ---- the answers of the calls

-- on an undamaged store a plain call is refused by 3, 4 and 5 alone
pub plain_reply : (p : Push) (st : Store) → Undamaged words_per_section st → Plain p
    → push_reply words_per_section p st ≡ cond (has_large_mark p) (refused large_mark 0 0) (room_reply words_per_section (added p) st)
unfolding push_reply add_reply
plain_reply p st u (depth, word) = rw (depth, word, undamaged_last_sound words_per_section st u)

-- a refused call's number: 3, 4 or 5, at 0 with no pass; and no 5 where there is room
record CallRefusal (room : Type 0) (n i k : ℕ) : Type 0 where
  early : EarlyRefusal n i k
  most : n ≤ sections_full
  roomy : room → n ≤ bytes_full

-- so of the three tests
tests_refuse : (room : Type 0) (b c d : Bool) (a : Assembler) (n i k : ℕ) → (room → d ≡ false)
    → cond b (refused large_mark 0 0) (cond c (refused bytes_full 0 0) (cond d (refused sections_full 0 0) (accepted a))) ≡ refused n i k
    → CallRefusal room n i k
tests_refuse room true c d a n i k fits e =
    record { early = (inl cc, cc, cc); most = omega (arith, same_number e); roomy = λ _. omega (arith, same_number e) }
tests_refuse room false true d a n i k fits e =
    record { early = (inr (inl cc), cc, cc); most = omega (arith, same_number e); roomy = λ _. omega (arith, same_number e) }
tests_refuse room false false true a n i k fits e =
    record { early = (inr (inr (inl cc)), cc, cc); most = omega (arith, same_number e); roomy = λ r. absurd (true≢false (fits r)) }
tests_refuse room false false false a n i k fits e = absurd (accepted_refused e)

-- and of calls in turn
all_refuse : (room : Type 0) (ps : List Push) (st : Store) (n i k : ℕ) → (room → Room st (length ps)) → Undamaged words_per_section st
    → EveryPlain ps → all_reply words_per_section ps st ≡ refused n i k → CallRefusal room n i k
unfolding all_reply room_reply
all_refuse room [] st n i k has u plain e = absurd (accepted_refused e)
all_refuse room (p ∷ ps) st n i k has u plain e =
    let after : Store = push_after words_per_section p st in
    let sound : Undamaged words_per_section after = call_undamaged words_per_section (push p) st (omega arith) u in
    let later : (a : Assembler) → push_reply words_per_section p st ≡ accepted a → CallRefusal room n i k =
    λ a x. all_refuse room ps after n i k (λ r. room_next p st (length ps) a (has r) x) sound plain.1
    (sym (all_next words_per_section p ps st a x) ∙ e) in
    go (push_reply words_per_section p st) refl later
  where
    go : (r : BuiltReply) → push_reply words_per_section p st ≡ r
        → ((a : Assembler) → push_reply words_per_section p st ≡ accepted a → CallRefusal room n i k)
        → CallRefusal room n i k
    go (accepted a) x later = later a x
    go (refused m j l) x later =
        tests_refuse room (has_large_mark p) (bytes_pass (added p) st) (section_passes words_per_section (added p) st) _ n i k
        (λ r. room_fits (added p) st (length ps) (has r))
        (sym (plain_reply p st u plain.0) ∙ x ∙ sym (all_refused words_per_section p ps st m j l x) ∙ e)

-- so of a job's
calls_refuse : (job : List ℕ) (lent : LentSlices) (n i k : ℕ) → is_job job ≡ true → calls_reply job lent ≡ refused n i k
    → CallRefusal (HasSections job lent) n i k
calls_refuse job lent n i k good =
    all_refuse (HasSections job lent) (job_calls job) (empty_store lent) n i k (job_room job lent good) (empty_undamaged lent) (job_plain job)

-- ---- a job's numbers

-- 15 is answered to what is no job, and to nothing else
pub fifteen_iff : (job : List ℕ) (lent : LentSlices) → FifteenIff job lent
fifteen_iff job lent i k = (
  job_cases job lent Says
      (λ e q. (e, cc, cc))
      (λ good n i' k' e q. absurd (omega (arith, (calls_refuse job lent n i' k' good e).most, same_number q)))
      (λ good a e q. absurd ((late_other bad_job (built_late job lent a bad_job i k e q)).1 refl)),
  λ (e, z, z'). ap (λ (m : JobResult). m.reply) (made_of_none job lent e) ∙ cc,
)
  where
    Says : JobResult → Type 0
    Says m = m.reply ≡ refused bad_job i k → (is_job job ≡ false) × (i ≡ 0) × (k ≡ 0)

-- a job is refused by 3, 4, 5 and 15 at 0, or by 7 to 13, 17 or 18: never by 6; and never by 5 where there is a section for each step
pub job_numbers : (job : List ℕ) (lent : LentSlices) → NumbersOf job lent
job_numbers job lent =
    record {
      any = λ n i k.
          job_cases job lent (λ (m : JobResult). m.reply ≡ refused n i k → EarlyRefusal n i k ⊎ LateRefusal n)
          (λ e q. inl (inr (inr (inr cc)), cc, cc))
          (λ good m j l e q. inl (calls_refuse job lent n i k good (e ∙ cc)).early)
          (λ good a e q. inr (built_late job lent a n i k e q));
      no_five = λ has i k.
          job_cases job lent (λ (m : JobResult). m.reply ≡ refused sections_full i k → ⊥)
          (λ e q. omega (arith, same_number q))
          (λ good n j l e q. omega (arith, (calls_refuse job lent n j l good e).roomy has, same_number q))
          (λ good a e q. (late_other sections_full (built_late job lent a sections_full i k e q)).0 refl);
    }
