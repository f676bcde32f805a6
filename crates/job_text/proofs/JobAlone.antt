-- The text depends on the job alone, given the lengths of the lent slices. What the calls answer is a function of the list of sections, the
-- stored bytes and the byte slice's length; and assembly of an undamaged store one of its list and the lengths. Assumes nothing.
use Prim.Native.Nat.{ℕ, suc, ◌+◌, ◌*◌, min, ◌≤◌}
use native.Mathlib.Omega.{arith}
use mathlib.Core.Path.{◌≡◌, refl, sym, ap, ap₂, ◌∙◌}
use mathlib.Core.Bool.{Bool, true, false, cond}
use mathlib.Core.List.{List, [], ◌∷◌}
use lib.Dec.{ltb}
use lib.ListN.{length, drop, length-replicate}
use borrow.Author.Tests.{le-ltb}
use lib.Seq.{take_at}
use Rattle.units.specs.Replies.{large_mark, bytes_full}
use Rattle.units.specs.Reply.{Reply, accepted, refused}
use Rattle.slices.specs.Over.{over}
use Rattle.slices.proofs.Tests.{cond_case}
use Rattle.records.specs.declared.Assembler.{Assembler}
use Rattle.records.specs.Store.{Store, counts_of, max_bytes, words_per_section}
use Rattle.records.specs.Sections.{Section, decode}
use Rattle.undamaged.specs.View.{Undamaged}
use Rattle.calls.specs.Calls.{BuiltReply, Push, push, has_large_mark, added, bytes_of, joins, with_section}
use Rattle.calls.specs.Calls.{bytes_pass, room_reply, push_reply, push_after, unless_refused, all_reply}
use Rattle.calls.specs.Lists.{added_to}
use Rattle.calls.proofs.Refusals.{accepted_added}
use Rattle.calls.proofs.Calls.{call_kept, call_accepted, emptied_decode}
use Rattle.layout.specs.Passes.{entry}
use Rattle.layout.specs.Answer.{Laid, answer, answer_reply, answer_table}
use Rattle.settling.proofs.Sections.{decode_count}
use Rattle.assembler.specs.Emission.{code_of}
use Rattle.assembler.specs.Assemble.{Outcome, is_full, writing, assembly}
use Rattle.assembler.proofs.Outcomes.{outcome_cases}
use Rattle.assembler.proofs.Laid.{laid}
use Rattle.job_steps.specs.JobFormat.{is_job, step_count}
use Rattle.job_steps.specs.JobCalls.{job_calls}
use Rattle.jobs.specs.JobText.{code_text, refused_text, text_for, longest_text}
use Rattle.jobs.specs.JobOutcome.{LentSlices, JobResult, empty_store, assembled_from, job_result, ran, job_outcome}
use Rattle.job_text.specs.JobAnswers.{HasSections, Alike, SameText}
use Rattle.job_text.specs.Printed.{store_bytes, result_bytes, table_marks, zeros, request_slices, Prints}
use Rattle.job_steps.proofs.JobCalls.{Plain, EveryPlain, job_plain}
use Rattle.job_steps.proofs.JobLoops.{job_facts}
use Rattle.jobs.proofs.JobMade.{calls_reply, calls_build, made_of_none, made_of_calls}
use Rattle.job_text.proofs.JobNumbers.{built_list, list_assembly, assembly_by_list}
use Rattle.job_text.proofs.JobNumbers.{empty_undamaged, Room, room_fits, room_next, job_room, plain_reply}

-- ---- one call by the list of sections

-- so many bytes are stored after a section is added
abbrev stored_with : Section → ℕ → ℕ
stored_with s stored = stored + length (bytes_of s)

-- the counts after it is added to a list
abbrev list_counts : Section → List Section → ℕ → Assembler
list_counts s l stored = record { bytes = stored_with s stored; sections = length (added_to l s) }

-- what a plain call answers where there is room for its section, by the list, the stored bytes and the byte slice's length
list_reply : ℕ → Push → List Section → ℕ → BuiltReply
list_reply slice p l stored =
    cond (has_large_mark p) (refused large_mark 0 0)
    (cond (ltb (min slice max_bytes) (stored_with (added p) stored)) (refused bytes_full 0 0) (accepted (list_counts (added p) l stored)))

-- two refusals before counts that are the same where they come
counts_last : (b c : Bool) (r s : BuiltReply) (x y : Assembler) → (b ≡ false → c ≡ false → x ≡ y)
    → cond b r (cond c s (accepted x)) ≡ cond b r (cond c s (accepted y))
counts_last true c r s x y h = refl
counts_last false true r s x y h = refl
counts_last false false r s x y h = ap accepted (h refl refl)

-- the stored bytes of the store with a section
stored_with_lem : (s : Section) (st : Store) → (with_section words_per_section s st).stored_bytes ≡ stored_with s st.stored_bytes
unfolding with_section
stored_with_lem s st =
    cond_case (λ (x : Store). x.stored_bytes ≡ stored_with s st.stored_bytes) (joins words_per_section s st) _ _ (λ _. refl) (λ _. refl)

-- what an accepted call leaves
record After (p : Push) (st : Store) : Type 0 where
  undamaged : Undamaged words_per_section (push_after words_per_section p st)
  list : decode words_per_section (push_after words_per_section p st) ≡ added_to (decode words_per_section st) (added p)
  stored : (push_after words_per_section p st).stored_bytes ≡ stored_with (added p) st.stored_bytes
  slice : length (push_after words_per_section p st).bytes ≡ length st.bytes

-- so on an undamaged store
push_after_lem : (p : Push) (st : Store) (a : Assembler) → Undamaged words_per_section st → push_reply words_per_section p st ≡ accepted a
    → After p st
push_after_lem p st a u e =
    let three : 3 ≤ words_per_section = omega arith in
    let call = call_accepted words_per_section (push p) st a three u e in
    record {
      undamaged = call.undamaged;
      list = call.list;
      stored = ap (λ (x : Store). x.stored_bytes) (accepted_added words_per_section p st a e) ∙ stored_with_lem (added p) st;
      slice = (call_kept words_per_section (push p) st three).bytes_length;
    }

-- its counts are the list's
after_counts : (p : Push) (st : Store) (a : Assembler) → Undamaged words_per_section st → push_reply words_per_section p st ≡ accepted a
    → counts_of (with_section words_per_section (added p) st) ≡ list_counts (added p) (decode words_per_section st) st.stored_bytes
after_counts p st a u e =
    let after : Store = push_after words_per_section p st in
    let left = push_after_lem p st a u e in
    let same : with_section words_per_section (added p) st ≡ after = sym (accepted_added words_per_section p st a e) in
    let list : List Section = added_to (decode words_per_section st) (added p) in
    let sections : after.sections ≡ length list = sym (decode_count words_per_section after) ∙ ap length left.list in
    ap counts_of same ∙ ap₂ (λ (b s : ℕ). record { bytes = b; sections = s }) left.stored sections

-- so a call's answer is the list's
push_by_list : (p : Push) (st : Store) (n : ℕ) → Undamaged words_per_section st → Room st (suc n) → Plain p
    → push_reply words_per_section p st ≡ list_reply (length st.bytes) p (decode words_per_section st) st.stored_bytes
unfolding list_reply bytes_pass room_reply
push_by_list p st n u room plain =
    let counts : Assembler = counts_of (with_section words_per_section (added p) st) in
    let reply : push_reply words_per_section p st
    ≡ cond (has_large_mark p) (refused large_mark 0 0) (cond (bytes_pass (added p) st) (refused bytes_full 0 0) (accepted counts)) =
    plain_reply p st u plain ∙ rw (room_fits (added p) st n room) in
    let stored : has_large_mark p ≡ false → bytes_pass (added p) st ≡ false → push_reply words_per_section p st ≡ accepted counts =
    λ small fits. reply ∙ rw (small, fits) in
    reply
    ∙ counts_last (has_large_mark p) (bytes_pass (added p) st) _ _ counts (list_counts (added p) (decode words_per_section st) st.stored_bytes)
    (λ small fits. after_counts p st counts u (stored small fits))

-- ---- calls in turn by the list

-- what calls in turn answer
list_all : ℕ → List Push → List Section → ℕ → BuiltReply
list_all slice [] l stored = accepted (record { bytes = stored; sections = length l })
list_all slice (p ∷ ps) l stored =
    unless_refused (list_reply slice p l stored) (list_all slice ps (added_to l (added p)) (stored_with (added p) stored))

-- an answer that comes only after an accepted one
unless_same : (r x y : BuiltReply) → ((a : Assembler) → r ≡ accepted a → x ≡ y) → unless_refused r x ≡ unless_refused r y
unless_same (accepted a) x y h = h a refl
unless_same (refused n i k) x y h = refl

-- so calls in turn, where there is room for all of them
all_by_list : (ps : List Push) (st : Store) → Undamaged words_per_section st → Room st (length ps) → EveryPlain ps
    → all_reply words_per_section ps st ≡ list_all (length st.bytes) ps (decode words_per_section st) st.stored_bytes
unfolding all_reply list_all
all_by_list [] st u room plain =
    ap (λ (s : ℕ). accepted (record { bytes = st.stored_bytes; sections = s })) (sym (decode_count words_per_section st))
all_by_list (p ∷ ps) st u room plain =
    let after : Store = push_after words_per_section p st in
    let next : BuiltReply =
    list_all (length st.bytes) ps (added_to (decode words_per_section st) (added p)) (stored_with (added p) st.stored_bytes) in
    let later : (a : Assembler) → push_reply words_per_section p st ≡ accepted a → all_reply words_per_section ps after ≡ next =
    λ a e.
    let left = push_after_lem p st a u e in
    all_by_list ps after left.undamaged (room_next p st (length ps) a room e) plain.1 ∙ rw (left.slice, left.list, left.stored) in
    unless_same (push_reply words_per_section p st) _ next later
    ∙ ap (λ (r : BuiltReply). unless_refused r next) (push_by_list p st (length ps) u room plain.0)

-- and those of a job, from the empty store
calls_by_list : (job : List ℕ) (lent : LentSlices) → is_job job ≡ true → HasSections job lent
    → calls_reply job lent ≡ list_all (length lent.bytes) (job_calls job) [] 0
calls_by_list job lent good has =
    all_by_list (job_calls job) (empty_store lent) (empty_undamaged lent) (job_room job lent good has) (job_plain job)
    ∙ ap (λ (l : List Section). list_all (length lent.bytes) (job_calls job) l 0) (emptied_decode words_per_section (empty_store lent))

-- so they answer the same on byte slices of the same length
calls_same : (job : List ℕ) (a b : LentSlices) → is_job job ≡ true → Alike job a b → calls_reply job a ≡ calls_reply job b
calls_same job a b good h =
    calls_by_list job a good h.sections
    ∙ ap (λ (n : ℕ). list_all n (job_calls job) [] 0) h.bytes
    ∙ sym (calls_by_list job b good h.sections')

-- ---- assembly by the list

-- the text by the code itself
abbrev text_by : Reply Laid → List ℕ → List ℕ
text_by (accepted laid) code = code_text code
text_by (refused n i k) code = refused_text n i

-- the code that is printed is the code by the table
assembled_text : (st : Store) (n : ℕ) (result : List ℕ)
    → text_for (assembly words_per_section st n result 0).reply (assembly words_per_section st n result 0).result
    ≡ text_by (assembly words_per_section st n result 0).reply
    (code_of (entry (assembly words_per_section st n result 0).table) (decode words_per_section st))
assembled_text st n result =
    outcome_cases words_per_section st n result 0 Printed
    (λ number i k. refl)
    (λ table size k e full.
    let code : List ℕ = code_of (entry table) (decode words_per_section st) in
    ap code_text (take_at code (drop (0 + length code) result) size (laid words_per_section n st table size k e).code_long))
  where
    Printed : Outcome → Type 0
    Printed o = text_for o.reply o.result ≡ text_by o.reply (code_of (entry o.table) (decode words_per_section st))

-- two outcomes with the same answer and table
abbrev SameOutcome : Outcome → Outcome → Type 0
SameOutcome o p = (o.reply ≡ p.reply) × (o.table ≡ p.table)

-- whichever is chosen
cond_same : (b : Bool) (o o' p p' : Outcome) → SameOutcome o o' → SameOutcome p p' → SameOutcome (cond b o p) (cond b o' p')
cond_same true o o' p p' x y = x
cond_same false o o' p p' x y = y

-- of a result only the length decides
writing_same : (n : ℕ) (x y : List ℕ) (ss : List Section) (table : List ℕ) (r : Reply Laid) → length x ≡ length y
    → SameOutcome (writing n x 0 ss table r) (writing n y 0 ss table r)
writing_same n x y ss table (refused number i k) e = (refl, refl)
writing_same n x y ss table (accepted l) e =
    rw (ap (λ (m : ℕ). is_full m 0 l.length) e)
    (cond_same (is_full (length y) 0 l.length) _ _ _ _ (refl, refl) (refl, refl))

-- the same answer and the same text
abbrev SameMade : JobResult → JobResult → Type 0
SameMade m n = (m.reply ≡ n.reply) × (text_for m.reply m.slices.result ≡ text_for n.reply n.slices.result)

-- undamaged stores of the same list
record SameList (st st' : Store) : Type 0 where
  undamaged : Undamaged words_per_section st
  undamaged' : Undamaged words_per_section st'
  list : decode words_per_section st ≡ decode words_per_section st'

module _ (st st' : Store) (h : SameList st st') (x y : List ℕ) (e : length x ≡ length y) (n m : ℕ) (f : n ≡ m) where
  -- their assembly
  abbrev o : Outcome
  o = assembly words_per_section st n x 0

  abbrev o' : Outcome
  o' = assembly words_per_section st' m y 0

  -- has the same answer and table
  assembly_same : SameOutcome o o'
  assembly_same =
      let l : List Section = decode words_per_section st' in
      let first : o ≡ list_assembly m x l =
      assembly_by_list st n x h.undamaged ∙ ap₂ (λ (k : ℕ) (s : List Section). list_assembly k x s) f h.list in
      let second : o' ≡ list_assembly m y l = assembly_by_list st' m y h.undamaged' in
      rw (first, second) (writing_same m x y l (answer_table m (answer m l)) (answer_reply (answer m l)) e)

  -- and the same text
  text_same : text_for o.reply o.result ≡ text_for o'.reply o'.result
  text_same =
      let same = assembly_same in
      let code : code_of (entry o.table) (decode words_per_section st) ≡ code_of (entry o'.table) (decode words_per_section st') =
      ap₂ (λ (t : List ℕ) (s : List Section). code_of (entry t) s) same.1 h.list in
      assembled_text st n x ∙ ap₂ text_by same.0 code ∙ sym (assembled_text st' m y)

-- ---- a job

module _ (job : List ℕ) (a b : LentSlices) (h : Alike job a b) where
  -- by what the calls answer
  from_same : (r : BuiltReply) → calls_reply job a ≡ r → calls_reply job b ≡ r
      → SameMade (assembled_from words_per_section a r (calls_build job a)) (assembled_from words_per_section b r (calls_build job b))
  from_same (refused n i k) e f = (refl, refl)
  from_same (accepted c) e f =
      let x = built_list job a c e in
      let y = built_list job b c f in
      let same : SameList (calls_build job a) (calls_build job b) =
      record { undamaged = x.0; undamaged' = y.0; list = x.1 ∙ sym y.1 } in (
        (assembly_same _ _ same a.result b.result h.result _ _ h.table).0,
        text_same _ _ same a.result b.result h.result _ _ h.table,
      )

  -- in every case
  made_same : SameMade (job_result words_per_section job a) (job_result words_per_section job b)
  made_same = go (is_job job) refl
    where
      go : (t : Bool) → is_job job ≡ t → SameMade (job_result words_per_section job a) (job_result words_per_section job b)
      go false e = rw (made_of_none job a e, made_of_none job b e) (refl, refl)
      go true e =
          let r : BuiltReply = calls_reply job b in
          let same : calls_reply job a ≡ r = calls_same job a b e h in
          rw (made_of_calls job a e r same, made_of_calls job b e r refl) (from_same r same refl)

-- the answer and the text depend on the job alone, given the lengths
pub job_alone : (job : List ℕ) (a b : LentSlices) → Alike job a b → SameText job a b
job_alone job a b h = let same = made_same job a b h in record { reply = same.0; text = same.1 }

-- ---- runs with a text buffer

-- on alike slices, with too short a buffer or not: the same answer and the same text
outcome_alike : (job : List ℕ) (a b : LentSlices) (buffer : List ℕ) → Alike job a b
    → ((job_outcome words_per_section job a buffer).answer ≡ (job_outcome words_per_section job b buffer).answer)
    × ((job_outcome words_per_section job a buffer).text ≡ (job_outcome words_per_section job b buffer).text)
unfolding job_outcome
outcome_alike job a b buffer h = go (ltb (length buffer) (longest_text (length b.result))) refl
  where
    go : (t : Bool) → ltb (length buffer) (longest_text (length b.result)) ≡ t
        → ((job_outcome words_per_section job a buffer).answer ≡ (job_outcome words_per_section job b buffer).answer)
        × ((job_outcome words_per_section job a buffer).text ≡ (job_outcome words_per_section job b buffer).text)
    go true e =
        let f = ap (λ (n : ℕ). ltb (length buffer) (longest_text n)) h.result ∙ e in
        rw (e, f) (refl, refl)
    go false e =
        let f = ap (λ (n : ℕ). ltb (length buffer) (longest_text n)) h.result ∙ e in
        let same = job_alone job a b h in
        rw (e, f) (ap₂ ran same.reply (ap length same.text), ap (over buffer 0) same.text)

-- ---- what is printed

-- slices as long as those that are made for a job: words for 3,640 sections, the steps of the longest one
pub record MadeSlices (lent : LentSlices) : Type 0 where
  pub bytes : length lent.bytes ≡ store_bytes
  pub words : length lent.words ≡ 10920
  pub table : length lent.table ≡ table_marks
  pub result : length lent.result ≡ result_bytes

-- a section for each step of any job
made_sections : (job : List ℕ) (lent : LentSlices) → length lent.words ≡ 10920 → HasSections job lent
made_sections job lent long good = let facts = job_facts job good in omega (arith, facts.short, facts.whole, long)

-- so many zeros
zeros_length : (n : ℕ) → length (zeros n) ≡ n
unfolding zeros
zeros_length n = length-replicate {A = ℕ} n 0

-- they are alike to the request's
made_alike : (job : List ℕ) (lent : LentSlices) → MadeSlices lent → Alike job lent (request_slices (step_count job))
made_alike job lent m =
    record {
      bytes = m.bytes ∙ sym (zeros_length _);
      table = m.table ∙ sym (zeros_length _);
      result = m.result ∙ sym (zeros_length _);
      sections = made_sections job lent m.words;
      sections' = λ _. let long = zeros_length (words_per_section * step_count job) in omega (arith, long);
    }

-- so whatever they hold, a run on them is one on the request's: the same answer and the same text
pub made_outcome : (job : List ℕ) (lent : LentSlices) (buffer : List ℕ) → MadeSlices lent
    → ((job_outcome words_per_section job lent buffer).answer ≡ (job_outcome words_per_section job (request_slices (step_count job)) buffer).answer)
    × ((job_outcome words_per_section job lent buffer).text ≡ (job_outcome words_per_section job (request_slices (step_count job)) buffer).text)
made_outcome job lent buffer m = outcome_alike job lent (request_slices (step_count job)) buffer (made_alike job lent m)

-- with room for the longest text, 131,078 bytes, no buffer is too short
pub prints : (job buffer : List ℕ) → 131078 ≤ length buffer → Prints job buffer
unfolding job_outcome
prints job buffer room =
    let result = zeros_length result_bytes in
    let long = le-ltb (length buffer) (longest_text (length (zeros result_bytes))) (omega (arith, room, result)) in
    record { answer = rw long refl; text = rw long refl }
