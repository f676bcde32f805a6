-- The list view: a building call on an undamaged store leaves an undamaged one, and an accepted one does to its list of sections what
-- `call_list` says. On any store a call leaves the slices past the counts alone. Assumes nothing.
use Prim.Native.Nat.{ℕ, ◌+◌, ◌*◌, ◌-◌, ◌≤◌, ◌<◌}
use native.Mathlib.Nat.{mul-zero, mul-le-mul_left, le_trans, le-add_right}
use native.Mathlib.Omega.{arith}
use mathlib.Core.Path.{◌≡◌, refl, sym, ap, ◌∙◌, subst}
use mathlib.Core.Bool.{true, false, not, and-eq-true_iff as and-true}
use mathlib.Mathlib.Data.Bool.Basic.{or-eq-false-eq-eq-false-and-eq-false as or-false, dichotomy}
use mathlib.Core.List.{List, [], ◌∷◌}
use mathlib.Core.Logic.{◌⊎◌, inl, inr}
use lib.ListN.{length, drop, length-set}
use lib.Seq.{drop-set-lt, drop-drop}
use lib.Dec.{ltb}
use borrow.Author.Tests.{ltb-true, ltb-false}
use Rattle.units.specs.Reply.{accepted, refused}
use Rattle.records.specs.declared.Assembler.{Assembler}
use Rattle.records.specs.Store.{Store, counts_of, max_sections, record_words}
use Rattle.records.specs.Damage.{end_before}
use Rattle.records.specs.Sections.{Section, decode_from, decode}
use Rattle.calls.specs.Calls.{BuiltReply, Push, push_mark, push_op_byte, push_swap, push_dup, push_exchange, push_minimal_u256, push_minimal_u64, push_minimal_u32, push_data, push_reference, Call, push, push_op_bytes, clear, has_large_mark, added, bytes_of, words_of, joins, joined, appended, with_section, bytes_pass, no_section_left, section_passes, push_reply, push_after, all_reply, each_after, all_after, each_op_byte, emptied, call_reply, call_after}
use Rattle.calls.specs.Lists.{added_each}
use Rattle.undamaged.specs.View.{Undamaged}
use Rattle.calls.specs.Answers.{Accepted, Kept}
use Rattle.slices.proofs.Tests.{and-false, cond_true, cond_false, cond_case}
use Rattle.undamaged.proofs.Soundness.{undamaged_iff}
use Rattle.calls.proofs.Reading.{large}
use Rattle.slices.proofs.Over.{drop_over, length_over}
use Rattle.calls.proofs.Grown.{row_below}
use Rattle.calls.proofs.Added.{BytesRoom, RowRoom, record_end, with_section_lem}
use Rattle.calls.proofs.Refusals.{push_answers, refused_same, accepted_added, all_first, all_same, all_each}

-- ---- what an accepted call had

-- room for its bytes
pub bytes_room : (s : Section) (st : Store) → bytes_pass s st ≡ false → BytesRoom s st
unfolding bytes_pass
bytes_room s st e = let l = ltb-false _ (st.stored_bytes + length (bytes_of s)) e in record { fits = omega arith; limit = omega arith }

-- room for its section, if it needs one
pub row_room : (w : ℕ) (s : Section) (st : Store) → section_passes w s st ≡ false → joins w s st ≡ false → RowRoom w st
unfolding section_passes no_section_left
row_room w s st e n =
    let r = (or-false (ltb max_sections (st.sections + 1)) (ltb (length st.words) (w * (st.sections + 1)))).0 (and-false (not (joins w s st)) _ e (rw n)) in
    record { fits = ltb-false _ _ r.1; limit = ltb-false _ _ r.0 }

-- no large mark
pub large_same : (p : Push) → has_large_mark p ≡ large (added p)
large_same (push_mark m) = refl
large_same (push_op_byte b) = refl
large_same (push_swap d) = refl
large_same (push_dup d) = refl
large_same (push_exchange n m) = refl
large_same (push_minimal_u256 word) = refl
large_same (push_minimal_u64 v) = refl
large_same (push_minimal_u32 v) = refl
large_same (push_data bs) = refl
large_same (push_reference r) = refl

-- ---- the slices past the counts, on any store

module _ (w : ℕ) (s : Section) (st : Store) (h : 3 ≤ w) (room : BytesRoom s st) where
  -- the stored bytes are within the slice
  stored_fits : st.stored_bytes ≤ length st.bytes
  stored_fits = le_trans (le-add_right st.stored_bytes (length (bytes_of s))) room.fits

  -- a section appended
  kept_appended : RowRoom w st → Kept w st (appended w s st)
  kept_appended new =
      let row : List ℕ = record_words w (words_of st.stored_bytes s) in
      let end : w * st.sections + length row ≡ w * (st.sections + 1) = record_end w st.sections (words_of st.stored_bytes s) h in
      let fits : w * st.sections ≤ length st.words = omega (arith, new.fits) in
      record {
        bytes_length = length_over st.bytes st.stored_bytes (bytes_of s) stored_fits room.fits;
        words_length = length_over st.words (w * st.sections) row fits (rw end new.fits);
        bytes_past = drop_over st.bytes st.stored_bytes (bytes_of s) stored_fits;
        words_past = subst (λ (k : ℕ). drop k (appended w s st).words ≡ drop k st.words) end (drop_over st.words (w * st.sections) row fits);
      }

  -- a section joined
  kept_joined : 0 < st.sections → Kept w st (joined w s st)
  kept_joined l =
      record {
        bytes_length = length_over st.bytes st.stored_bytes (bytes_of s) stored_fits room.fits;
        words_length = length-set st.words _ _;
        bytes_past = drop_over st.bytes st.stored_bytes (bytes_of s) stored_fits;
        words_past = drop-set-lt (w * st.sections) st.words (w * (st.sections - 1) + 2) _ (row_below w (st.sections - 1) st.sections h (omega arith));
      }

  -- a section added either way
  kept_with : (joins w s st ≡ false → RowRoom w st) → Kept w st (with_section w s st)
  unfolding with_section joins
  kept_with new = go (dichotomy (joins w s st))
    where
      go : (joins w s st ≡ false) ⊎ (joins w s st ≡ true) → Kept w st (with_section w s st)
      go (inr t) = rw (cond_true (joins w s st) (joined w s st) (appended w s st) t) (kept_joined (ltb-true 0 st.sections ((and-true _ _).0 t).0))
      go (inl n) = rw (cond_false (joins w s st) (joined w s st) (appended w s st) n) (kept_appended (new n))

-- nothing changes where nothing is done
kept_same : (w : ℕ) (st : Store) → Kept w st st
kept_same w st = record { bytes_length = refl; words_length = refl; bytes_past = refl; words_past = refl }

-- a push, accepted or refused
push_kept : (w : ℕ) (p : Push) (st : Store) → 3 ≤ w → Kept w st (push_after w p st)
push_kept w p st h = go (push_reply w p st) refl
  where
    go : (r : BuiltReply) → push_reply w p st ≡ r → Kept w st (push_after w p st)
    go (accepted a) e =
        let n = (((push_answers w p st).accepted_iff a).0 e).0 in
        let room = bytes_room (added p) st n.1.1.1.1.0 in
        rw (accepted_added w p st a e) (kept_with w (added p) st h room (row_room w (added p) st n.1.1.1.1.1.0))
    go (refused n i k) e = rw (refused_same w p st n i k e) (kept_same w st)

-- ---- the same of calls in turn

-- no count falls
abbrev Grows : Store → Store → Type 0
Grows old new = (old.stored_bytes ≤ new.stored_bytes) × (old.sections ≤ new.sections)

push_grows : (w : ℕ) (p : Push) (st : Store) → Grows st (push_after w p st)
unfolding with_section
push_grows w p st = go (push_reply w p st) refl
  where
    go : (r : BuiltReply) → push_reply w p st ≡ r → Grows st (push_after w p st)
    go (accepted a) e =
        rw (accepted_added w p st a e)
        (cond_case (Grows st) (joins w (added p) st) (joined w (added p) st) (appended w (added p) st) (λ _. (omega arith, omega arith)) (λ _. (omega arith, omega arith)))
    go (refused n i k) e = rw (refused_same w p st n i k e) (omega arith, omega arith)

-- where lists are the same from k on, they are from any later index on
drop_same : (x y : List ℕ) (k n : ℕ) → drop k x ≡ drop k y → k ≤ n → drop n x ≡ drop n y
drop_same x y k n e h =
    let sum : k + (n - k) ≡ n = omega arith in
    subst (λ (m : ℕ). drop m x ≡ drop m y) sum (sym (drop-drop (n - k) k x) ∙ ap (drop (n - k)) e ∙ drop-drop (n - k) k y)

-- one after another
kept_next : (w : ℕ) (a b c : Store) → Kept w a b → Kept w b c → Grows b c → Kept w a c
kept_next w a b c x y g =
    record {
      bytes_length = y.bytes_length ∙ x.bytes_length;
      words_length = y.words_length ∙ x.words_length;
      bytes_past = y.bytes_past ∙ drop_same b.bytes a.bytes b.stored_bytes c.stored_bytes x.bytes_past g.0;
      words_past = y.words_past ∙ drop_same b.words a.words (w * b.sections) (w * c.sections) x.words_past (mul-le-mul_left w g.1);
    }

each_kept : (w : ℕ) (ps : List Push) (st : Store) → 3 ≤ w → Kept w st (each_after w ps st) × Grows st (each_after w ps st)
unfolding each_after
each_kept w [] st h = (kept_same w st, (omega arith, omega arith))
each_kept w (p ∷ ps) st h =
    let rest = each_kept w ps (push_after w p st) h in
    let one = push_grows w p st in (
      kept_next w st (push_after w p st) (each_after w ps (push_after w p st)) (push_kept w p st h) rest.0 rest.1,
      (le_trans one.0 rest.1.0, le_trans one.1 rest.1.1),
    )

-- all or nothing
pub all_kept : (w : ℕ) (ps : List Push) (st : Store) → 3 ≤ w → Kept w st (all_after w ps st)
all_kept w ps st h = go (all_reply w ps st) refl
  where
    go : (r : BuiltReply) → all_reply w ps st ≡ r → Kept w st (all_after w ps st)
    go (accepted a) e = rw (all_each w ps st a e) (each_kept w ps st h).0
    go (refused n i k) e = rw (all_same w ps st n i k e) (kept_same w st)

-- every call leaves the slices past the counts alone
pub call_kept : (w : ℕ) (c : Call) (st : Store) → 3 ≤ w → Kept w st (call_after w c st)
call_kept w (push p) st h = push_kept w p st h
call_kept w (push_op_bytes bs) st h = all_kept w (each_op_byte bs) st h
call_kept w clear st h = record { bytes_length = refl; words_length = refl; bytes_past = refl; words_past = refl }

-- ---- undamaged stores

-- an emptied store is undamaged, whatever it was
pub emptied_undamaged : (w : ℕ) (st : Store) → Undamaged w (emptied st)
unfolding end_before
emptied_undamaged w st =
    (undamaged_iff w (emptied st)).1
    (record {
      bytes_fit = omega arith;
      bytes_limit = omega arith;
      sections_limit = omega arith;
      words_fit = omega (arith, mul-zero w);
      readable = λ i l. absurd (omega arith);
      starts = λ i l. absurd (omega arith);
      ends = refl;
    })

-- and has no sections
pub emptied_decode : (w : ℕ) (st : Store) → decode w (emptied st) ≡ []
unfolding decode decode_from
emptied_decode w st = refl

-- an accepted push on an undamaged store
push_accepted : (w : ℕ) (p : Push) (st : Store) (a : Assembler) → 3 ≤ w → Undamaged w st → push_reply w p st ≡ accepted a → Accepted w (push p) st a
push_accepted w p st a h u e =
    let q = ((push_answers w p st).accepted_iff a).0 e in
    let n = q.0 in
    let same : push_after w p st ≡ with_section w (added p) st = accepted_added w p st a e in
    let r = with_section_lem w (added p) st h ((undamaged_iff w st).0 u) (sym (large_same p) ∙ n.1.1.0) (bytes_room (added p) st n.1.1.1.1.0) (row_room w (added p) st n.1.1.1.1.1.0) in
    record {
      undamaged = rw same ((undamaged_iff w (with_section w (added p) st)).1 r.0);
      list = rw same r.1;
      answer = rw same q.1;
    }

-- refused or not, a push on an undamaged store leaves an undamaged one
push_undamaged : (w : ℕ) (p : Push) (st : Store) → 3 ≤ w → Undamaged w st → Undamaged w (push_after w p st)
push_undamaged w p st h u = go (push_reply w p st) refl
  where
    go : (r : BuiltReply) → push_reply w p st ≡ r → Undamaged w (push_after w p st)
    go (accepted a) e = (push_accepted w p st a h u e).undamaged
    go (refused n i k) e = rw (refused_same w p st n i k e) u

-- ---- the same of calls in turn

each_undamaged : (w : ℕ) (ps : List Push) (st : Store) → 3 ≤ w → Undamaged w st → Undamaged w (each_after w ps st)
unfolding each_after
each_undamaged w [] st h u = u
each_undamaged w (p ∷ ps) st h u = each_undamaged w ps (push_after w p st) h (push_undamaged w p st h u)

-- accepted, each has added its section, and the answer is the counts
each_added : (w : ℕ) (ps : List Push) (st : Store) (a : Assembler) → 3 ≤ w → Undamaged w st → all_reply w ps st ≡ accepted a
    → (decode w (each_after w ps st) ≡ added_each (decode w st) ps) × (a ≡ counts_of (each_after w ps st))
unfolding each_after all_reply added_each
each_added w [] st a h u e = (refl, cc)
each_added w (p ∷ ps) st a h u e =
    let first = all_first w p ps st a e in
    let one = push_accepted w p st first.0 h u first.1 in
    let rest = each_added w ps (push_after w p st) a h one.undamaged first.2 in
    (rest.0 ∙ ap (λ (l : List Section). added_each l ps) one.list, rest.1)

-- all or nothing
pub all_accepted_lem : (w : ℕ) (ps : List Push) (st : Store) (a : Assembler) → 3 ≤ w → Undamaged w st → all_reply w ps st ≡ accepted a
    → Undamaged w (all_after w ps st) × (decode w (all_after w ps st) ≡ added_each (decode w st) ps) × (a ≡ counts_of (all_after w ps st))
all_accepted_lem w ps st a h u e = rw (all_each w ps st a e) (each_undamaged w ps st h u, (each_added w ps st a h u e).0, (each_added w ps st a h u e).1)

-- ---- any call

-- an accepted call on an undamaged store leaves an undamaged one, with the list that `call_list` says; its answer is the counts
pub call_accepted : (w : ℕ) (c : Call) (st : Store) (a : Assembler) → 3 ≤ w → Undamaged w st → call_reply w c st ≡ accepted a → Accepted w c st a
call_accepted w (push p) st a h u e = push_accepted w p st a h u e
call_accepted w (push_op_bytes bs) st a h u e =
    let all = all_accepted_lem w (each_op_byte bs) st a h u e in
    record { undamaged = all.0; list = all.1; answer = all.2 }
call_accepted w clear st a h u e =
    record { undamaged = emptied_undamaged w st; list = emptied_decode w st; answer = cc }

-- refused or not, a call on an undamaged store leaves an undamaged one
pub call_undamaged : (w : ℕ) (c : Call) (st : Store) → 3 ≤ w → Undamaged w st → Undamaged w (call_after w c st)
call_undamaged w (push p) st h u = push_undamaged w p st h u
call_undamaged w (push_op_bytes bs) st h u = all-undamaged (all_reply w (each_op_byte bs) st) refl
  where
    all-undamaged : (r : BuiltReply) → all_reply w (each_op_byte bs) st ≡ r → Undamaged w (all_after w (each_op_byte bs) st)
    all-undamaged (accepted a) e = (all_accepted_lem w (each_op_byte bs) st a h u e).0
    all-undamaged (refused n i k) e = rw (all_same w (each_op_byte bs) st n i k e) u
call_undamaged w clear st h u = emptied_undamaged w st
