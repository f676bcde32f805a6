-- A run of op bytes: each byte pushed in turn, all or nothing, comes to what judging the run at once gives. For every store, damaged or
-- not. Assumes nothing.
use Prim.Native.Nat.{ℕ, zero, suc, ◌+◌, ◌*◌, ◌-◌, ◌≤◌, ◌<◌, min}
use native.Mathlib.Nat.{add-zero}
use native.Mathlib.Omega.{arith}
use mathlib.Core.Path.{◌≡◌, refl, sym, ap, ap₂, ◌∙◌, subst}
use mathlib.Core.Bool.{Bool, true, false, cond, not, ◌&&◌, and-eq-true_iff as and-true}
use mathlib.Mathlib.Data.Bool.Basic.{or-eq-false-eq-eq-false-and-eq-false as or-false, dichotomy}
use mathlib.Core.List.{List, [], ◌∷◌, ◌++◌}
use mathlib.Core.Logic.{◌⊎◌, inl, inr}
use lib.ListN.{length, get_or, set, length-set, length-append}
use lib.Seq.{set-get_or, get_or-set_same, get_or-set_other}
use lib.Dec.{ltb, eqb}
use borrow.Author.Tests.{lt-ltb, le-ltb, ltb-true, eq-eqb, eqb-true, not-false}
use Rattle.units.specs.Replies.{bytes_full, sections_full, damaged}
use Rattle.units.specs.Reply.{accepted, refused}
use Rattle.records.specs.declared.Assembler.{Assembler}
use Rattle.records.specs.Record.{ops_kind, read_section}
use Rattle.records.specs.Store.{Store, counts_of, max_bytes, section_words, record_words}
use Rattle.records.specs.Damage.{unreadable, is_span, last_broken, last_soundness}
use Rattle.records.specs.Sections.{Section, ops}
use Rattle.records.specs.declared.record.AsmSection.TheVariants.{Ops}
use Rattle.records.specs.declared.record.StoredSection.{StoredSection}
use Rattle.records.specs.Damage.{Soundness}
use Rattle.records.specs.Damage.{Sound, Damaged}
use Rattle.records.proofs.Reading.{span_read, section_ops}
use Rattle.slices.specs.Over.{over}
use Rattle.slices.proofs.Over.{length_over, over_nothing, over_next, set_over}
use Rattle.slices.proofs.Tests.{and-false, cond_true, cond_false, cond_case, clash}
use Rattle.undamaged.specs.View.{Within, unsound}
use Rattle.undamaged.proofs.Reading.{view, span_ordered}
use Rattle.undamaged.proofs.Soundness.{last_sound_iff}
use Rattle.calls.specs.Calls.{BuiltReply, Push, push_op_byte, push_op_bytes, bytes_of, words_of, joins, joined, appended, with_section, bytes_pass, section_passes, no_section_left, push_reply, push_after, if_stored, all_reply, each_after, all_after, each_op_byte, call_reply, call_after}
use Rattle.calls.specs.AtOnce.{no_byte_left, at_once_reply, at_once_after, op_bytes_reply, op_bytes_after}
use Rattle.calls.proofs.Grown.{row_below}
use Rattle.calls.proofs.Added.{BytesRoom, RowRoom, record_end, row_read}
use Rattle.calls.proofs.Calls.{bytes_room, row_room}
use Rattle.calls.proofs.Refusals.{push_answers, accepted_added, all_refused, all_next, all_same, all_each}

-- ---- a store whose last section is Ops

record Ready (w : ℕ) (st : Store) : Type 0 where
  within : Within w st
  some : 0 < st.sections
  is_ops : (section_words w st (st.sections - 1)).kind ≡ ops_kind
  starts : (section_words w st (st.sections - 1)).first ≤ st.stored_bytes
  ends : (section_words w st (st.sections - 1)).second ≡ st.stored_bytes

module _ (w : ℕ) (st : Store) where
  -- a building call finds it sound
  ready_sound : Ready w st → last_soundness w st ≡ Sound
  unfolding last_broken
  ready_sound r =
      let x : StoredSection = section_words w st (st.sections - 1) in
      let ordered : x.first ≤ x.second = omega (arith, r.starts, r.ends) in
      let readable : unreadable (read_section x) ≡ false = ap unreadable (sym (section_ops x _ r.is_ops (span_read x.first x.second Ops ordered))) in
      (last_sound_iff w st).1 (r.within, λ z. absurd (omega (arith, r.some, z)), λ l. rw (readable, r.is_ops, eq-eqb x.second st.stored_bytes r.ends))

  -- op bytes join it
  ready_joins : Ready w st → (bs : List ℕ) → joins w (ops bs) st ≡ true
  unfolding joins
  ready_joins r bs = rw (lt-ltb 0 st.sections r.some, eq-eqb _ ops_kind r.is_ops)

  -- a sound store that op bytes join is one
  joins_ready : last_soundness w st ≡ Sound → (bs : List ℕ) → joins w (ops bs) st ≡ true → Ready w st
  unfolding joins last_broken
  joins_ready e bs j =
      let x : StoredSection = section_words w st (st.sections - 1) in
      let s = (last_sound_iff w st).0 e in
      let t = (and-true (ltb 0 st.sections) (eqb x.kind ops_kind)).0 j in
      let some : 0 < st.sections = ltb-true 0 st.sections t.0 in
      let kind : x.kind ≡ ops_kind = eqb-true x.kind ops_kind t.1 in
      let span : is_span x.kind ≡ true = ap is_span kind in
      let whole = (or-false (unreadable (read_section x)) (is_span x.kind && not (eqb x.second st.stored_bytes))).0 (s.2 some) in
      let ends : x.second ≡ st.stored_bytes = eqb-true x.second st.stored_bytes (not-false _ (and-false _ _ whole.1 span)) in
      record {
        within = s.0;
        some = some;
        is_ops = kind;
        starts = subst (λ (k : ℕ). x.first ≤ k) ends (span_ordered (view x) whole.0 span);
        ends = ends;
      }

-- ---- op bytes joined to it

-- written twice, the later counts
set_twice : (l : List ℕ) (i a b : ℕ) → set (set l i a) i b ≡ set l i b
set_twice [] i a b = refl
set_twice (x ∷ xs) zero a b = refl
set_twice (x ∷ xs) (suc i) a b = ap (λ (r : List ℕ). x ∷ r) (set_twice xs i a b)

module _ (w : ℕ) (st : Store) (h : 3 ≤ w) (r : Ready w st) where
  -- the last record's place
  abbrev row : ℕ
  row = w * (st.sections - 1)

  row_fits : row + 2 < length st.words
  row_fits = omega (arith, row_below w (st.sections - 1) st.sections h (omega (arith, r.some)), r.within.3)

  -- none of them: nothing changes
  joined_none : joined w (ops []) st ≡ st
  joined_none =
      let bytes = over_nothing st.bytes st.stored_bytes in
      let end : st.stored_bytes + 0 ≡ get_or st.words (row + 2) 0 = add-zero st.stored_bytes ∙ sym r.ends in
      let words = ap (set st.words (row + 2)) end ∙ set-get_or st.words (row + 2) 0 in
      let count = add-zero st.stored_bytes in
      λ p. record { bytes = bytes p; words = words p; stored_bytes = count p; sections = st.sections }

  module _ (xs : List ℕ) (room : BytesRoom (ops xs) st) where
    stored_fits : st.stored_bytes ≤ length st.bytes
    stored_fits = r.within.0

    -- it is such a store again
    joined_ready : Ready w (joined w (ops xs) st)
    joined_ready =
        let n = st.stored_bytes + length xs in
        record {
          within = (
            rw (length_over st.bytes st.stored_bytes xs stored_fits room.fits) room.fits,
            room.limit,
            r.within.2,
            rw (length-set st.words (row + 2) n) r.within.3,
          );
          some = r.some;
          is_ops = get_or-set_other st.words (row + 2) row n 0 (λ e. omega (arith, e)) ∙ r.is_ops;
          starts = omega (arith, get_or-set_other st.words (row + 2) (row + 1) n 0 (λ e. omega (arith, e)), r.starts);
          ends = get_or-set_same st.words (row + 2) n 0 row_fits;
        }

    -- some, and then more, are both at once
    joined_next : (ys : List ℕ) → joined w (ops ys) (joined w (ops xs) st) ≡ joined w (ops (xs ++ ys)) st
    joined_next ys =
        let bytes = over_next st.bytes st.stored_bytes xs ys room.fits in
        let count : st.stored_bytes + length xs + length ys ≡ st.stored_bytes + length (xs ++ ys) = omega (arith, length-append xs ys) in
        let words = set_twice st.words (row + 2) (st.stored_bytes + length xs) _ ∙ ap (set st.words (row + 2)) count in
        λ p. record { bytes = bytes p; words = words p; stored_bytes = count p; sections = st.sections }

-- ---- op bytes that begin it

module _ (w : ℕ) (st : Store) (h : 3 ≤ w) (within : Within w st) (new : RowRoom w st) (xs : List ℕ) (room : BytesRoom (ops xs) st) where
  -- the record, and its index
  abbrev begun : StoredSection
  begun = words_of st.stored_bytes (ops xs)

  last_index : st.sections + 1 - 1 ≡ st.sections
  last_index = omega arith

  begun_read : section_words w (appended w (ops xs) st) (st.sections + 1 - 1) ≡ begun
  begun_read = ap (section_words w (appended w (ops xs) st)) last_index ∙ row_read w (ops xs) st within.3

  -- such a store
  appended_ready : Ready w (appended w (ops xs) st)
  appended_ready =
      let fits : w * st.sections + length (record_words w begun) ≤ length st.words = rw (record_end w st.sections begun h) new.fits in
      record {
        within = (
          rw (length_over st.bytes st.stored_bytes xs within.0 room.fits) room.fits,
          room.limit,
          new.limit,
          rw (length_over st.words (w * st.sections) (record_words w begun) within.3 fits) new.fits,
        );
        some = omega arith;
        is_ops = ap (λ (x : StoredSection). x.kind) begun_read;
        starts = omega (arith, ap (λ (x : StoredSection). x.first) begun_read);
        ends = ap (λ (x : StoredSection). x.second) begun_read;
      }

  -- some, and then more, are both at once
  appended_next : (ys : List ℕ) → joined w (ops ys) (appended w (ops xs) st) ≡ appended w (ops (xs ++ ys)) st
  appended_next ys =
      let bytes = over_next st.bytes st.stored_bytes xs ys room.fits in
      let count : st.stored_bytes + length xs + length ys ≡ st.stored_bytes + length (xs ++ ys) = omega (arith, length-append xs ys) in
      let place : w * (st.sections + 1 - 1) + 2 ≡ w * st.sections + 2 = ap (λ (k : ℕ). w * k + 2) last_index in
      let words =
      ap₂ (set (appended w (ops xs) st).words) place count
      ∙ set_over st.words (w * st.sections) (record_words w begun) 2 (st.stored_bytes + length (xs ++ ys)) within.3 (omega arith)
      in
      λ p. record { bytes = bytes p; words = words p; stored_bytes = count p; sections = st.sections + 1 }

-- ---- each byte in turn

-- either way a section is added, its bytes follow those stored
pub with_bytes : (w : ℕ) (s : Section) (st : Store)
    → ((with_section w s st).bytes ≡ over st.bytes st.stored_bytes (bytes_of s)) × ((with_section w s st).stored_bytes ≡ st.stored_bytes + length (bytes_of s))
unfolding with_section
with_bytes w s st =
    cond_case (λ (x : Store). (x.bytes ≡ over st.bytes st.stored_bytes (bytes_of s)) × (x.stored_bytes ≡ st.stored_bytes + length (bytes_of s)))
    (joins w s st) (joined w s st) (appended w s st) (λ _. (refl, refl)) (λ _. (refl, refl))

-- whether they join, and whether a section is left, doesn't depend on the bytes
joins_any : (w : ℕ) (bs cs : List ℕ) (st : Store) → joins w (ops bs) st ≡ joins w (ops cs) st
unfolding joins
joins_any w bs cs st = refl

section_any : (w : ℕ) (bs cs : List ℕ) (st : Store) → section_passes w (ops bs) st ≡ section_passes w (ops cs) st
unfolding section_passes
section_any w bs cs st = ap (λ (t : Bool). not t && no_section_left w st.sections st.words) (joins_any w bs cs st)

-- joined, they need no section
joined_left : (w : ℕ) (bs : List ℕ) (st : Store) → joins w (ops bs) st ≡ true → section_passes w (ops bs) st ≡ false
unfolding section_passes
joined_left w bs st e = rw e

with_joined : (w : ℕ) (bs : List ℕ) (st : Store) → joins w (ops bs) st ≡ true → with_section w (ops bs) st ≡ joined w (ops bs) st
unfolding with_section
with_joined w bs st e = cond_true _ _ _ e

with_appended : (w : ℕ) (bs : List ℕ) (st : Store) → joins w (ops bs) st ≡ false → with_section w (ops bs) st ≡ appended w (ops bs) st
unfolding with_section
with_appended w bs st e = cond_false _ _ _ e

-- op bytes in turn on a store that takes the first of them: 4, or all stored, which leaves `end`
record Comes (w : ℕ) (bs : List ℕ) (st end : Store) : Type 0 where
  reply : all_reply w (each_op_byte bs) st ≡ cond (bytes_pass (ops bs) st) (refused bytes_full 0 0) (accepted (counts_of end))
  after : bytes_pass (ops bs) st ≡ false → each_after w (each_op_byte bs) st ≡ end

module _ (w : ℕ) (h : 3 ≤ w) (b : ℕ) (bs : List ℕ) (st : Store) (sound : last_soundness w st ≡ Sound) where
  abbrev first : Push
  first = push_op_byte b

  not_unsound : unsound (last_soundness w st) ≡ false
  not_unsound = ap unsound sound

  -- the first byte is refused, so the run is
  first_full : bytes_pass (ops (b ∷ [])) st ≡ true → all_reply w (each_op_byte (b ∷ bs)) st ≡ refused bytes_full 0 0
  first_full full =
      all_refused w first (each_op_byte bs) st bytes_full 0 0
      (((push_answers w first st).bytes_full_iff 0 0).1 ((refl, (refl, (refl, (not_unsound, tt)))), full, refl, refl))

  module _ (room : bytes_pass (ops (b ∷ [])) st ≡ false) where
    first_sectionless : section_passes w (ops (b ∷ [])) st ≡ true → all_reply w (each_op_byte (b ∷ bs)) st ≡ refused sections_full 0 0
    first_sectionless full =
        all_refused w first (each_op_byte bs) st sections_full 0 0
        (((push_answers w first st).sections_full_iff 0 0).1 ((refl, (refl, (refl, (not_unsound, (room, tt))))), full, refl, refl))

    module _ (left : section_passes w (ops (b ∷ [])) st ≡ false) where
      -- the first byte is accepted, and leaves this
      abbrev then : Store
      then = with_section w (ops (b ∷ [])) st

      first_stored : push_reply w first st ≡ accepted (counts_of then)
      first_stored = ((push_answers w first st).accepted_iff (counts_of then)).1 ((refl, (refl, (refl, (not_unsound, (room, (left, tt)))))), refl)

      first_after : push_after w first st ≡ then
      first_after = accepted_added w first st (counts_of then) first_stored

      -- there the others pass where all do here
      pass_next : bytes_pass (ops bs) then ≡ bytes_pass (ops (b ∷ bs)) st
      unfolding bytes_pass
      pass_next =
          let here = bytes_room (ops (b ∷ [])) st room in
          let slice : length then.bytes ≡ length st.bytes =
          ap length (with_bytes w (ops (b ∷ [])) st).0 ∙ length_over st.bytes st.stored_bytes (b ∷ []) (omega (arith, here.fits)) here.fits
          in
          let count : then.stored_bytes + length bs ≡ st.stored_bytes + suc (length bs) = omega (arith, (with_bytes w (ops (b ∷ [])) st).1) in
          ap₂ (λ (n k : ℕ). ltb (min n max_bytes) k) slice count

      -- so what the others come to, the run comes to
      then_more : (end : Store) → Comes w bs then end → Comes w (b ∷ bs) st end
      unfolding each_after
      then_more end rest =
          record {
            reply =
                all_next w first (each_op_byte bs) st (counts_of then) first_stored
                ∙ ap (all_reply w (each_op_byte bs)) first_after
                ∙ rest.reply
                ∙ ap (λ (t : Bool). cond t (refused bytes_full 0 0) (accepted (counts_of end))) pass_next;
            after = λ e. ap (each_after w (each_op_byte bs)) first_after ∙ rest.after (pass_next ∙ e);
          }

-- where one byte passes the room, more do
pass_fewer : (b : ℕ) (bs : List ℕ) (st : Store) → bytes_pass (ops (b ∷ [])) st ≡ true → bytes_pass (ops (b ∷ bs)) st ≡ true
unfolding bytes_pass
pass_fewer b bs st t =
    lt-ltb (min (length st.bytes) max_bytes) (st.stored_bytes + suc (length bs))
    (omega (arith, ltb-true (min (length st.bytes) max_bytes) (st.stored_bytes + 1) t))

-- on a store whose last section is Ops
extended : (w : ℕ) (bs : List ℕ) (st : Store) → 3 ≤ w → Ready w st → Comes w bs st (joined w (ops bs) st)
unfolding all_reply each_after bytes_pass
extended w [] st h r =
    let none : bytes_pass (ops []) st ≡ false = le-ltb (min (length st.bytes) max_bytes) (st.stored_bytes + 0) (omega (arith, r.within.0, r.within.1)) in
    let same : joined w (ops []) st ≡ st = joined_none w st h r in
    record { reply = rw none (ap (λ (x : Store). accepted (counts_of x)) (sym same)); after = λ _. sym same }
extended w (b ∷ bs) st h r = go (dichotomy (bytes_pass (ops (b ∷ [])) st)) (λ s q. extended w bs s h q)
  where
    sound : last_soundness w st ≡ Sound
    sound = ready_sound w st r

    go : (bytes_pass (ops (b ∷ [])) st ≡ false) ⊎ (bytes_pass (ops (b ∷ [])) st ≡ true) → ((s : Store) → Ready w s → Comes w bs s (joined w (ops bs) s))
        → Comes w (b ∷ bs) st (joined w (ops (b ∷ bs)) st)
    go (inr t) rest =
        let all = pass_fewer b bs st t in
        record { reply = first_full w h b bs st sound t ∙ sym (cond_true _ _ _ all); after = λ f. clash _ all f }
    go (inl f) rest =
        let room = bytes_room (ops (b ∷ [])) st f in
        let joins-it = ready_joins w st r (b ∷ []) in
        let left = joined_left w (b ∷ []) st joins-it in
        let then = joined w (ops (b ∷ [])) st in
        let more : Comes w bs then (joined w (ops (b ∷ bs)) st) =
        subst (Comes w bs then) (joined_next w st h r (b ∷ []) room bs) (rest then (joined_ready w st h r (b ∷ []) room))
        in
        then_more w h b bs st sound f left (joined w (ops (b ∷ bs)) st) (subst (λ (s : Store). Comes w bs s (joined w (ops (b ∷ bs)) st)) (sym (with_joined w (b ∷ []) st joins-it)) more)

-- on any that takes the first byte
stored_or_full : (w : ℕ) (b : ℕ) (bs : List ℕ) (st : Store) → 3 ≤ w → last_soundness w st ≡ Sound
    → bytes_pass (ops (b ∷ [])) st ≡ false → section_passes w (ops (b ∷ [])) st ≡ false → Comes w (b ∷ bs) st (with_section w (ops (b ∷ bs)) st)
stored_or_full w b bs st h sound room left = go (dichotomy (joins w (ops (b ∷ [])) st))
  where
    go : (joins w (ops (b ∷ [])) st ≡ false) ⊎ (joins w (ops (b ∷ [])) st ≡ true) → Comes w (b ∷ bs) st (with_section w (ops (b ∷ bs)) st)
    go (inr t) = rw (with_joined w (b ∷ bs) st (joins_any w (b ∷ bs) (b ∷ []) st ∙ t)) (extended w (b ∷ bs) st h (joins_ready w st sound (b ∷ []) t))
    go (inl f) =
        let within = ((last_sound_iff w st).0 sound).0 in
        let new = row_room w (ops (b ∷ [])) st left f in
        let byte = bytes_room (ops (b ∷ [])) st room in
        let then = appended w (ops (b ∷ [])) st in
        let end = appended w (ops (b ∷ bs)) st in
        let more : Comes w bs then end =
        subst (Comes w bs then) (appended_next w st h within new (b ∷ []) byte bs) (extended w bs then h (appended_ready w st h within new (b ∷ []) byte))
        in
        rw (with_appended w (b ∷ bs) st (joins_any w (b ∷ bs) (b ∷ []) st ∙ f))
        (then_more w h b bs st sound room left end (subst (λ (s : Store). Comes w bs s end) (sym (with_appended w (b ∷ []) st f)) more))

-- ---- judged at once

-- both answers, and what both leave
abbrev Same : ℕ → List ℕ → Store → Type 0
Same w bs st = (all_reply w (each_op_byte bs) st ≡ at_once_reply w bs st) × (all_after w (each_op_byte bs) st ≡ at_once_after w bs st)

module _ (w : ℕ) (bs : List ℕ) (st : Store) where
  -- the same refusal
  same_refused : (n i k : ℕ) → all_reply w (each_op_byte bs) st ≡ refused n i k → at_once_reply w bs st ≡ refused n i k → Same w bs st
  unfolding at_once_after
  same_refused n i k e q = (e ∙ sym q, all_same w (each_op_byte bs) st n i k e ∙ sym (ap (λ (r : BuiltReply). if_stored r (with_section w (ops bs) st) st) q))

  -- or all stored
  same_stored : (a : Assembler) → all_reply w (each_op_byte bs) st ≡ accepted a → at_once_reply w bs st ≡ accepted a
      → each_after w (each_op_byte bs) st ≡ with_section w (ops bs) st → Same w bs st
  unfolding at_once_after
  same_stored a e q s = (
    e ∙ sym q,
    all_each w (each_op_byte bs) st a e ∙ s ∙ sym (ap (λ (r : BuiltReply). if_stored r (with_section w (ops bs) st) st) q),
  )

module _ (w : ℕ) (b : ℕ) (bs : List ℕ) (st : Store) (h : 3 ≤ w) where
  -- the closed form, by what its tests find: one byte fits and no section is left
  once_five : last_soundness w st ≡ Sound → no_byte_left st ≡ false → section_passes w (ops (b ∷ bs)) st ≡ true
      → at_once_reply w (b ∷ bs) st ≡ refused sections_full 0 0
  unfolding at_once_reply
  once_five e one s = simp (e, one, s)

  -- no byte fits
  once_four : last_soundness w st ≡ Sound → no_byte_left st ≡ true → at_once_reply w (b ∷ bs) st ≡ refused bytes_full 0 0
  unfolding at_once_reply
  once_four e one = simp (e, one)

  -- the first byte is taken: all or none
  once_rest : last_soundness w st ≡ Sound → no_byte_left st ≡ false → section_passes w (ops (b ∷ bs)) st ≡ false
      → at_once_reply w (b ∷ bs) st ≡ cond (bytes_pass (ops (b ∷ bs)) st) (refused bytes_full 0 0) (accepted (counts_of (with_section w (ops (b ∷ bs)) st)))
  unfolding at_once_reply
  once_rest e one s = simp (e, one, s)

  run_damaged : (i : ℕ) → last_soundness w st ≡ Damaged i → Same w (b ∷ bs) st
  unfolding at_once_reply
  run_damaged i e =
      let one = ((push_answers w (push_op_byte b) st).damaged_iff i 0).1 ((refl, (refl, (refl, tt))), e, refl) in
      same_refused w (b ∷ bs) st damaged i 0 (all_refused w (push_op_byte b) (each_op_byte bs) st damaged i 0 one) (rw e)

  run_sound : last_soundness w st ≡ Sound → Same w (b ∷ bs) st
  unfolding bytes_pass
  run_sound e = bytes (dichotomy (no_byte_left st)) (dichotomy (section_passes w (ops (b ∷ [])) st)) (dichotomy (bytes_pass (ops (b ∷ bs)) st))
    where
      any : section_passes w (ops (b ∷ bs)) st ≡ section_passes w (ops (b ∷ [])) st
      any = section_any w (b ∷ bs) (b ∷ []) st

      bytes : (no_byte_left st ≡ false) ⊎ (no_byte_left st ≡ true)
          → (section_passes w (ops (b ∷ [])) st ≡ false) ⊎ (section_passes w (ops (b ∷ [])) st ≡ true)
          → (bytes_pass (ops (b ∷ bs)) st ≡ false) ⊎ (bytes_pass (ops (b ∷ bs)) st ≡ true) → Same w (b ∷ bs) st
      bytes (inr one) s all = same_refused w (b ∷ bs) st bytes_full 0 0 (first_full w h b bs st e one) (once_four e one)
      bytes (inl one) (inr s) all =
          same_refused w (b ∷ bs) st sections_full 0 0 (first_sectionless w h b bs st e one s) (once_five e one (any ∙ s))
      bytes (inl one) (inl s) (inr all) =
          same_refused w (b ∷ bs) st bytes_full 0 0 ((stored_or_full w b bs st h e one s).reply ∙ cond_true _ _ _ all)
          (once_rest e one (any ∙ s) ∙ cond_true _ _ _ all)
      bytes (inl one) (inl s) (inl all) =
          let c = stored_or_full w b bs st h e one s in
          same_stored w (b ∷ bs) st _ (c.reply ∙ cond_false _ _ _ all)
          (once_rest e one (any ∙ s) ∙ cond_false _ _ _ all) (c.after all)

  run_same : Same w (b ∷ bs) st
  run_same = go (last_soundness w st) refl
    where
      go : (s : Soundness) → last_soundness w st ≡ s → Same w (b ∷ bs) st
      go Sound e = run_sound e
      go (Damaged i) e = run_damaged i e

-- each byte pushed in turn, stopping at the first refusal, is the run judged at once
pub op_bytes_law : (w : ℕ) (bs : List ℕ) (st : Store) → 3 ≤ w
    → (call_reply w (push_op_bytes bs) st ≡ op_bytes_reply w bs st) × (call_after w (push_op_bytes bs) st ≡ op_bytes_after w bs st)
unfolding all_reply all_after each_after
op_bytes_law w [] st h = (refl, refl)
op_bytes_law w (b ∷ bs) st h = run_same w b bs st h
