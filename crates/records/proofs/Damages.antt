-- Laws of the tests for number 6: one for each way that the code goes. Assumes nothing.
use Prim.Native.Nat.{ℕ, zero, suc, ◌+◌, ◌*◌, ◌-◌, ◌≤◌, ◌<◌}
use native.Mathlib.Omega.{arith}
use mathlib.Core.Path.{◌≡◌, refl, sym, ◌∙◌, ap}
use mathlib.Core.Bool.{Bool, true, false, not, cond, ◌&&◌, true≢false}
use native.Mathlib.Numerals.{add-one}
use lib.Dec.{leb, ltb, eqb}
use lib.ListN.{length}
use borrow.Author.Tests.{lt-ltb, le-ltb, le-leb, lt-leb, leb-true, leb-false, not-false}
use Rattle.records.specs.Store.{Store, max_bytes, max_sections, section_words, bad_counts}
use Rattle.records.specs.Damage.{is_span, broken_section, broken_last, end_before, spans_end, breaks_rule, bad_count, broken_reply, whole_soundness, last_broken, bad_count_building, last_soundness}
use Rattle.slices.proofs.First.{NoneBefore, search_start, search_next, search_hit, search_done}
use Rattle.records.specs.declared.record.StoredSection.{StoredSection}
use Rattle.records.specs.Damage.{Soundness}

-- a test and the test the other way round
pub ltb_not_leb : (a b : ℕ) → ltb a b ≡ not (leb b a)
ltb_not_leb a b = go (leb b a) refl
  where
    go : (t : Bool) → leb b a ≡ t → ltb a b ≡ not t
    go true e = le-ltb a b (leb-true b a e)
    go false e = lt-ltb a b (leb-false b a e)

-- counts beyond slices or limits
module _ (w : ℕ) (st : Store) where
  pub bytes_past_slice : length st.bytes < st.stored_bytes → true ≡ bad_counts w st
  unfolding bad_counts
  bytes_past_slice h =
      let a : leb st.stored_bytes (length st.bytes) ≡ false = lt-leb _ _ h in
      rw a

  pub bytes_past_limit : st.stored_bytes ≤ length st.bytes → max_bytes < st.stored_bytes → true ≡ bad_counts w st
  unfolding bad_counts
  bytes_past_limit g h =
      let a : leb st.stored_bytes (length st.bytes) ≡ true = le-leb _ _ g in
      let b : leb st.stored_bytes max_bytes ≡ false = lt-leb _ _ h in
      rw (a, b)

  pub sections_past_limit : st.stored_bytes ≤ length st.bytes → st.stored_bytes ≤ max_bytes → max_sections < st.sections → true ≡ bad_counts w st
  unfolding bad_counts
  sections_past_limit g h k =
      let a : leb st.stored_bytes (length st.bytes) ≡ true = le-leb _ _ g in
      let b : leb st.stored_bytes max_bytes ≡ true = le-leb _ _ h in
      let c : leb st.sections max_sections ≡ false = lt-leb _ _ k in
      rw (a, b, c)

  pub words_past_slice : st.stored_bytes ≤ length st.bytes → st.stored_bytes ≤ max_bytes → st.sections ≤ max_sections → ltb (length st.words) (w * st.sections) ≡ bad_counts w st
  unfolding bad_counts
  words_past_slice g h k =
      let a : leb st.stored_bytes (length st.bytes) ≡ true = le-leb _ _ g in
      let b : leb st.stored_bytes max_bytes ≡ true = le-leb _ _ h in
      let c : leb st.sections max_sections ≡ true = le-leb _ _ k in
      rw (a, b, c) (ltb_not_leb (length st.words) (w * st.sections))

-- the walk back over the sections to the last Ops or Data section
module _ (w : ℕ) (st : Store) where
  pub spans_hit : (n k : ℕ) → 0 < n → k ≡ n - 1 → is_span (section_words w st k).kind ≡ true → spans_end w st n ≡ n
  unfolding spans_end
  spans_hit zero k l e t = absurd (omega arith)
  spans_hit (suc n) k l e t =
      let same : k ≡ n = omega arith in
      let u : is_span (section_words w st n).kind ≡ true = rw same at t in
      rw u

  pub spans_miss : (n k : ℕ) → 0 < n → k ≡ n - 1 → is_span (section_words w st k).kind ≡ false → spans_end w st n ≡ spans_end w st k
  unfolding spans_end
  spans_miss zero k l e t = absurd (omega arith)
  spans_miss (suc n) k l e t =
      let same : k ≡ n = omega arith in
      let u : is_span (section_words w st n).kind ≡ false = rw same at t in
      rw (u, same)

  pub spans_none : spans_end w st 0 ≡ 0
  unfolding spans_end
  spans_none = refl

-- the walk forward over the sections
module _ (w : ℕ) (st : Store) where
  pub end_none : end_before w st 0 ≡ 0
  unfolding end_before
  end_none = refl

  pub end_next : (i : ℕ) → end_before w st (i + 1) ≡ cond (is_span (section_words w st i).kind) (section_words w st i).second (end_before w st i)
  unfolding end_before
  end_next i = rw add-one

-- a walk over the sections that has found none broken before i, with the end of the last Ops or Data section before it
abbrev pub Walked : ℕ → Store → ℕ → ℕ → Type 0
Walked w st i end = (i ≤ st.sections) × (end ≡ end_before w st i) × NoneBefore (breaks_rule w st) i

module _ (w : ℕ) (st : Store) where
  pub walk_start : Walked w st 0 0
  walk_start = (omega arith, sym (end_none w st), search_start (breaks_rule w st))

  -- what the code tests of section i is that it breaks a rule
  pub walk_test :
      (i end spans : ℕ) (r : StoredSection) → r ≡ section_words w st i → end ≡ end_before w st i → spans ≡ spans_end w st st.sections
      → broken_section r end (eqb (i + 1) spans) st.stored_bytes ≡ breaks_rule w st i
  unfolding breaks_rule
  walk_test i end spans r er ee es = rw (er, ee, es, add-one i)

  pub walk_next :
      (i end next : ℕ) → Walked w st i end → i < st.sections → breaks_rule w st i ≡ false
      → next ≡ cond (is_span (section_words w st i).kind) (section_words w st i).second end → Walked w st (i + 1) next
  walk_next i end next h l b e = (
    omega arith,
    e ∙ ap (cond (is_span (section_words w st i).kind) (section_words w st i).second) h.1 ∙ sym (end_next w st i),
    search_next (breaks_rule w st) i h.2 b,
  )

  pub walk_broken : (i end : ℕ) → Walked w st i end → i < st.sections → breaks_rule w st i ≡ true → Soundness.Damaged i ≡ broken_reply w st
  unfolding broken_reply
  walk_broken i end h l b = rw (← search_hit (breaks_rule w st) st.sections i h.2 l b, lt-ltb _ _ l)

  pub walk_done : (i end : ℕ) → Walked w st i end → st.sections ≤ i → Soundness.Sound ≡ broken_reply w st
  unfolding broken_reply
  walk_done i end h l = rw (← search_done (breaks_rule w st) st.sections i h.2 h.0 l, le-ltb _ _ l)

  -- the whole test
  pub whole_counts : bad_counts w st ≡ true → Soundness.Damaged 0 ≡ whole_soundness w st
  unfolding whole_soundness bad_count
  whole_counts e = rw e

  pub whole_unheld : bad_counts w st ≡ false → (ltb 0 st.stored_bytes && eqb (spans_end w st st.sections) 0) ≡ true → Soundness.Damaged 0 ≡ whole_soundness w st
  unfolding whole_soundness bad_count
  whole_unheld e t = rw (e, t)

  pub whole_sections : bad_counts w st ≡ false → (ltb 0 st.stored_bytes && eqb (spans_end w st st.sections) 0) ≡ false → broken_reply w st ≡ whole_soundness w st
  unfolding whole_soundness bad_count
  whole_sections e t = rw (e, t)

  -- a building call's test
  pub last_counts : bad_counts w st ≡ true → Soundness.Damaged 0 ≡ last_soundness w st
  unfolding last_soundness bad_count_building
  last_counts e = rw e

  pub last_unheld : bad_counts w st ≡ false → (ltb 0 st.stored_bytes && eqb st.sections 0) ≡ true → Soundness.Damaged 0 ≡ last_soundness w st
  unfolding last_soundness bad_count_building
  last_unheld e t = rw (e, t)

  pub last_none : bad_counts w st ≡ false → (ltb 0 st.stored_bytes && eqb st.sections 0) ≡ false → st.sections ≡ 0 → Soundness.Sound ≡ last_soundness w st
  unfolding last_soundness bad_count_building
  last_none e t z =
      let u : ltb 0 st.sections ≡ false = le-ltb 0 st.sections (omega arith) in
      rw (e, t, u)

  pub last_damaged :
      bad_counts w st ≡ false → (ltb 0 st.stored_bytes && eqb st.sections 0) ≡ false → (st.sections ≡ 0 → ⊥)
      → broken_last (section_words w st (st.sections - 1)) st.stored_bytes ≡ true → Soundness.Damaged (st.sections - 1) ≡ last_soundness w st
  unfolding last_soundness bad_count_building last_broken
  last_damaged e t z b =
      let u : ltb 0 st.sections ≡ true = lt-ltb 0 st.sections (omega arith) in
      rw (e, t, u, b)

  pub last_sound :
      bad_counts w st ≡ false → (ltb 0 st.stored_bytes && eqb st.sections 0) ≡ false → (st.sections ≡ 0 → ⊥)
      → broken_last (section_words w st (st.sections - 1)) st.stored_bytes ≡ false → Soundness.Sound ≡ last_soundness w st
  unfolding last_soundness bad_count_building last_broken
  last_sound e t z b =
      let u : ltb 0 st.sections ≡ true = lt-ltb 0 st.sections (omega arith) in
      rw (e, t, u, b)

  -- where the counts are good, bytes and sections fit slices and limits
  good : bad_counts w st ≡ false → (st.stored_bytes ≤ length st.bytes) × (st.stored_bytes ≤ max_bytes) × (st.sections ≤ max_sections) × (w * st.sections ≤ length st.words)
  unfolding bad_counts
  good e =
      let h = all_true (leb st.stored_bytes (length st.bytes)) (leb st.stored_bytes max_bytes) (leb st.sections max_sections) (leb (w * st.sections) (length st.words)) (not-false _ e) in
      (leb-true _ _ h.0, leb-true _ _ h.1, leb-true _ _ h.2, leb-true _ _ h.3)
    where
      all_true : (a b c d : Bool) → (a && b && c && d) ≡ true → (a ≡ true) × (b ≡ true) × (c ≡ true) × (d ≡ true)
      all_true true true true d h = (refl, refl, refl, h)
      all_true true true false d h = absurd (true≢false (sym h))
      all_true true false c d h = absurd (true≢false (sym h))
      all_true false b c d h = absurd (true≢false (sym h))

  pub good_words : bad_counts w st ≡ false → w * st.sections ≤ length st.words
  good_words e = (good e).3

  pub good_bytes : bad_counts w st ≡ false → (st.stored_bytes ≤ length st.bytes) × (st.stored_bytes ≤ max_bytes)
  good_bytes e = ((good e).0, (good e).1)
