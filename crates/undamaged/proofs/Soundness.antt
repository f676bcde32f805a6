-- The whole test and a building call's test as propositions: an undamaged store is one of plain facts, and `Damaged i` means that
-- section i is the first that breaks a rule (or that a count is bad). Assumes nothing.
use Prim.Native.Nat.{ℕ, zero, suc, ◌<◌, ◌-◌}
use native.Mathlib.Nat.{suc_inj, suc-ne-zero, le_refl, le_of_eq}
use native.Mathlib.Omega.{arith}
use mathlib.Core.Path.{◌≡◌, refl, sym, ap, ◌∙◌, subst}
use mathlib.Core.Bool.{Bool, true, false, cond, not, ◌&&◌, ◌||◌, true≢false, false≢true, and-eq-true_iff as and-true}
use mathlib.Mathlib.Data.Bool.Basic.{or-eq-false-eq-eq-false-and-eq-false as or-false, dichotomy}
use mathlib.Core.Logic.Iff
use mathlib.Core.Logic.{◌↔◌, ◌⊎◌, inl, inr}
use lib.Dec.{ltb, eqb}
use borrow.Author.Tests.{ltb-true, ltb-false, leb-true, eqb-true, not-false, lt-ltb, le-ltb, le-leb, eq-eqb, ne_eqb}
use Rattle.records.specs.Store.{Store, section_words, bad_counts}
use Rattle.records.specs.Damage.{is_span, end_before, spans_end, breaks_rule, first_broken, bad_count, broken_reply, whole_soundness, last_broken, bad_count_building, last_soundness}
use Rattle.records.specs.Damage.{Soundness}
use Rattle.records.specs.Damage.{Sound, Damaged}
use Rattle.undamaged.specs.View.{Undamaged, Facts, Within, Keeps, FirstBreak, DamagedAt, LastBreak}
use Rattle.slices.specs.First.{IsLeast}
use Rattle.undamaged.specs.View.{unsound}
use Rattle.slices.proofs.Tests.{and-false, false_and, cond_true, cond_false, and_false_left, or_iff}
use Rattle.slices.proofs.First.{least_from_least, least_same}

-- ---- the last Ops or Data section

-- among the first n sections: there is no Ops or Data section, or i is the last one
data LastSpan (w : ℕ) (st : Store) (n : ℕ) : Type 0 where
  no_span : spans_end w st n ≡ 0 → end_before w st n ≡ 0 → LastSpan w st n
  span_at : (i : ℕ) → i < n → is_span (section_words w st i).kind ≡ true → spans_end w st n ≡ suc i → end_before w st n ≡ (section_words w st i).second → LastSpan w st n

-- one more section, which is none of these
past : (w : ℕ) (st : Store) (n : ℕ) → is_span (section_words w st n).kind ≡ false → LastSpan w st n → LastSpan w st (suc n)
unfolding spans_end end_before
past w st n e (no_span a b) = no_span (cond_false _ _ _ e ∙ a) (cond_false _ _ _ e ∙ b)
past w st n e (span_at i l s a b) = span_at i (omega arith) s (cond_false _ _ _ e ∙ a) (cond_false _ _ _ e ∙ b)

-- one of the two always holds
last_span : (w : ℕ) (st : Store) (n : ℕ) → LastSpan w st n
unfolding spans_end end_before
last_span w st zero = no_span refl refl
last_span w st (suc n) = go (dichotomy (is_span (section_words w st n).kind)) (last_span w st n)
  where
    go : (is_span (section_words w st n).kind ≡ false) ⊎ (is_span (section_words w st n).kind ≡ true) → LastSpan w st n → LastSpan w st (suc n)
    go (inr t) r = span_at n (le_refl (suc n)) t (cond_true _ _ _ t) (cond_true _ _ _ t)
    go (inl f) r = past w st n f r

-- ---- the tests as facts

-- a negated comparison fails where the numbers are equal
unequal_iff : (a b : ℕ) → (not (eqb a b) ≡ false) ↔ (a ≡ b)
unequal_iff a b = (λ e. eqb-true a b (not-false (eqb a b) e), λ e. rw (eq-eqb a b e))

-- the test of the counts
counts_iff : (w : ℕ) (st : Store) → (bad_counts w st ≡ false) ↔ Within w st
unfolding bad_counts
counts_iff w st = (
  λ e.
      let abcd = (and-true _ _).0 (not-false _ e) in
      let abc = (and-true _ _).0 abcd.0 in
      let ab = (and-true _ _).0 abc.0 in
      (leb-true _ _ ab.0, leb-true _ _ ab.1, leb-true _ _ abc.1, leb-true _ _ abcd.1),
  λ h. rw (le-leb _ _ h.0, le-leb _ _ h.1, le-leb _ _ h.2, le-leb _ _ h.3),
)

-- the shape of a rule: u, or s with a, or s with both c and d
rule_iff : (u s a c d : Bool) → ((u || s && (a || c && d)) ≡ false) ↔ ((u ≡ false) × (s ≡ true → a ≡ false) × (s ≡ true → c ≡ true → d ≡ false))
rule_iff u s a c d = (
  λ e.
      let r = (or-false u (s && (a || c && d))).0 e in (
        r.0,
        λ t. ((or-false a (c && d)).0 (and-false s (a || c && d) r.1 t)).0,
        λ t. and-false c d ((or-false a (c && d)).0 (and-false s (a || c && d) r.1 t)).1,
      ),
  λ h. (or-false _ _).1 (h.0, false_and s (a || c && d) (λ t. (or-false _ _).1 (h.1 t, false_and c d (h.2 t)))),
)

-- the test of a section
pub keeps_iff : (w : ℕ) (st : Store) (i : ℕ) → (breaks_rule w st i ≡ false) ↔ Keeps w st i
unfolding breaks_rule
keeps_iff w st i = (
  λ e.
      let r = (rule_iff _ _ _ _ _).0 e in
      (r.0, λ s. (unequal_iff _ _).0 (r.1 s), λ s l. (unequal_iff _ _).0 (r.2 s (eq-eqb _ _ l))),
  λ h. (rule_iff _ _ _ _ _).1 (h.0, λ s. (unequal_iff _ _).1 (h.1 s), λ s l. (unequal_iff _ _).1 (h.2 s (eqb-true _ _ l))),
)

-- the whole test of the counts
pub bad_count_iff : (w : ℕ) (st : Store) → (bad_count w st ≡ false) ↔ (Within w st × (spans_end w st st.sections ≡ 0 → st.stored_bytes ≡ 0))
unfolding bad_count
bad_count_iff w st = (
  λ e.
      let r = (or-false (bad_counts w st) (ltb 0 st.stored_bytes && eqb (spans_end w st st.sections) 0)).0 e in
      ((counts_iff w st).0 r.0, λ z. omega (arith, ltb-false 0 st.stored_bytes (and_false_left _ _ r.1 (eq-eqb _ _ z)))),
  λ h. (or-false _ _).1 ((counts_iff w st).1 h.0, false_and _ _ (λ (l : ltb 0 st.stored_bytes ≡ true). ne_eqb _ _ (λ (z : spans_end w st st.sections ≡ 0). absurd (omega (arith, ltb-true 0 st.stored_bytes l, h.1 z))))),
)

-- ---- the answers of the two tests

-- the section that a test found
abbrev pub section_found : Soundness → ℕ
section_found Sound = 0
section_found (Damaged i) = i

-- sound: neither test of two passed
sound_iff : (b c : Bool) (j : ℕ) → (cond b (Damaged 0) (cond c (Damaged j) Sound) ≡ Sound) ↔ ((b ≡ false) × (c ≡ false))
sound_iff true c j = (λ e. absurd (true≢false (ap unsound e)), λ h. absurd (true≢false h.0))
sound_iff false true j = (λ e. absurd (true≢false (ap unsound e)), λ h. absurd (true≢false h.1))
sound_iff false false j = (λ e. (refl, refl), λ h. refl)

-- damaged: the first passed, and the section is 0; or the second alone did, and the section is its own
damaged_iff : (b c : Bool) (j i : ℕ) → (cond b (Damaged 0) (cond c (Damaged j) Sound) ≡ Damaged i) ↔ (((b ≡ true) × (i ≡ 0)) ⊎ ((b ≡ false) × ((c ≡ true) × (i ≡ j))))
damaged_iff true c j i = (λ e. inl (refl, sym (ap section_found e)), λ s. elim s [ inl p ↦ ap Damaged (sym p.1) | inr q ↦ absurd (true≢false q.0) ])
damaged_iff false true j i = (λ e. inr (refl, (refl, sym (ap section_found e))), λ s. elim s [ inl p ↦ absurd (false≢true p.0) | inr q ↦ ap Damaged (sym q.1.1) ])
damaged_iff false false j i = (λ e. absurd (false≢true (ap unsound e)), λ s. elim s [ inl p ↦ absurd (false≢true p.0) | inr q ↦ absurd (false≢true q.1.0) ])

-- ---- the whole test

-- no bad count, and every section keeps the rules
whole_iff : (w : ℕ) (st : Store) → Undamaged w st ↔ ((bad_count w st ≡ false) × ((i : ℕ) → i < st.sections → breaks_rule w st i ≡ false))
unfolding whole_soundness broken_reply
whole_iff w st =
    let least = least_from_least (breaks_rule w st) st.sections 0 in (
      λ e.
          let r : (bad_count w st ≡ false) × (ltb (first_broken w st) st.sections ≡ false) = (sound_iff _ _ _).0 e in
          (r.0, λ i l. least.none i (omega arith) (omega (arith, ltb-false (first_broken w st) st.sections r.1))),
      λ h.
          let end : IsLeast (breaks_rule w st) st.sections 0 st.sections =
          record { above = omega arith; within = omega arith; none = λ j a b. h.1 j b; holds = λ l. absurd (omega arith) }
          in
          (sound_iff _ _ _).1 (h.0, le-ltb (first_broken w st) st.sections (le_of_eq (least_same (breaks_rule w st) _ _ _ _ end least))),
    )

-- an undamaged store is one of plain facts
pub undamaged_iff : (w : ℕ) (st : Store) → Undamaged w st ↔ Facts w st
undamaged_iff w st = (λ u. facts u (last_span w st st.sections), λ f. (whole_iff w st).1 (counts f (last_span w st st.sections), λ i l. keeps f i l (last_span w st st.sections)))
  where
    facts : Undamaged w st → LastSpan w st st.sections → Facts w st
    facts u s =
        let r = (whole_iff w st).0 u in
        let c = (bad_count_iff w st).0 r.0 in
        let k : (i : ℕ) → i < st.sections → Keeps w st i = λ i l. (keeps_iff w st i).0 (r.1 i l) in
        record {
          bytes_fit = c.0.0;
          bytes_limit = c.0.1;
          sections_limit = c.0.2;
          words_fit = c.0.3;
          readable = λ i l. (k i l).0;
          starts = λ i l. (k i l).1;
          ends = elim s [ no_span a b ↦ b ∙ sym (c.1 a) | span_at i l t a b ↦ b ∙ (k i l).2 t (sym a) ];
        }

    counts : Facts w st → LastSpan w st st.sections → bad_count w st ≡ false
    counts f s =
        (bad_count_iff w st).1 (
          (f.bytes_fit, f.bytes_limit, f.sections_limit, f.words_fit),
          λ z. elim s [ no_span a b ↦ sym f.ends ∙ b | span_at i l t a b ↦ absurd (suc-ne-zero i (sym a ∙ z)) ],
        )

    keeps : Facts w st → (i : ℕ) → i < st.sections → LastSpan w st st.sections → breaks_rule w st i ≡ false
    keeps f i l s =
        (keeps_iff w st i).1 (
          f.readable i l,
          f.starts i l,
          λ t q. elim s [ no_span a b ↦ absurd (suc-ne-zero i (q ∙ a)) | span_at j m u a b ↦ subst (λ (x : ℕ). (section_words w st x).second ≡ st.stored_bytes) (sym (suc_inj (q ∙ a))) (sym b ∙ f.ends) ],
        )

-- what the search for a broken section finds
first_break_iff : (w : ℕ) (st : Store) (i : ℕ) → ((ltb (first_broken w st) st.sections ≡ true) × (i ≡ first_broken w st)) ↔ FirstBreak w st i
first_break_iff w st i =
    let least = least_from_least (breaks_rule w st) st.sections 0 in (
      λ q.
          let l : first_broken w st < st.sections = ltb-true _ _ q.0 in
          (omega (arith, q.1), subst (λ (x : ℕ). breaks_rule w st x ≡ true) (sym q.1) (least.holds (omega arith)), λ j h. least.none j (omega arith) (omega (arith, q.1))),
      λ q.
          let here : IsLeast (breaks_rule w st) st.sections 0 i =
          record { above = omega arith; within = omega (arith, q.0); none = λ j a b. q.2 j b; holds = λ h. q.1 }
          in
          let e : i ≡ first_broken w st = least_same (breaks_rule w st) _ _ _ _ here least in
          (lt-ltb (first_broken w st) st.sections (omega (arith, q.0)), e),
    )

-- `Damaged i`: a bad count, and i is 0; or section i is the first that breaks a rule
pub damaged_at_iff : (w : ℕ) (st : Store) (i : ℕ)
    → (whole_soundness w st ≡ Damaged i) ↔ DamagedAt w st i
unfolding whole_soundness broken_reply
damaged_at_iff w st i = Iff.trans (damaged_iff _ _ _ _) (or_iff (Iff.and Iff.rfl (first_break_iff w st i)))

-- ---- a building call's test

-- what the test of the last section finds
last_break_iff : (w : ℕ) (st : Store) (i : ℕ) → (((ltb 0 st.sections && last_broken w st (st.sections - 1)) ≡ true) × (i ≡ st.sections - 1)) ↔ LastBreak w st i
last_break_iff w st i = (
  λ q. let r = (and-true _ _).0 q.0 in (ltb-true 0 st.sections r.0, r.1, q.1),
  λ q. (rw (lt-ltb 0 st.sections q.0) q.1, q.2),
)

-- `Damaged i`: a bad count, and i is 0; or the last section is broken, and i is its index
pub last_damaged_iff : (w : ℕ) (st : Store) (i : ℕ)
    → (last_soundness w st ≡ Damaged i) ↔ (((bad_count_building w st ≡ true) × (i ≡ 0)) ⊎ ((bad_count_building w st ≡ false) × LastBreak w st i))
unfolding last_soundness
last_damaged_iff w st i = Iff.trans (damaged_iff _ _ _ _) (or_iff (Iff.and Iff.rfl (last_break_iff w st i)))

-- a last section that is Ops or Data ends at the stored count
pub last_end : (w : ℕ) (st : Store) (m : ℕ) → Facts w st → suc m ≡ st.sections → is_span (section_words w st m).kind ≡ true → (section_words w st m).second ≡ st.stored_bytes
unfolding end_before
last_end w st m f e s = sym (cond_true _ _ (end_before w st m) s) ∙ ap (end_before w st) e ∙ f.ends

-- it finds nothing: counts within slices and limits, no bytes without sections, and no broken last section
pub last_sound_iff : (w : ℕ) (st : Store)
    → (last_soundness w st ≡ Sound)
    ↔ (Within w st × (st.sections ≡ 0 → st.stored_bytes ≡ 0) × (0 < st.sections → last_broken w st (st.sections - 1) ≡ false))
unfolding last_soundness bad_count_building
last_sound_iff w st = (
  λ e.
      let r = (sound_iff (bad_count_building w st) (ltb 0 st.sections && last_broken w st (st.sections - 1)) (st.sections - 1)).0 e in
      let c = (or-false (bad_counts w st) (ltb 0 st.stored_bytes && eqb st.sections 0)).0 r.0 in (
        (counts_iff w st).0 c.0,
        λ z. omega (arith, ltb-false 0 st.stored_bytes (and_false_left _ _ c.1 (eq-eqb _ _ z))),
        λ l. and-false _ _ r.1 (lt-ltb 0 st.sections l),
      ),
  λ h.
      let some : ltb 0 st.stored_bytes ≡ true → eqb st.sections 0 ≡ false =
      λ l. ne_eqb st.sections 0 (λ (z : st.sections ≡ 0). absurd (omega (arith, ltb-true 0 st.stored_bytes l, h.1 z)))
      in
      (sound_iff _ _ _).1
      ((or-false _ _).1 ((counts_iff w st).1 h.0, false_and _ _ some), false_and _ _ (λ (l : ltb 0 st.sections ≡ true). h.2 (ltb-true 0 st.sections l))),
)

-- a store of these facts passes it
facts_last_sound : (w : ℕ) (st : Store) → Facts w st → last_soundness w st ≡ Sound
unfolding last_broken end_before
facts_last_sound w st f =
    (last_sound_iff w st).1 (
      (f.bytes_fit, f.bytes_limit, f.sections_limit, f.words_fit),
      λ z. sym f.ends ∙ ap (end_before w st) z,
      λ l.
          let m : ℕ = st.sections - 1 in
          let e : suc m ≡ st.sections = omega (arith, l) in
          (or-false _ _).1 (f.readable m (le_of_eq e), false_and _ _ (λ s. (unequal_iff _ _).1 (last_end w st m f e s))),
    )

-- an undamaged store passes it
pub undamaged_last_sound : (w : ℕ) (st : Store) → Undamaged w st → last_soundness w st ≡ Sound
undamaged_last_sound w st u = facts_last_sound w st ((undamaged_iff w st).0 u)
