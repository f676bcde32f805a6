-- The law of each answer of settling: 6 to 12, 17, 18 and laid out, each exactly in its stated condition. Assumes nothing.
use Prim.Native.Nat.{ℕ}
use mathlib.Core.Path.{◌≡◌, refl, sym, ap, ◌∙◌, subst}
use mathlib.Core.Bool.{false, cond}
use mathlib.Core.Logic.{◌↔◌}
use lib.Dec.{eqb}
use Rattle.units.specs.Replies.{too_narrow}
use Rattle.units.specs.Reply.{Reply, accepted, refused}
use Rattle.records.specs.Store.{Store}
use Rattle.records.specs.Sections.{decode}
use Rattle.records.specs.Damage.{whole_soundness}
use Rattle.records.specs.Damage.{Soundness}
use Rattle.records.specs.Damage as soundness
use Rattle.undamaged.specs.View.{Undamaged}
use Rattle.undamaged.proofs.Soundness.{damaged_at_iff}
use Rattle.layout.specs.Passes.{settled, narrow_at, settle}
use Rattle.layout.specs.Conditions.{Missing, direct_mark, delta_start, delta_end}
use Rattle.layout.specs.Answer as layout
use Rattle.layout.proofs.Answers.{settle_law, answer_law}
use Rattle.layout.proofs.ConditionLaws.{condition_laws}
use Rattle.settling.specs.Settle.{Settlement, settlement, settling}
use Rattle.settling.specs.SettlingAnswers.{SettlingAnswer, laid_out, damaged, no_layout, settling_reply, SettlingSays, StoreMisses}

-- ---- a reply tells the answer

-- the refusal that a number, a section and passes stand for
abbrev pub refusal_at : ℕ → ℕ → ℕ → SettlingAnswer
refusal_at number i k =
    cond (eqb number 6) (damaged i)
    (cond (eqb number 7) (no_layout (layout.short_table i))
    (cond (eqb number 8) (no_layout (layout.unplaced direct_mark i))
    (cond (eqb number 9) (no_layout (layout.placed_apart i))
    (cond (eqb number 10) (no_layout (layout.too_narrow i k))
    (cond (eqb number 11) (no_layout layout.unsettled)
    (cond (eqb number 17) (no_layout (layout.unplaced delta_start i))
    (cond (eqb number 18) (no_layout (layout.unplaced delta_end i))
    (no_layout (layout.backward i k)))))))))

-- one of 7 to 12, 17 and 18 comes back from its number, section and passes; it isn't 13
pub refusal_back : (r : layout.LayoutRefusal)
    → (eqb (layout.layout_numbers r).number 13 ≡ false)
    × (refusal_at (layout.layout_numbers r).number (layout.layout_numbers r).section (layout.layout_numbers r).passes ≡ no_layout r)
refusal_back (layout.short_table i) = (refl, refl)
refusal_back (layout.unplaced direct_mark i) = (refl, refl)
refusal_back (layout.unplaced delta_start i) = (refl, refl)
refusal_back (layout.unplaced delta_end i) = (refl, refl)
refusal_back (layout.placed_apart i) = (refl, refl)
refusal_back (layout.too_narrow i k) = (refl, refl)
refusal_back layout.unsettled = (refl, refl)
refusal_back (layout.backward i k) = (refl, refl)

-- 8, 17 and 18 come back from the number and the section alone
pub missing_back : (x : Missing) (i k : ℕ) → refusal_at (layout.missing_number x) i k ≡ no_layout (layout.unplaced x i)
missing_back direct_mark i k = refl
missing_back delta_start i k = refl
missing_back delta_end i k = refl

-- the answer that a reply stands for
answer_of : Reply layout.Laid → SettlingAnswer
answer_of (accepted l) = laid_out l.length l.passes
answer_of (refused number i k) = refusal_at number i k

-- it comes back
answer_back : (a : SettlingAnswer) → answer_of (settling_reply a) ≡ a
unfolding answer_of
answer_back (laid_out size k) = refl
answer_back (damaged i) = refl
answer_back (no_layout r) = (refusal_back r).1

-- an undamaged store is answered by its sections
pub sound_settles : (w n : ℕ) (st : Store) → Undamaged w st → settling w n st ≡ settlement n soundness.Sound (layout.answer n (decode w st))
unfolding settling
sound_settles w n st u = rw u

module _ (w n : ℕ) (st : Store) where
  -- what is said of the sections of an undamaged store makes it the answer, with its table
  pub sound_answered : (a : layout.Answer) → Undamaged w st → layout.Says n (decode w st) a → settling w n st ≡ settlement n soundness.Sound a
  sound_answered a u s = sound_settles w n st u ∙ ap (settlement n soundness.Sound) ((answer_law n (decode w st) a).1 s)

  -- a damaged store
  damaged_answered : (i : ℕ) → whole_soundness w st ≡ soundness.Damaged i → (settling w n st).reply ≡ settling_reply (damaged i)
  unfolding settling
  damaged_answered i e = rw e

  -- what is said of an answer makes it the answer
  says_replied : (a : SettlingAnswer) → SettlingSays w st n a → (settling w n st).reply ≡ settling_reply a
  says_replied (laid_out size k) h = ap (λ (s : Settlement). s.reply) (sound_answered (layout.laid_out h.0 size k) h.1 h.2)
  says_replied (damaged i) h = damaged_answered i ((damaged_at_iff w st i).1 h)
  says_replied (no_layout r) h = ap (λ (s : Settlement). s.reply) (sound_answered (layout.no_layout r) h.0 h.1)

  -- something is said of some answer: over the sections
  said_answer : Undamaged w st → (b : layout.Answer) → layout.Says n (decode w st) b → (a : SettlingAnswer) × SettlingSays w st n a
  said_answer u (layout.laid_out table size k) s = (laid_out size k, (table, u, s))
  said_answer u (layout.no_layout r) s = (no_layout r, (u, s))

  -- in every case
  pub settling_said : (a : SettlingAnswer) × SettlingSays w st n a
  settling_said = go (whole_soundness w st) refl
    where
      go : (s : Soundness) → whole_soundness w st ≡ s → (a : SettlingAnswer) × SettlingSays w st n a
      go soundness.Sound e = said_answer e (layout.answer n (decode w st)) ((answer_law n (decode w st) (layout.answer n (decode w st))).0 refl)
      go (soundness.Damaged i) e = (damaged i, (damaged_at_iff w st i).0 e)

  -- the answer is one of them
  pub settling_answers : (a : SettlingAnswer) × ((settling w n st).reply ≡ settling_reply a)
  settling_answers = (settling_said.0, says_replied settling_said.0 settling_said.1)

  -- each answer is given in its stated condition and in no other
  pub settling_law : (a : SettlingAnswer) → ((settling w n st).reply ≡ settling_reply a) ↔ SettlingSays w st n a
  settling_law a = (
    λ h.
        let same : settling_reply settling_said.0 ≡ settling_reply a = sym (says_replied settling_said.0 settling_said.1) ∙ h in
        subst (SettlingSays w st n) (sym (answer_back settling_said.0) ∙ ap answer_of same ∙ answer_back a) settling_said.1,
    says_replied a,
  )

  -- the condition of 8, 17 and 18 by positions
  pub misses_law : (x : Missing) (i : ℕ) → SettlingSays w st n (no_layout (layout.unplaced x i)) ↔ StoreMisses w st n i x
  misses_law x i =
      let first = (condition_laws (decode w st)).first_missing_iff x i in
      (λ (u, says). (u, says.0, first.0 (says.1, says.2)), λ (u, short, h). let q = first.1 h in (u, (short, q.0, q.1)))

  -- they are answered exactly then, with no pass
  pub missing_exactly : (x : Missing) (i k : ℕ) → ((settling w n st).reply ≡ refused (layout.missing_number x) i k) ↔ ((k ≡ 0) × StoreMisses w st n i x)
  unfolding answer_of
  missing_exactly x i k = (there, λ (z, m). rw z (says_replied (no_layout (layout.unplaced x i)) ((misses_law x i).1 m)))
    where
      there : (settling w n st).reply ≡ refused (layout.missing_number x) i k → (k ≡ 0) × StoreMisses w st n i x
      there h =
          let same : settling_reply settling_said.0 ≡ refused (layout.missing_number x) i k = sym (says_replied settling_said.0 settling_said.1) ∙ h in
          let is : settling_said.0 ≡ no_layout (layout.unplaced x i) = sym (answer_back settling_said.0) ∙ ap answer_of same ∙ missing_back x i k in
          let zero : refused (layout.missing_number x) i 0 ≡ refused (layout.missing_number x) i k = sym (ap settling_reply is) ∙ same in
          (cc, (misses_law x i).0 (subst (SettlingSays w st n) is settling_said.1))

  -- laid out: the passes' table, length and count
  pub laid_settled : (laid : layout.Laid) → (settling w n st).reply ≡ accepted laid
      → settle n (decode w st) ≡ settled (settling w n st).table laid.length laid.passes
  laid_settled laid h =
      let (table, u, says) = (settling_law (laid_out laid.length laid.passes)).0 h in
      let is = sound_answered (layout.laid_out table laid.length laid.passes) u says in
      (settle_law n (decode w st) (settled table laid.length laid.passes)).1 says.1
      ∙ ap (λ (s : Settlement). settled s.table laid.length laid.passes) (sym is)

  -- 10: the passes' section and count
  pub narrow_settled : (i k : ℕ) → (settling w n st).reply ≡ refused too_narrow i k → settle n (decode w st) ≡ narrow_at i k
  narrow_settled i k h = (settle_law n (decode w st) (narrow_at i k)).1 ((settling_law (no_layout (layout.too_narrow i k))).0 h).1.1
