-- The law of each answer of a table's tests: 6, 7, 8, 17, 18, 9, 16, 10, 12 and accepted, each exactly in its stated condition; that the
-- table of a settling is accepted with its length, and that the zeros of a refused settling aren't. Assumes nothing.
use Prim.Native.Nat.{ℕ, ◌^◌, ◌≤◌, ◌<◌}
use native.Mathlib.Omega.{arith}
use native.Mathlib.Nat.{zero-add}
use mathlib.Core.Path.{◌≡◌, refl, sym, ◌∙◌, ap, subst}
use mathlib.Core.Bool.{Bool, true, false, cond, not, ◌||◌, false≢true, true≢false}
use mathlib.Core.Logic.{◌↔◌, ◌⊎◌, inl, inr}
use mathlib.Core.List.{List}
use lib.Dec.{eqb}
use lib.ListN.{length, replicate, length-replicate}
use borrow.Author.Tests.{eqb-true, eqb-false, ne_eqb, not-true}
use Rattle.slices.proofs.First.{NoneBefore}
use Rattle.slices.proofs.Tests.{or-false}
use Rattle.units.specs.Reply.{Reply, accepted, refused}
use Rattle.records.specs.Store.{Store}
use Rattle.records.specs.Sections.{Section, mark, ops, bytes, reference, decode}
use Rattle.records.specs.Damage.{whole_soundness}
use Rattle.records.specs.Damage.{Soundness}
use Rattle.records.specs.Damage as soundness
use Rattle.undamaged.specs.View.{Undamaged}
use Rattle.undamaged.proofs.Soundness.{undamaged_iff, damaged_at_iff}
use Rattle.layout.specs.Passes.{entry, size_by, unlike, settled}
use Rattle.layout.specs.Conditions.{section_at, IsFirst, Never, places_some, short_at, first_short, unplaced_at, first_unplaced, apart_at, first_apart, backward_at, first_backward, sum_of}
use Rattle.layout.specs.Conditions.{Missing, direct_mark, delta_start, delta_end, missing_at}
use Rattle.layout.specs.ConditionLaws.{Places}
use Rattle.layout.specs.Answer.{Laid, answer, Sound}
use Rattle.layout.specs.Answer as layout
use Rattle.layout.proofs.Answers.{settle_law, answer_law}
use Rattle.layout.proofs.Least.{first_or_never, first_hit, first_miss}
use Rattle.layout.proofs.Moves.{Still}
use Rattle.layout.proofs.Rule.{Sizes}
use Rattle.layout.proofs.WidthRule.{width_rule}
use Rattle.layout.proofs.Places.{still_sum, settled_still, sizes_five}
use Rattle.settling.proofs.Decoded.{stored_small}
use Rattle.tables.specs.TableTests.{sum_before, differs_at, narrow_by, too_narrow_at, wrong_at, first_wrong, TableAnswer, accepts, refuses}
use Rattle.tables.specs.TableTests.{short_table, unplaced, placed_apart, differs, too_narrow, backward, or_else, missed, wrong, table_answer, table_reply, table_test}
use Rattle.tables.specs.TableAnswers.{Differs, Narrow, RightBefore, Agrees, TableSays, TestAnswer, damaged, by_sections, test_reply, TestSays, AcceptsEnough}
use Rattle.tables.proofs.Standing.{sum_all, right_still, still_right, still_gives, zero_settled}

-- a test that doesn't hold
not_so : (b : Bool) → (b ≡ true → ⊥) → b ≡ false
not_so true h = absurd (h refl)
not_so false h = refl

-- one that does isn't false
so_not : (b : Bool) → b ≡ false → b ≡ true → ⊥
so_not b e h = true≢false (sym h ∙ e)

-- ---- a reply tells the answer

-- the refusal over sections that a number and a section stand for
refusal_at : ℕ → ℕ → TestAnswer
refusal_at number i =
    cond (eqb number 6) (damaged i)
    (cond (eqb number 7) (by_sections (refuses (short_table i)))
    (cond (eqb number 8) (by_sections (refuses (unplaced direct_mark i)))
    (cond (eqb number 9) (by_sections (refuses (placed_apart i)))
    (cond (eqb number 16) (by_sections (refuses (differs i)))
    (cond (eqb number 10) (by_sections (refuses (too_narrow i)))
    (cond (eqb number 17) (by_sections (refuses (unplaced delta_start i)))
    (cond (eqb number 18) (by_sections (refuses (unplaced delta_end i)))
    (by_sections (refuses (backward i))))))))))

-- the answer that a reply stands for
pub answer_of : Reply Laid → TestAnswer
answer_of (accepted l) = by_sections (accepts l.length)
answer_of (refused number i k) = refusal_at number i

-- it comes back
pub answer_back : (a : TestAnswer) → answer_of (test_reply a) ≡ a
unfolding answer_of refusal_at
answer_back (damaged i) = refl
answer_back (by_sections (accepts n)) = refl
answer_back (by_sections (refuses (short_table i))) = refl
answer_back (by_sections (refuses (unplaced direct_mark i))) = refl
answer_back (by_sections (refuses (unplaced delta_start i))) = refl
answer_back (by_sections (refuses (unplaced delta_end i))) = refl
answer_back (by_sections (refuses (placed_apart i))) = refl
answer_back (by_sections (refuses (differs i))) = refl
answer_back (by_sections (refuses (too_narrow i))) = refl
answer_back (by_sections (refuses (backward i))) = refl

-- the length and passes of an accepted reply
abbrev length_of : Reply Laid → ℕ
length_of (accepted l) = l.length
length_of (refused number i k) = 0

abbrev pub passes_of : Reply Laid → ℕ
passes_of (accepted l) = l.passes
passes_of (refused number i k) = k

module _ (table : List ℕ) (ss : List Section) where
  -- ---- 16 and 10, by positions

  pub differs_iff : (i : ℕ) → i < length ss → (differs_at table ss i ≡ true) ↔ Differs table ss i
  unfolding differs_at
  differs_iff i l = (there (section_at ss i) refl, λ (m, p, d). rw p.1 (ap not (ne_eqb (entry table m) (sum_before table ss i) d)))
    where
      there : (x : Section) → section_at ss i ≡ x → places_some (λ m. unlike table m (sum_before table ss i)) x ≡ true → Differs table ss i
      there (mark m) e h = (m, (l, e), eqb-false (entry table m) (sum_before table ss i) (not-true _ h))
      there (ops bs) e h = absurd (false≢true h)
      there (bytes bs) e h = absurd (false≢true h)
      there (reference r) e h = absurd (false≢true h)

  pub narrow_iff : (i : ℕ) → i < length ss → (too_narrow_at table ss i ≡ true) ↔ Narrow table ss i
  unfolding too_narrow_at
  narrow_iff i l = (there (section_at ss i) refl, λ (_, r, e, h). rw e h)
    where
      there : (x : Section) → section_at ss i ≡ x → narrow_by table x ≡ true → Narrow table ss i
      there (mark m) e h = absurd (false≢true h)
      there (ops bs) e h = absurd (false≢true h)
      there (bytes bs) e h = absurd (false≢true h)
      there (reference r) e h = (l, r, e, h)

  -- a reference isn't a placing
  narrow_not_differs : (i : ℕ) → Narrow table ss i → differs_at table ss i ≡ false
  unfolding differs_at
  narrow_not_differs i (l, r, e, h) = rw e

  -- neither holds of section i
  right_here : (i : ℕ) → i < length ss → (wrong_at table ss i ≡ false) ↔ ((Differs table ss i → ⊥) × (Narrow table ss i → ⊥))
  right_here i l = (
    λ h.
        let q = or-false (differs_at table ss i) (too_narrow_at table ss i) h in
        (λ d. so_not _ q.0 ((differs_iff i l).1 d), λ n. so_not _ q.1 ((narrow_iff i l).1 n)),
    λ (d, n).
        let a : differs_at table ss i ≡ false = not_so _ (λ h. d ((differs_iff i l).0 h)) in
        let b : too_narrow_at table ss i ≡ false = not_so _ (λ h. n ((narrow_iff i l).0 h)) in
        rw (a, b),
  )

  -- nor of any before it
  pub right_before : (i : ℕ) → i ≤ length ss → NoneBefore (wrong_at table ss) i ↔ RightBefore table ss i
  right_before i l = (λ h j k. (right_here j (omega arith)).0 (h j k), λ h j k. (right_here j (omega arith)).1 (h j k))

  -- nor of any section: the table agrees, and no reference is too narrow
  pub right_all : Never ss (wrong_at table ss) ↔ (Agrees table ss × ((i : ℕ) → Narrow table ss i → ⊥))
  right_all = (
    λ h. (λ i m p. same i m p ((right_here i p.0).0 (h i p.0)).0, λ i n. ((right_here i n.0).0 (h i n.0)).1 n),
    λ (a, n) i l. (right_here i l).1 (λ d. d.2 (a i d.0 d.1), n i),
  )
    where
      same : (i m : ℕ) → Places ss i m → (Differs table ss i → ⊥) → entry table m ≡ sum_before table ss i
      same i m p d = go (eqb (entry table m) (sum_before table ss i)) refl
        where
          go : (b : Bool) → eqb (entry table m) (sum_before table ss i) ≡ b → entry table m ≡ sum_before table ss i
          go true e = eqb-true _ _ e
          go false e = absurd (d (m, p, eqb-false _ _ e))

  -- ---- each answer over a list of sections

  -- 12, and accepted
  abbrev last_answer : TableAnswer
  last_answer = or_else ss (first_backward table ss) backward (accepts (sum_of (size_by (entry table)) ss))

  -- 16 and 10, then that
  abbrev walk_answer : TableAnswer
  walk_answer = or_else ss (first_wrong table ss) (wrong table ss) last_answer

  -- where 7, 8, 17, 18 and 9 aren't answered
  sound_answer : Sound (length table) ss → table_answer table ss ≡ walk_answer
  unfolding table_answer first_short first_unplaced first_apart
  sound_answer h =
      first_miss ss (short_at (length table) ss) (λ i. refuses (short_table i)) _ h.0
      ∙ first_miss ss (unplaced_at ss) (λ i. refuses (missed ss i)) _ h.1
      ∙ first_miss ss (apart_at ss) (λ i. refuses (placed_apart i)) _ h.2

  -- nor 16 and 10
  right_answer : Never ss (wrong_at table ss) → walk_answer ≡ last_answer
  unfolding first_wrong
  right_answer h = first_miss ss (wrong_at table ss) (λ i. refuses (wrong table ss i)) last_answer h

  -- one of them
  wrong_answer : (i : ℕ) → i < length ss → wrong_at table ss i ≡ true → RightBefore table ss i → walk_answer ≡ refuses (wrong table ss i)
  unfolding first_wrong
  wrong_answer i l h b =
      first_hit ss (wrong_at table ss) (λ j. refuses (wrong table ss j)) last_answer i (l, h, (right_before i (omega arith)).1 b)

  -- what is said of an answer makes it the answer
  says_answer : (a : TableAnswer) → TableSays table ss a → table_answer table ss ≡ a
  unfolding table_answer first_short first_unplaced first_apart first_backward
  says_answer (accepts n) h =
      sound_answer h.0 ∙ right_answer (right_all.1 (h.1, h.2))
      ∙ first_miss ss (backward_at table ss) (λ i. refuses (backward i)) _ h.3 ∙ ap accepts (sym h.4)
  says_answer (refuses (short_table i)) h = first_hit ss (short_at (length table) ss) (λ j. refuses (short_table j)) _ i h
  says_answer (refuses (unplaced x i)) h =
      first_miss ss (short_at (length table) ss) (λ j. refuses (short_table j)) _ h.0
      ∙ first_hit ss (unplaced_at ss) (λ j. refuses (missed ss j)) _ i h.1
      ∙ ap (λ (y : Missing). refuses (unplaced y i)) h.2
  says_answer (refuses (placed_apart i)) h =
      first_miss ss (short_at (length table) ss) (λ j. refuses (short_table j)) _ h.0
      ∙ first_miss ss (unplaced_at ss) (λ j. refuses (missed ss j)) _ h.1
      ∙ first_hit ss (apart_at ss) (λ j. refuses (placed_apart j)) _ i h.2
  says_answer (refuses (differs i)) h =
      let l : i < length ss = h.1.1.0 in
      let d : differs_at table ss i ≡ true = (differs_iff i l).1 h.1 in
      sound_answer h.0 ∙ wrong_answer i l (rw d) h.2 ∙ rw d
  says_answer (refuses (too_narrow i)) h =
      let l : i < length ss = h.1.0 in
      let d : differs_at table ss i ≡ false = narrow_not_differs i h.1 in
      let n : too_narrow_at table ss i ≡ true = (narrow_iff i l).1 h.1 in
      sound_answer h.0 ∙ wrong_answer i l (rw (d, n)) h.2 ∙ rw d
  says_answer (refuses (backward i)) h =
      sound_answer h.0 ∙ right_answer (right_all.1 (h.1, h.2))
      ∙ first_hit ss (backward_at table ss) (λ j. refuses (backward j)) _ i h.3

  -- something is said of some answer: where the table agrees
  said_right : Sound (length table) ss → Never ss (wrong_at table ss) → (a : TableAnswer) × TableSays table ss a
  said_right h n = go (first_or_never ss (backward_at table ss))
    where
      go : ((i : ℕ) × IsFirst ss (backward_at table ss) i) ⊎ Never ss (backward_at table ss) → (a : TableAnswer) × TableSays table ss a
      go (inl q) = (refuses (backward q.0), (h, (right_all.0 n).0, (right_all.0 n).1, q.1))
      go (inr q) = (accepts (sum_of (size_by (entry table)) ss), (h, (right_all.0 n).0, (right_all.0 n).1, q, refl))

  -- where it doesn't
  said_wrong : Sound (length table) ss → (i : ℕ) → IsFirst ss (wrong_at table ss) i → (a : TableAnswer) × TableSays table ss a
  said_wrong h i q = go (differs_at table ss i) refl
    where
      before : RightBefore table ss i
      before = (right_before i (omega (arith, q.0))).0 q.2

      go : (b : Bool) → differs_at table ss i ≡ b → (a : TableAnswer) × TableSays table ss a
      go true e = (refuses (differs i), (h, (differs_iff i q.0).0 e, before))
      go false e = (refuses (too_narrow i), (h, (narrow_iff i q.0).0 (ap (λ (b : Bool). b || too_narrow_at table ss i) (sym e) ∙ q.1), before))

  -- after 9
  said_sound : Sound (length table) ss → (a : TableAnswer) × TableSays table ss a
  said_sound h = go (first_or_never ss (wrong_at table ss))
    where
      go : ((i : ℕ) × IsFirst ss (wrong_at table ss) i) ⊎ Never ss (wrong_at table ss) → (a : TableAnswer) × TableSays table ss a
      go (inl q) = said_wrong h q.0 q.1
      go (inr q) = said_right h q

  -- in every case
  said : (a : TableAnswer) × TableSays table ss a
  said = short (first_or_never ss (short_at (length table) ss))
    where
      apart : Never ss (short_at (length table) ss) → Never ss (unplaced_at ss) → ((i : ℕ) × IsFirst ss (apart_at ss) i) ⊎ Never ss (apart_at ss)
          → (a : TableAnswer) × TableSays table ss a
      apart h g (inl q) = (refuses (placed_apart q.0), (h, g, q.1))
      apart h g (inr q) = said_sound (h, g, q)

      placing : Never ss (short_at (length table) ss) → ((i : ℕ) × IsFirst ss (unplaced_at ss) i) ⊎ Never ss (unplaced_at ss) → (a : TableAnswer) × TableSays table ss a
      placing h (inl q) = (refuses (unplaced (missing_at ss q.0) q.0), (h, q.1, refl))
      placing h (inr q) = apart h q (first_or_never ss (apart_at ss))

      short : ((i : ℕ) × IsFirst ss (short_at (length table) ss) i) ⊎ Never ss (short_at (length table) ss) → (a : TableAnswer) × TableSays table ss a
      short (inl q) = (refuses (short_table q.0), q.1)
      short (inr q) = placing q (first_or_never ss (unplaced_at ss))

  -- each answer is given in its stated condition and in no other
  pub table_law : (a : TableAnswer) → (table_answer table ss ≡ a) ↔ TableSays table ss a
  table_law a = (λ h. subst (TableSays table ss) (sym (says_answer said.0 said.1) ∙ h) said.1, says_answer a)

  -- accepted, a pass by the table stands still and comes to its length
  pub accepts_still : (n : ℕ) → TableSays table ss (accepts n) → Still (Sizes width_rule) ss 0 (entry table) n
  accepts_still n h = subst (Still (Sizes width_rule) ss 0 (entry table)) (sym h.4) (right_still table ss (right_all.1 (h.1, h.2)))

-- ---- the table of a settling

-- what settling lays out is accepted, with its length
pub laid_accepts : (n : ℕ) (ss : List Section) (table : List ℕ) (e k : ℕ) → layout.Says n ss (layout.laid_out table e k) → table_answer table ss ≡ accepts e
laid_accepts n ss table e k h =
    let q = settled_still n ss table e k h.0.0 ((settle_law n ss (settled table e k)).1 h.1) in
    let right = (right_all table ss).0 (still_right table ss e q.1) in
    let sum : e ≡ sum_of (size_by (entry table)) ss = still_sum (entry table) ss 0 e q.1 ∙ zero-add _ ∙ sum_all (size_by (entry table)) ss in
    (table_law table ss (accepts e)).1 (subst (λ (m : ℕ). Sound m ss) (sym q.0) h.0, right.0, right.1, h.2, sum)

-- the table all 0 is accepted only if settling lays it out
pub zero_accepts : (n : ℕ) (ss : List Section) (e : ℕ) → table_answer (replicate n 0) ss ≡ accepts e → answer n ss ≡ layout.laid_out (replicate n 0) e 1
zero_accepts n ss e h =
    let table : List ℕ = replicate n 0 in
    let s = (table_law table ss (accepts e)).0 h in
    let sound : Sound n ss = subst (λ (m : ℕ). Sound m ss) (length-replicate n 0) s.0 in
    (answer_law n ss (layout.laid_out table e 1)).1 (sound, zero_settled n ss e (accepts_still table ss e s), s.3)

-- ---- of a store

module _ (w : ℕ) (st : Store) (table : List ℕ) where
  -- the tests of an undamaged store are those of its sections
  pub sound_test : Undamaged w st → table_test w st table ≡ table_reply (table_answer table (decode w st))
  unfolding table_test
  sound_test u = rw u

  -- a damaged store
  pub damaged_test : (i : ℕ) → whole_soundness w st ≡ soundness.Damaged i → table_test w st table ≡ test_reply (damaged i)
  unfolding table_test
  damaged_test i e = rw e

  -- what is said of an answer makes it the answer
  says_replied : (a : TestAnswer) → TestSays w st table a → table_test w st table ≡ test_reply a
  says_replied (damaged i) h = damaged_test i ((damaged_at_iff w st i).1 h)
  says_replied (by_sections a) h = sound_test h.0 ∙ ap table_reply ((table_law table (decode w st) a).1 h.1)

  -- something is said of some answer
  pub test_said : (a : TestAnswer) × TestSays w st table a
  test_said = go (whole_soundness w st) refl
    where
      go : (s : Soundness) → whole_soundness w st ≡ s → (a : TestAnswer) × TestSays w st table a
      go soundness.Sound e = (by_sections (table_answer table (decode w st)), (e, (table_law table (decode w st) _).0 refl))
      go (soundness.Damaged i) e = (damaged i, (damaged_at_iff w st i).0 e)

  -- the answer is one of them
  pub test_answers : (a : TestAnswer) × (table_test w st table ≡ test_reply a)
  test_answers = (test_said.0, says_replied test_said.0 test_said.1)

  -- each answer is given in its stated condition and in no other
  pub test_law : (a : TestAnswer) → (table_test w st table ≡ test_reply a) ↔ TestSays w st table a
  test_law a = (
    λ h.
        let same : test_reply test_said.0 ≡ test_reply a = sym (says_replied test_said.0 test_said.1) ∙ h in
        subst (TestSays w st table) (sym (answer_back test_said.0) ∙ ap answer_of same ∙ answer_back a) test_said.1,
    says_replied a,
  )

  -- an accepted table
  pub accepted_said : (laid : Laid) → table_test w st table ≡ accepted laid → Undamaged w st × TableSays table (decode w st) (accepts laid.length) × (laid.passes ≡ 0)
  accepted_said laid h = go test_said.0 test_said.1 (sym (says_replied test_said.0 test_said.1) ∙ h)
    where
      go : (a : TestAnswer) → TestSays w st table a → test_reply a ≡ accepted laid
          → Undamaged w st × TableSays table (decode w st) (accepts laid.length) × (laid.passes ≡ 0)
      go (damaged i) s e = let z : ◌≡◌ {A = ℕ} 0 1 = cc in absurd (omega arith)
      go (by_sections (refuses r)) s e = let z : ◌≡◌ {A = ℕ} 0 1 = cc in absurd (omega arith)
      go (by_sections (accepts n)) s e =
          let size : n ≡ laid.length = ap length_of e in
          let none : 0 ≡ laid.passes = ap passes_of e in
          (s.0, subst (λ (m : ℕ). TableSays table (decode w st) (accepts m)) size s.1, sym none)

  -- it gives enough
  pub accepts_enough : AcceptsEnough w st table (table_test w st table)
  accepts_enough laid h =
      let ss : List Section = decode w st in
      let said = accepted_said laid h in
      let still = accepts_still table ss laid.length said.1 in
      let small : laid.length < 2 ^ 32 =
      omega (arith, still_sum (entry table) ss 0 laid.length still, sizes_five (entry table) ss, stored_small w st ((undamaged_iff w st).0 said.0)) in
      still_gives table ss laid.length still small said.1.0.1 said.1.3
