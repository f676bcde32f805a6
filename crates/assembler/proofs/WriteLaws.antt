-- What a write comes to, by what the tests of store and table answer and whether the result is full; the law of each of its answers, 6 to
-- 10, 12, 13, 16 to 18 and written; what it leaves, and what holds of the written code, from whatever table. Assumes nothing.
use Prim.Native.Nat.{ℕ, ◌+◌, ◌≤◌, ◌<◌}
use native.Mathlib.Omega.{arith}
use mathlib.Core.Path.{◌≡◌, refl, sym, ap, ◌∙◌, subst}
use mathlib.Core.Bool.{Bool, true, false, cond}
use mathlib.Core.Logic.{◌↔◌, inr}
use mathlib.Core.List.{List}
use lib.Dec.{eqb}
use lib.ListN.{length}
use Rattle.units.specs.Replies as number
use Rattle.units.specs.Reply.{Reply, accepted, refused}
use Rattle.records.specs.Store.{Store, section_words}
use Rattle.records.specs.Sections.{decode}
use Rattle.slices.specs.Over.{over}
use Rattle.undamaged.specs.View.{Facts}
use Rattle.undamaged.proofs.Soundness.{undamaged_iff}
use Rattle.layout.specs.Layout.{Layout, in_all, GivesEnough}
use Rattle.layout.specs.Passes.{entry}
use Rattle.layout.specs.Conditions.{Never, unplaced_at, Missing, direct_mark, delta_start, delta_end, backward_at}
use Rattle.layout.specs.Answer.{Laid, missing_number}
use Rattle.layout.proofs.Moves.{Still}
use Rattle.layout.proofs.Rule.{Sizes}
use Rattle.layout.proofs.WidthRule.{width_rule}
use Rattle.settling.specs.SettlingAnswers.{StoreMisses}
use Rattle.settling.proofs.SettlingLaw.{misses_law}
use Rattle.tables.specs.TableTests.{TableRefusal, table_numbers, table_test}
use Rattle.tables.specs.TableTests as tests
use Rattle.tables.specs.TableAnswers as test
use Rattle.tables.specs.TableAnswers.{TestAnswer, TestSays}
use Rattle.tables.proofs.TableLaws.{passes_of, test_law, test_said, accepted_said, accepts_enough, accepts_still}
use Rattle.tables.proofs.TableLaws as law
use Rattle.assembler.specs.Emission.{code_of}
use Rattle.assembler.specs.Assemble as assembled
use Rattle.assembler.specs.Assemble.{is_full}
use Rattle.assembler.specs.Writing.{Writable}
use Rattle.assembler.specs.Write.{WriteOutcome, not_written, after_tests, write_by}
use Rattle.assembler.specs.WriteAnswers.{WriteAnswer, written, damaged, refuses, result_full, write_reply, WriteSays, WriteCodePasses}
use Rattle.assembler.specs.Pair.{WritesEnough}
use Rattle.assembler.specs.Leaves.{LeftByWrite}
use Rattle.assembler.specs.Instructions.{CodePushes}
use Rattle.assembler.specs.Copies.{CodeCopies}
use Rattle.assembler.proofs.Outcomes.{written_same, fits_law, full_law, either_passes}
use Rattle.assembler.proofs.Lengths.{written_settled}
use Rattle.assembler.proofs.Laid.{sections_writable, still_code}
use Rattle.assembler.proofs.Instructions.{still_pushes}
use Rattle.assembler.proofs.Copies.{copies_here}
use Rattle.assembler.proofs.Leaves.{over_left}

-- ---- what is known where the tests accept a table

pub record AcceptedFacts (w : ℕ) (st : Store) (table : List ℕ) (laid : Laid) : Type 0 where
  pub facts : Facts w st
  pub marks_placed : Never (decode w st) (unplaced_at (decode w st))
  pub forward : Never (decode w st) (backward_at table (decode w st))
  pub still : Still (Sizes width_rule) (decode w st) 0 (entry table) laid.length
  pub no_passes : laid.passes ≡ 0
  -- the length answered is the code's
  pub code_long : length (code_of (entry table) (decode w st)) ≡ laid.length
  pub writable : (i : ℕ) → i < st.sections → Writable st.bytes table (section_words w st i)

-- it is known
pub accepted_facts : (w : ℕ) (st : Store) (table : List ℕ) (laid : Laid) → table_test w st table ≡ accepted laid → AcceptedFacts w st table laid
accepted_facts w st table laid e =
    let q = accepted_said w st table laid e in
    let f : Facts w st = (undamaged_iff w st).0 q.0 in
    let still = accepts_still table (decode w st) laid.length q.1 in
    record {
      facts = f;
      marks_placed = q.1.0.1;
      forward = q.1.3;
      still = still;
      no_passes = q.2;
      code_long = still_code (decode w st) table laid.length still;
      writable = sections_writable w st table f q.1.0.0 q.1.3;
    }

-- ---- a reply tells the answer

-- an answer of the tests, where what they accept is written
abbrev of_test : TestAnswer → WriteAnswer
of_test (test.damaged i) = damaged i
of_test (test.by_sections (tests.accepts size)) = written size
of_test (test.by_sections (tests.refuses r)) = refuses r

-- the answer that a reply stands for
answer_of : Reply Laid → WriteAnswer
answer_of (accepted l) = written l.length
answer_of (refused number i k) = cond (eqb number 13) result_full (of_test (law.answer_of (refused number i k)))

-- no refusal of the tests is 13, or has passes
test_numbers : (r : TableRefusal) → (eqb (table_numbers r).number 13 ≡ false) × ((table_numbers r).passes ≡ 0)
test_numbers (tests.short_table i) = (refl, refl)
test_numbers (tests.unplaced direct_mark i) = (refl, refl)
test_numbers (tests.unplaced delta_start i) = (refl, refl)
test_numbers (tests.unplaced delta_end i) = (refl, refl)
test_numbers (tests.placed_apart i) = (refl, refl)
test_numbers (tests.differs i) = (refl, refl)
test_numbers (tests.too_narrow i) = (refl, refl)
test_numbers (tests.backward i) = (refl, refl)

-- it comes back
answer_back : (a : WriteAnswer) → answer_of (write_reply a) ≡ a
unfolding answer_of
answer_back (written size) = refl
answer_back (damaged i) = ap of_test (law.answer_back (test.damaged i))
answer_back (refuses r) = rw (test_numbers r).0 (ap of_test (law.answer_back (test.by_sections (tests.refuses r))))
answer_back result_full = refl

module _ (w : ℕ) (st : Store) (table result : List ℕ) (position : ℕ) where
  -- the code behind the table
  abbrev code : List ℕ
  code = code_of (entry table) (decode w st)

  -- ---- what a write comes to

  -- refused by the tests
  pub write_refused : (number i k : ℕ) → table_test w st table ≡ refused number i k
      → write_by w st table result position ≡ not_written result (refused number i k)
  unfolding write_by
  write_refused number i k e = ap (after_tests result position code) e

  module _ (laid : Laid) (e : table_test w st table ≡ accepted laid) where
    -- 13
    pub write_full : is_full (length result) position laid.length ≡ true
        → write_by w st table result position ≡ not_written result (refused number.result_full 0 0)
    unfolding write_by
    write_full f = ap (after_tests result position code) e ∙ rw f

    -- written
    pub write_written : is_full (length result) position laid.length ≡ false
        → write_by w st table result position ≡ record { reply = accepted laid; result = over result position code }
    unfolding write_by
    write_written f = ap (after_tests result position code) e ∙ rw f

  -- what holds of every refusal and of the code that is written holds of a write
  pub write_cases : (P : WriteOutcome → Type 0) → ((number i k : ℕ) → P (not_written result (refused number i k)))
      → ((laid : Laid) → table_test w st table ≡ accepted laid → position + laid.length ≤ length result
      → P (record { reply = accepted laid; result = over result position code }))
      → P (write_by w st table result position)
  write_cases P unchanged writes = go (table_test w st table) refl
    where
      full : (l : Laid) → table_test w st table ≡ accepted l → (b : Bool) → is_full (length result) position l.length ≡ b
          → P (write_by w st table result position)
      full l e true f = subst P (sym (write_full l e f)) (unchanged number.result_full 0 0)
      full l e false f = subst P (sym (write_written l e f)) (writes l e ((fits_law (length result) position l.length).0 f))

      go : (r : Reply Laid) → table_test w st table ≡ r → P (write_by w st table result position)
      go (refused number i k) e = subst P (sym (write_refused number i k e)) (unchanged number i k)
      go (accepted l) e = full l e (is_full (length result) position l.length) refl

  -- ---- the law of each answer

  -- what is said of an answer
  abbrev Said : WriteAnswer → Type 0
  Said a = WriteSays w st table (length result) position a

  -- its reply is the defined one
  abbrev Replied : WriteAnswer → Type 0
  Replied a = (write_by w st table result position).reply ≡ write_reply a

  -- so of an outcome
  replied : (a : WriteAnswer) (o : WriteOutcome) → write_by w st table result position ≡ o → o.reply ≡ write_reply a → Replied a
  replied a o e h = ap (λ (x : WriteOutcome). x.reply) e ∙ h

  -- what is said of an answer makes it the answer
  says_replied : (a : WriteAnswer) → Said a → Replied a
  says_replied (written size) h =
      let e = (test_law w st table (test.by_sections (tests.accepts size))).1 h.0 in
      replied (written size) _ (write_written _ e ((fits_law (length result) position size).1 h.1)) refl
  says_replied (damaged i) h = replied (damaged i) _ (write_refused _ _ _ ((test_law w st table (test.damaged i)).1 h)) refl
  says_replied (refuses r) h = replied (refuses r) _ (write_refused _ _ _ ((test_law w st table (test.by_sections (tests.refuses r))).1 h)) refl
  says_replied result_full h =
      let e = (test_law w st table (test.by_sections (tests.accepts h.0))).1 h.1 in
      replied result_full _ (write_full _ e ((full_law (length result) position h.0).1 h.2)) refl

  -- something is said of some answer: the table is accepted
  said_accepted : (size : ℕ) → TestSays w st table (test.by_sections (tests.accepts size)) → (a : WriteAnswer) × Said a
  said_accepted size s = go (is_full (length result) position size) refl
    where
      go : (b : Bool) → is_full (length result) position size ≡ b → (a : WriteAnswer) × Said a
      go true f = (result_full, (size, s, (full_law (length result) position size).0 f))
      go false f = (written size, (s, (fits_law (length result) position size).0 f))

  -- or refused
  said_test : (b : TestAnswer) → TestSays w st table b → (a : WriteAnswer) × Said a
  said_test (test.damaged i) s = (damaged i, s)
  said_test (test.by_sections (tests.accepts size)) s = said_accepted size s
  said_test (test.by_sections (tests.refuses r)) s = (refuses r, s)

  -- in every case
  said : (a : WriteAnswer) × Said a
  said = said_test (test_said w st table).0 (test_said w st table).1

  -- the answer is one of them
  pub write_answers : (a : WriteAnswer) × ((write_by w st table result position).reply ≡ write_reply a)
  write_answers = (said.0, says_replied said.0 said.1)

  -- each answer is given in its stated condition and in no other
  pub write_law : (a : WriteAnswer) → ((write_by w st table result position).reply ≡ write_reply a) ↔ WriteSays w st table (length result) position a
  write_law a = (
    λ h.
        let same : write_reply said.0 ≡ write_reply a = sym (says_replied said.0 said.1) ∙ h in
        subst Said (sym (answer_back said.0) ∙ ap answer_of same ∙ answer_back a) said.1,
    says_replied a,
  )

  -- 13 is answered exactly when the tests accept the table and the code or the position passes the result; its section and passes are 0
  pub write_full_exactly : (i k : ℕ) → ((write_by w st table result position).reply ≡ refused number.result_full i k)
      ↔ ((i ≡ 0) × (k ≡ 0) × WriteCodePasses w st table (length result) position)
  unfolding answer_of
  write_full_exactly i k = (there, λ (zi, zk, full). back zi zk full)
    where
      back : i ≡ 0 → k ≡ 0 → WriteCodePasses w st table (length result) position
          → (write_by w st table result position).reply ≡ refused number.result_full i k
      back zi zk (c, is, says, h) = rw (zi, zk) (says_replied result_full (length c, says, either_passes (length result) position (length c) h))

      there : (write_by w st table result position).reply ≡ refused number.result_full i k
          → (i ≡ 0) × (k ≡ 0) × WriteCodePasses w st table (length result) position
      there h =
          let same : write_reply said.0 ≡ refused number.result_full i k = sym (says_replied said.0 said.1) ∙ h in
          let is : said.0 ≡ result_full = sym (answer_back said.0) ∙ ap answer_of same in
          let zero : refused number.result_full 0 0 ≡ refused number.result_full i k = sym (ap write_reply is) ∙ same in
          let q = subst Said is said.1 in
          let long : length code ≡ q.0 = (accepted_facts w st table _ ((test_law w st table (test.by_sections (tests.accepts q.0))).1 q.1)).code_long in
          (cc, cc, (code, refl, rw long q.1, inr (rw long q.2)))

  -- 'the write reports 0 passes', whatever it answers
  pub write_passes : ((size k : ℕ) → (write_by w st table result position).reply ≡ assembled.written size k → k ≡ 0)
      × ((number i k : ℕ) → (write_by w st table result position).reply ≡ refused number i k → k ≡ 0)
  write_passes = (
    λ size k h. sym (ap passes_of (sym write_answers.1 ∙ h)) ∙ none write_answers.0,
    λ number i k h. sym (ap passes_of (sym write_answers.1 ∙ h)) ∙ none write_answers.0,
  )
    where
      none : (a : WriteAnswer) → passes_of (write_reply a) ≡ 0
      none (written size) = refl
      none (damaged i) = refl
      none (refuses r) = (test_numbers r).1
      none result_full = refl

  -- 8, 17 and 18 as of settling, by a table of this length
  pub write_missing : (x : Missing) (i k : ℕ) → ((write_by w st table result position).reply ≡ refused (missing_number x) i k) ↔ ((k ≡ 0) × StoreMisses w st (length table) i x)
  write_missing x i k =
      let law = write_law (refuses (tests.unplaced x i)) in
      let misses = misses_law w (length table) st x i in (
        λ h.
            let z : k ≡ 0 = write_passes.1 (missing_number x) i k h in
            (z, misses.0 (law.0 (h ∙ ap (refused (missing_number x) i) z))),
        λ (z, m). rw z (law.1 (misses.1 m)),
      )

  -- ---- what it leaves, and what holds of the written code

  -- of an outcome
  abbrev pub WriteLeaves : WriteOutcome → Type 0
  WriteLeaves o =
      ((number i k : ℕ) → o.reply ≡ refused number i k → o.result ≡ result)
      × ((size k : ℕ) → o.reply ≡ assembled.written size k → LeftByWrite code result position size k o.result)

  -- written
  left_written : (laid : Laid) → table_test w st table ≡ accepted laid → position + laid.length ≤ length result
      → LeftByWrite code result position laid.length laid.passes (over result position code)
  left_written laid e fits =
      let a = accepted_facts w st table laid e in
      let q = over_left result code position laid.length fits a.code_long in
      record { no_passes = a.no_passes; code_length = a.code_long; code_over = refl; result_length = q.0; before = q.1; after = q.2 }

  -- refused or not
  pub write_leaves : WriteLeaves (write_by w st table result position)
  write_leaves =
      write_cases WriteLeaves
      (λ number i k. (λ _ _ _ h. refl, λ size q h. let z : ◌≡◌ {A = ℕ} 0 1 = cc in absurd (omega arith)))
      (λ laid e fits. (
        λ number i q h. let z : ◌≡◌ {A = ℕ} 0 1 = cc in absurd (omega arith),
        λ size k h.
            let same = written_same h in
            subst (λ (x : ℕ). LeftByWrite code result position size x (over result position code)) same.1
            (subst (λ (x : ℕ). LeftByWrite code result position x laid.passes (over result position code)) same.0 (left_written laid e fits)),
      ))

  -- its layout gives enough, and the length answered is its length
  pub writes_enough : WritesEnough w st table (write_by w st table result position).reply
  writes_enough =
      write_cases (λ (o : WriteOutcome). WritesEnough w st table o.reply)
      (λ number i k size q h. let z : ◌≡◌ {A = ℕ} 0 1 = cc in absurd (omega arith))
      (λ laid e fits size k h.
      let q = accepts_enough w st table laid e in
      let same = written_settled table (decode w st) in (
        subst (GivesEnough (decode w st)) (sym same) q.0,
        sym (written_same h).0 ∙ subst (λ (x : Layout). laid.length ≡ in_all x) (sym same) q.1,
      ))

  -- each pushed reference is one push instruction
  pub write_pushes : CodePushes w st position (write_by w st table result position).reply table (write_by w st table result position).result
  write_pushes =
      write_cases (λ (o : WriteOutcome). CodePushes w st position o.reply table o.result)
      (λ number i k size q h. let z : ◌≡◌ {A = ℕ} 0 1 = cc in absurd (omega arith))
      (λ laid e fits size k h.
      let a = accepted_facts w st table laid e in
      still_pushes w st table laid.length a.facts a.still a.marks_placed a.forward result position (omega arith))

  -- the bytes of each section stand in the result
  pub write_copies : CodeCopies w st position (write_by w st table result position).reply table (write_by w st table result position).result
  write_copies =
      write_cases (λ (o : WriteOutcome). CodeCopies w st position o.reply table o.result)
      (λ number i k size q h. let z : ◌≡◌ {A = ℕ} 0 1 = cc in absurd (omega arith))
      (λ laid e fits size k h. copies_here (decode w st) table result position (omega arith))
