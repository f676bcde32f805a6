-- The law of each answer of assembly: 6 to 13, 17, 18 and written, each exactly in its stated condition. Assumes nothing.
use Prim.Native.Nat.{ℕ}
use mathlib.Core.Path.{◌≡◌, refl, sym, ap, ◌∙◌, subst}
use mathlib.Core.Bool.{Bool, true, false, cond}
use mathlib.Core.Logic.{◌↔◌, inr}
use mathlib.Core.List.{List}
use lib.Dec.{eqb}
use lib.ListN.{length}
use Rattle.units.specs.Replies as number
use Rattle.units.specs.Reply.{Reply, accepted, refused}
use Rattle.records.specs.Store.{Store}
use Rattle.records.specs.Sections.{decode}
use Rattle.layout.specs.Passes.{entry}
use Rattle.layout.specs.Conditions.{Missing, direct_mark, delta_start, delta_end}
use Rattle.layout.specs.Answer as layout
use Rattle.settling.specs.SettlingAnswers as settling
use Rattle.settling.specs.SettlingAnswers.{SettlingSays, StoreMisses}
use Rattle.settling.proofs.SettlingLaw.{refusal_at, refusal_back, sound_answered, settling_said, settling_law, misses_law}
use Rattle.assembler.specs.Assemble.{Outcome, is_full, assembly}
use Rattle.assembler.specs.AssemblyAnswers.{AssemblyAnswer, written, damaged, no_layout, result_full, assembly_reply, AnswerSays, CodePasses}
use Rattle.assembler.specs.Emission.{code_of}
use Rattle.assembler.proofs.Outcomes.{outcome_refused, outcome_full, outcome_written, fits_law, full_law, either_passes}
use Rattle.assembler.proofs.Laid.{laid}

-- ---- a reply tells the answer

-- an answer of settling, where what is laid out is written
abbrev of_settling : settling.SettlingAnswer → AssemblyAnswer
of_settling (settling.laid_out size k) = written size k
of_settling (settling.damaged i) = damaged i
of_settling (settling.no_layout r) = no_layout r

-- the answer that a reply stands for
answer_of : Reply layout.Laid → AssemblyAnswer
answer_of (accepted l) = written l.length l.passes
answer_of (refused number i k) = cond (eqb number 13) (result_full k) (of_settling (refusal_at number i k))

-- 8, 17 and 18 come back from the number and the section alone
missing_back : (x : Missing) (i k : ℕ) → answer_of (refused (layout.missing_number x) i k) ≡ no_layout (layout.unplaced x i)
unfolding answer_of
missing_back direct_mark i k = refl
missing_back delta_start i k = refl
missing_back delta_end i k = refl

-- it comes back
answer_back : (a : AssemblyAnswer) → answer_of (assembly_reply a) ≡ a
unfolding answer_of
answer_back (written size k) = refl
answer_back (damaged i) = refl
answer_back (no_layout r) = rw (refusal_back r).0 (ap of_settling (refusal_back r).1)
answer_back (result_full k) = refl

module _ (w : ℕ) (st : Store) (n : ℕ) (result : List ℕ) (position : ℕ) where
  -- what is said of an answer
  abbrev Said : AssemblyAnswer → Type 0
  Said a = AnswerSays w st n (length result) position a

  -- its reply is the defined one
  abbrev Replied : AssemblyAnswer → Type 0
  Replied a = (assembly w st n result position).reply ≡ assembly_reply a

  -- so of an outcome
  replied : (a : AssemblyAnswer) (o : Outcome) → assembly w st n result position ≡ o → o.reply ≡ assembly_reply a → Replied a
  replied a o e h = ap (λ (x : Outcome). x.reply) e ∙ h

  -- what is said of an answer makes it the answer
  says_replied : (a : AssemblyAnswer) → Said a → Replied a
  says_replied (written size k) h =
      let e = sound_answered w n st (layout.laid_out h.0.0 size k) h.0.1 h.0.2 in
      replied (written size k) _ (outcome_written w st n result position h.0.0 size k e ((fits_law (length result) position size).1 h.1)) refl
  says_replied (damaged i) h =
      replied (damaged i) _ (outcome_refused w st n result position _ _ _ ((settling_law w n st (settling.damaged i)).1 h)) refl
  says_replied (no_layout r) h =
      replied (no_layout r) _ (outcome_refused w st n result position _ _ _ ((settling_law w n st (settling.no_layout r)).1 h)) refl
  says_replied (result_full k) h =
      let e = sound_answered w n st (layout.laid_out h.1.0 h.0 k) h.1.1 h.1.2 in
      replied (result_full k) _ (outcome_full w st n result position h.1.0 h.0 k e ((full_law (length result) position h.0).1 h.2)) refl

  -- something is said of some answer: laid out
  said_laid : (size k : ℕ) → SettlingSays w st n (settling.laid_out size k) → (a : AssemblyAnswer) × Said a
  said_laid size k s = go (is_full (length result) position size) refl
    where
      go : (b : Bool) → is_full (length result) position size ≡ b → (a : AssemblyAnswer) × Said a
      go true f = (result_full k, (size, s, (full_law (length result) position size).0 f))
      go false f = (written size k, (s, (fits_law (length result) position size).0 f))

  -- or refused by the settling
  said_settling : (b : settling.SettlingAnswer) → SettlingSays w st n b → (a : AssemblyAnswer) × Said a
  said_settling (settling.laid_out size k) s = said_laid size k s
  said_settling (settling.damaged i) s = (damaged i, s)
  said_settling (settling.no_layout r) s = (no_layout r, s)

  -- in every case
  said : (a : AssemblyAnswer) × Said a
  said = said_settling (settling_said w n st).0 (settling_said w n st).1

  -- the answer is one of them
  pub assembly_answers : (a : AssemblyAnswer) × ((assembly w st n result position).reply ≡ assembly_reply a)
  assembly_answers = (said.0, says_replied said.0 said.1)

  -- each answer is given in its stated condition and in no other
  pub assembly_law : (a : AssemblyAnswer) → ((assembly w st n result position).reply ≡ assembly_reply a) ↔ AnswerSays w st n (length result) position a
  assembly_law a = (
    λ h.
        let same : assembly_reply said.0 ≡ assembly_reply a = sym (says_replied said.0 said.1) ∙ h in
        subst Said (sym (answer_back said.0) ∙ ap answer_of same ∙ answer_back a) said.1,
    says_replied a,
  )

  -- 8, 17 and 18 as of settling
  pub assembly_missing : (x : Missing) (i k : ℕ) → ((assembly w st n result position).reply ≡ refused (layout.missing_number x) i k) ↔ ((k ≡ 0) × StoreMisses w st n i x)
  unfolding answer_of
  assembly_missing x i k = (there, λ (z, m). rw z (says_replied (no_layout (layout.unplaced x i)) ((misses_law w n st x i).1 m)))
    where
      there : (assembly w st n result position).reply ≡ refused (layout.missing_number x) i k → (k ≡ 0) × StoreMisses w st n i x
      there h =
          let same : assembly_reply said.0 ≡ refused (layout.missing_number x) i k = sym (says_replied said.0 said.1) ∙ h in
          let is : said.0 ≡ no_layout (layout.unplaced x i) = sym (answer_back said.0) ∙ ap answer_of same ∙ missing_back x i k in
          let zero : refused (layout.missing_number x) i 0 ≡ refused (layout.missing_number x) i k = sym (ap assembly_reply is) ∙ same in
          (cc, (misses_law w n st x i).0 (subst Said is said.1))

  -- 13 is answered exactly when the code or the position passes the result; its section is 0
  pub full_exactly : (i k : ℕ) → ((assembly w st n result position).reply ≡ refused number.result_full i k) ↔ ((i ≡ 0) × CodePasses w st n (length result) position k)
  unfolding answer_of
  full_exactly i k = (there, λ (z, full). back z full)
    where
      back : i ≡ 0 → CodePasses w st n (length result) position k → (assembly w st n result position).reply ≡ refused number.result_full i k
      back z (table, code, is, u, s, h) =
          says_replied (result_full k) (length code, (table, u, s), either_passes (length result) position (length code) h) ∙ ap (λ (x : ℕ). refused number.result_full x k) (sym z)

      there : (assembly w st n result position).reply ≡ refused number.result_full i k → (i ≡ 0) × CodePasses w st n (length result) position k
      there h =
          let same : assembly_reply said.0 ≡ refused number.result_full i k = sym (says_replied said.0 said.1) ∙ h in
          let is : said.0 ≡ result_full k = sym (answer_back said.0) ∙ ap answer_of same in
          let zero : refused number.result_full 0 k ≡ refused number.result_full i k = sym (ap assembly_reply is) ∙ same in
          let q = subst Said is said.1 in
          let table : List ℕ = q.1.0 in
          let long : length (code_of (entry table) (decode w st)) ≡ q.0 = (laid w n st table q.0 k (sound_answered w n st (layout.laid_out table q.0 k) q.1.1 q.1.2)).code_long in
          let code : List ℕ = code_of (entry table) (decode w st) in
          (cc, (table, code, refl, q.1.1, rw long q.1.2, inr (rw long q.2)))
