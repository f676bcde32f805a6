-- The answers of the calls that add to a store, as a chain of tests: each refusal comes in its condition, where no earlier one holds,
-- and in no other; a refused call changes nothing. For every store, damaged or not. Assumes nothing.
use Prim.Native.Nat.{ℕ, ◌≤◌}
use mathlib.Core.Path.{◌≡◌, refl, sym, ap, ◌∙◌, subst}
use mathlib.Core.Bool.{Bool, true, false, cond, ◌&&◌, ◌||◌, true≢false, false≢true, and-eq-true_iff as and-true}
use mathlib.Mathlib.Data.Bool.Basic.{or-eq-false-eq-eq-false-and-eq-false as or-false}
use mathlib.Core.List.{List, [], ◌∷◌, ◌++◌, map}
use mathlib.Core.Logic.Iff
use mathlib.Core.Logic.{◌↔◌}
use lib.Dec.{leb, eqb}
use borrow.Author.Tests.{eq-eqb, leb-true}
use Rattle.units.specs.Replies.{bad_depth, bad_word, large_mark, bytes_full, sections_full, damaged}
use Rattle.units.specs.Reply.{accepted, refused}
use Rattle.records.specs.declared.Assembler.{Assembler}
use Rattle.records.specs.Damage.{Soundness}
use Rattle.records.specs.Damage.{Sound, Damaged}
use Rattle.records.specs.Store.{Store, counts_of}
use Rattle.records.specs.Damage.{last_soundness}
use Rattle.calls.specs.Calls.{BuiltReply, Push, has_bad_depth, has_bad_word, has_large_mark, added, with_section, bytes_pass, section_passes, room_reply, sound_reply, add_reply, push_reply, if_stored, push_after, all_reply, each_after, all_after}
use Rattle.records.specs.Sections.{Section}
use Rattle.calls.specs.Answers.{NoneOf, PushAnswers, IsStored}
use Rattle.undamaged.specs.View.{unsound}
use Rattle.undamaged.proofs.Soundness.{section_found}

-- ---- a chain of tests

-- a refusal's number and section, and whether its condition holds
pub data Test : Type 0 where
  test : ℕ → ℕ → Bool → Test

abbrev pub holds : Test → Bool
holds (test n s b) = b

-- the first refusal whose condition holds, or the answer r
abbrev pub first_of : List Test → BuiltReply → BuiltReply
first_of [] r = r
first_of (test n s b ∷ ts) r = cond b (refused n s 0) (first_of ts r)

-- some test of a list has the number n
abbrev pub among : ℕ → List Test → Bool
among n [] = false
among n (test m s b ∷ ts) = eqb m n || among n ts

-- every test of a list has a number from least to most
abbrev pub between : ℕ → ℕ → List Test → Bool
between least most [] = true
between least most (test m s b ∷ ts) = leb least m && leb m most && between least most ts

-- what a refusal holds
abbrev number_of : BuiltReply → ℕ
number_of (accepted a) = 0
number_of (refused n i k) = n

abbrev section_of : BuiltReply → ℕ
section_of (accepted a) = 0
section_of (refused n i k) = i

abbrev passes_of : BuiltReply → ℕ
passes_of (accepted a) = 0
passes_of (refused n i k) = k

abbrev is_refused : BuiltReply → Bool
is_refused (accepted a) = false
is_refused (refused n i k) = true

-- no answer is both
pub accepted_refused : {a : Assembler} {n i k : ℕ} → ◌≡◌ {A = BuiltReply} (accepted a) (refused n i k) → ⊥
accepted_refused e = false≢true (ap is_refused e)

-- refusals of different numbers differ
other_refusal : (m s n i k : ℕ) → eqb m n ≡ false → ◌≡◌ {A = BuiltReply} (refused m s 0) (refused n i k) → ⊥
other_refusal m s n i k e q = true≢false (sym (eq-eqb m n (ap number_of q)) ∙ e)

-- a number that no test has is not given
never : (ts : List Test) (a : Assembler) (n i k : ℕ) → among n ts ≡ false → first_of ts (accepted a) ≡ refused n i k → ⊥
never [] a n i k u e = accepted_refused e
never (test m j true ∷ ts) a n i k u e = other_refusal m j n i k ((or-false (eqb m n) (among n ts)).0 u).0 e
never (test m j false ∷ ts) a n i k u e = never ts a n i k ((or-false (eqb m n) (among n ts)).0 u).1 e

-- a number that is given is from least to most if those of the tests are
pub given_number : (least most : ℕ) (ts : List Test) (a : Assembler) (n i k : ℕ) → between least most ts ≡ true → first_of ts (accepted a) ≡ refused n i k
    → (least ≤ n) × (n ≤ most)
given_number least most [] a n i k u e = absurd (accepted_refused e)
given_number least most (test m j true ∷ ts) a n i k u e =
    let q : m ≡ n = ap number_of e in
    let r = (and-true (leb least m) (leb m most)).0 ((and-true (leb least m && leb m most) (between least most ts)).0 u).0 in
    subst (λ (x : ℕ). (least ≤ x) × (x ≤ most)) q (leb-true least m r.0, leb-true m most r.1)
given_number least most (test m j false ∷ ts) a n i k u e =
    given_number least most ts a n i k ((and-true (leb least m && leb m most) (between least most ts)).0 u).1 e

-- a number that one test has is given if that test's condition holds, and none before it
pub refused_iff : (before : List Test) (n j : ℕ) (c : Bool) (after : List Test) (a : Assembler) (i k : ℕ)
    → among n before ≡ false → among n after ≡ false
    → (first_of (before ++ (test n j c ∷ after)) (accepted a) ≡ refused n i k) ↔ (NoneOf (map holds before) × (c ≡ true) × (i ≡ j) × (k ≡ 0))
refused_iff [] n j true after a i k x y = (λ e. (tt, refl, sym (ap section_of e), sym (ap passes_of e)), λ h. cc)
refused_iff [] n j false after a i k x y = (λ e. absurd (never after a n i k y e), λ h. absurd (false≢true h.1))
refused_iff (test m l true ∷ ts) n j c after a i k x y =
    (λ e. absurd (other_refusal m l n i k ((or-false (eqb m n) (among n ts)).0 x).0 e), λ h. absurd (true≢false h.0.0))
refused_iff (test m l false ∷ ts) n j c after a i k x y =
    let r = refused_iff ts n j c after a i k ((or-false (eqb m n) (among n ts)).0 x).1 y in
    (λ e. let q = r.0 e in ((refl, q.0), q.1, q.2, q.3), λ h. r.1 (h.0.1, h.1, h.2, h.3))

-- the call is accepted if no condition holds
pub none_iff : (ts : List Test) (a x : Assembler) → (first_of ts (accepted a) ≡ accepted x) ↔ (NoneOf (map holds ts) × (x ≡ a))
none_iff [] a x = (λ e. (tt, cc), λ h. cc)
none_iff (test m l true ∷ ts) a x = (λ e. absurd (true≢false (ap is_refused e)), λ h. absurd (true≢false h.0.0))
none_iff (test m l false ∷ ts) a x =
    let r = none_iff ts a x in
    (λ e. let q = r.0 e in ((refl, q.0), q.1), λ h. r.1 (h.0.1, h.1))

-- ---- the test of the store

-- as a test of the chain
pub sound_chain : (s : Soundness) (r : BuiltReply) → sound_reply s r ≡ cond (unsound s) (refused damaged (section_found s) 0) r
sound_chain Sound r = refl
sound_chain (Damaged i) r = refl

-- what it found
pub found_iff : (s : Soundness) (i : ℕ) → ((unsound s ≡ true) × (i ≡ section_found s)) ↔ (s ≡ Damaged i)
found_iff Sound i = (λ h. absurd (false≢true h.0), λ e. absurd (false≢true (ap unsound e)))
found_iff (Damaged j) i = (λ h. ap Damaged (sym h.1), λ e. (refl, sym (ap section_found e)))

-- the same among other facts
found_among_iff : {A B : Type 0} (s : Soundness) (i : ℕ) → (A × (unsound s ≡ true) × (i ≡ section_found s) × B) ↔ (A × (s ≡ Damaged i) × B)
found_among_iff s i = (λ h. (h.0, (found_iff s i).0 (h.1, h.2), h.3), λ h. let q = (found_iff s i).1 h.1 in (h.0, q.0, q.1, h.2))

-- ---- the laws

module _ (w : ℕ) (p : Push) (st : Store) where
  -- the tests, by their numbers
  abbrev t₁ : Test
  t₁ = test bad_depth 0 (has_bad_depth p)

  abbrev t₂ : Test
  t₂ = test bad_word 0 (has_bad_word p)

  abbrev t₃ : Test
  t₃ = test large_mark 0 (has_large_mark p)

  abbrev t₆ : Test
  t₆ = test damaged (section_found (last_soundness w st)) (unsound (last_soundness w st))

  abbrev t₄ : Test
  t₄ = test bytes_full 0 (bytes_pass (added p) st)

  abbrev t₅ : Test
  t₅ = test sections_full 0 (section_passes w (added p) st)

  -- of 4 and 5, the first that applies
  room_chain : room_reply w (added p) st ≡ first_of (t₄ ∷ t₅ ∷ []) (accepted (counts_of (with_section w (added p) st)))
  unfolding room_reply
  room_chain = refl

  -- of all, the first that applies
  push_chain : push_reply w p st ≡ first_of (t₁ ∷ t₂ ∷ t₃ ∷ t₆ ∷ t₄ ∷ t₅ ∷ []) (accepted (counts_of (with_section w (added p) st)))
  unfolding push_reply add_reply
  push_chain = rw (sound_chain, room_chain)

  -- every answer is given in its condition, where no earlier one holds
  pub push_answers : PushAnswers w p st
  push_answers =
      record {
        bad_depth_iff = λ i k. rw push_chain (refused_iff [] bad_depth 0 _ (t₂ ∷ t₃ ∷ t₆ ∷ t₄ ∷ t₅ ∷ []) _ i k refl refl);
        bad_word_iff = λ i k. rw push_chain (refused_iff (t₁ ∷ []) bad_word 0 _ (t₃ ∷ t₆ ∷ t₄ ∷ t₅ ∷ []) _ i k refl refl);
        large_mark_iff = λ i k. rw push_chain (refused_iff (t₁ ∷ t₂ ∷ []) large_mark 0 _ (t₆ ∷ t₄ ∷ t₅ ∷ []) _ i k refl refl);
        damaged_iff = λ i k.
            rw push_chain (Iff.trans (refused_iff (t₁ ∷ t₂ ∷ t₃ ∷ []) damaged _ _ (t₄ ∷ t₅ ∷ []) _ i k refl refl) (found_among_iff (last_soundness w st) i));
        bytes_full_iff = λ i k. rw push_chain (refused_iff (t₁ ∷ t₂ ∷ t₃ ∷ t₆ ∷ []) bytes_full 0 _ (t₅ ∷ []) _ i k refl refl);
        sections_full_iff = λ i k. rw push_chain (refused_iff (t₁ ∷ t₂ ∷ t₃ ∷ t₆ ∷ t₄ ∷ []) sections_full 0 _ [] _ i k refl refl);
        accepted_iff = λ x. rw push_chain (none_iff (t₁ ∷ t₂ ∷ t₃ ∷ t₆ ∷ t₄ ∷ t₅ ∷ []) _ x);
        numbers = λ n i k e. given_number 1 6 (t₁ ∷ t₂ ∷ t₃ ∷ t₆ ∷ t₄ ∷ t₅ ∷ []) _ n i k refl (sym push_chain ∙ e);
      }

  -- a refused call leaves the store as it was
  pub refused_same : (n i k : ℕ) → push_reply w p st ≡ refused n i k → push_after w p st ≡ st
  unfolding push_after
  refused_same n i k e = ap (λ (r : BuiltReply). if_stored r (with_section w (added p) st) st) e

  -- an accepted one adds its section
  pub accepted_added : (a : Assembler) → push_reply w p st ≡ accepted a → push_after w p st ≡ with_section w (added p) st
  unfolding push_after
  accepted_added a e = ap (λ (r : BuiltReply). if_stored r (with_section w (added p) st) st) e

-- ---- a section added

-- where it is accepted, no test has passed
pub add_stored : (w : ℕ) (s : Section) (st : Store) → IsStored (add_reply w s st)
    → (last_soundness w st ≡ Sound) × (bytes_pass s st ≡ false) × (section_passes w s st ≡ false)
unfolding add_reply room_reply
add_stored w s st = go (last_soundness w st) (bytes_pass s st) (section_passes w s st)
  where
    go : (t : Soundness) (b p : Bool)
        → IsStored (sound_reply t (cond b (refused bytes_full 0 0) (cond p (refused sections_full 0 0) (accepted (counts_of (with_section w s st))))))
        → (t ≡ Sound) × (b ≡ false) × (p ≡ false)
    go Sound false false h = (refl, refl, refl)
    go Sound false true h = absurd h
    go Sound true p h = absurd h
    go (Damaged i) b p h = absurd h

-- ---- calls in turn, all or nothing

module _ (w : ℕ) (p : Push) (ps : List Push) (st : Store) where
  -- a refusal ends them
  pub all_refused : (n i k : ℕ) → push_reply w p st ≡ refused n i k → all_reply w (p ∷ ps) st ≡ refused n i k
  unfolding all_reply
  all_refused n i k e = rw e

  -- after an accepted call the others follow
  pub all_next : (a : Assembler) → push_reply w p st ≡ accepted a → all_reply w (p ∷ ps) st ≡ all_reply w ps (push_after w p st)
  unfolding all_reply
  all_next a e = rw e

  -- so where all are accepted, the first is, and then the others are
  pub all_first : (a : Assembler) → all_reply w (p ∷ ps) st ≡ accepted a
      → (b : Assembler) × (push_reply w p st ≡ accepted b) × (all_reply w ps (push_after w p st) ≡ accepted a)
  all_first a e = go (push_reply w p st) refl
    where
      go : (r : BuiltReply) → push_reply w p st ≡ r → (b : Assembler) × (push_reply w p st ≡ accepted b) × (all_reply w ps (push_after w p st) ≡ accepted a)
      go (accepted b) x = (b, x, sym (all_next b x) ∙ e)
      go (refused n i k) x = absurd (accepted_refused (sym e ∙ all_refused n i k x))

module _ (w : ℕ) (ps : List Push) (st : Store) where
  -- refused, they leave the store as it was
  pub all_same : (n i k : ℕ) → all_reply w ps st ≡ refused n i k → all_after w ps st ≡ st
  unfolding all_after
  all_same n i k e = ap (λ (r : BuiltReply). if_stored r (each_after w ps st) st) e

  -- accepted, what each in turn leaves
  pub all_each : (a : Assembler) → all_reply w ps st ≡ accepted a → all_after w ps st ≡ each_after w ps st
  unfolding all_after
  all_each a e = ap (λ (r : BuiltReply). if_stored r (each_after w ps st) st) e
