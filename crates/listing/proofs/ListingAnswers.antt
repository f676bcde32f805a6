-- Laws of the answer and of the buffer after the call: each answer is given in its stated condition and in no other; and one law for
-- each way that the code goes. For every store, damaged or not. Assumes nothing.
use Prim.Native.Nat.{ℕ, ◌≤◌, ◌<◌}
use native.Mathlib.Omega.{arith}
use native.Mathlib.Nat.{zero-add}
use mathlib.Core.Path.{◌≡◌, refl, sym, ap, ◌∙◌, subst}
use mathlib.Core.Bool.{Bool, true, false, cond}
use mathlib.Core.Logic.{◌↔◌}
use Rattle.std.specs.Prelude.{Result, Err, IsErrAnd}
use Rattle.std.proofs.lemmas.Result.{err_from_is_err_and}
use Rattle.records.specs.declared.damage.Damage.{Damage}
use Rattle.units.specs.declared.reply.Refusal as refusal
use Rattle.units.specs.declared.reply.Refusal.{Refusal}
use mathlib.Core.List.{List, ◌++◌}
use lib.ListN.{length, drop}
use lib.Seq.{sets, sets-eq}
use lib.Dec.{ltb, eqb}
use borrow.Author.Tests.{lt-ltb, le-ltb, ltb-true, ltb-false}
use Rattle.units.specs.Replies as number
use Rattle.units.specs.Replies.{listing_full}
use Rattle.units.specs.Reply.{Reply, accepted, refused}
use Rattle.records.specs.Store.{Store}
use Rattle.records.specs.Sections.{decode}
use Rattle.records.specs.Damage.{Soundness, Sound, Damaged, soundness_of, whole_soundness}
use Rattle.undamaged.specs.View.{Undamaged}
use Rattle.undamaged.specs.declared.store.UndamagedStore.{UndamagedStore}
use Rattle.undamaged.proofs.Soundness.{damaged_at_iff}
use Rattle.listing.specs.Listing.{listing}
use Rattle.listing.specs.Room.{store_text}
use Rattle.listing.specs.Answer.{listed_reply, listing_reply, listing_buffer}
use Rattle.listing.specs.ListingAnswers.{ListingAnswer, written, damaged, full, answer_reply, AnswerSays, buffer_after}

-- the answer that a reply is
abbrev answer_of : Reply ℕ → ListingAnswer
answer_of (accepted n) = written n
answer_of (refused n i k) = cond (eqb n listing_full) full (damaged i)

answer_back : (a : ListingAnswer) → answer_of (answer_reply a) ≡ a
answer_back (written n) = refl
answer_back (damaged i) = refl
answer_back full = refl

module _ (w : ℕ) (st : Store) (buffer : List ℕ) where
  abbrev text : List ℕ
  text = listing (decode w st)

  -- what is said of an answer
  abbrev Said : ListingAnswer → Type 0
  Said a = AnswerSays w st (length buffer) a

  -- it is the answer, with its buffer
  abbrev Given : ListingAnswer → Type 0
  Given a = (listing_reply w st buffer ≡ answer_reply a) × (listing_buffer w st buffer ≡ buffer_after a text buffer)

  -- what is said of an answer makes it the answer
  says_given : (a : ListingAnswer) → Said a → Given a
  unfolding listing_reply listing_buffer
  says_given (written n) h =
      let u : Undamaged w st = h.0 in
      let t : ltb (length buffer) (length text) ≡ false = le-ltb (length buffer) (length text) (omega (arith, h.1, h.2)) in
      (rw (u, t) (ap accepted (sym h.1)), rw (u, t) (ap (λ (k : ℕ). text ++ drop k buffer) (sym h.1)))
  says_given (damaged i) h =
      let e : whole_soundness w st ≡ Damaged i = (damaged_at_iff w st i).1 h in
      (rw e, rw e)
  says_given full h =
      let u : Undamaged w st = h.0 in
      let t : ltb (length buffer) (length text) ≡ true = lt-ltb (length buffer) (length text) h.1 in
      (rw (u, t), rw (u, t))

  -- something is said of some answer
  said : (a : ListingAnswer) × Said a
  said = go (whole_soundness w st) refl (ltb (length buffer) (length text)) refl
    where
      go : (s : Soundness) → whole_soundness w st ≡ s → (b : Bool) → ltb (length buffer) (length text) ≡ b → (a : ListingAnswer) × Said a
      go Sound u true t = (full, (u, ltb-true (length buffer) (length text) t))
      go Sound u false t = (written (length text), (u, refl, ltb-false (length buffer) (length text) t))
      go (Damaged i) e b t = (damaged i, (damaged_at_iff w st i).0 e)

  -- the answer is one of them
  pub listing_answers : (a : ListingAnswer) × (listing_reply w st buffer ≡ answer_reply a)
  listing_answers = (said.0, (says_given said.0 said.1).0)

  -- each answer is given in its stated condition and in no other
  pub listing_law : (a : ListingAnswer) → (listing_reply w st buffer ≡ answer_reply a) ↔ AnswerSays w st (length buffer) a
  listing_law a = (
    λ h.
        let same : answer_reply said.0 ≡ answer_reply a = sym (says_given said.0 said.1).0 ∙ h in
        subst Said (sym (answer_back said.0) ∙ ap answer_of same ∙ answer_back a) said.1,
    λ s. (says_given a s).0,
  )

  -- and the buffer is what it says
  pub listing_buffer_lem : (a : ListingAnswer) → listing_reply w st buffer ≡ answer_reply a → listing_buffer w st buffer ≡ buffer_after a (listing (decode w st)) buffer
  listing_buffer_lem a h = (says_given a ((listing_law a).0 h)).1

-- ---- for the code

module _ (w : ℕ) (st : Store) (buffer : List ℕ) where
  -- the contract, of an answer and a buffer
  abbrev pub Answers : Reply ℕ → List ℕ → Type 0
  Answers reply after = (reply ≡ listing_reply w st buffer) × (after ≡ listing_buffer w st buffer)

  answers : (a : ListingAnswer) → Said w st buffer a → Answers (answer_reply a) (buffer_after a (listing (decode w st)) buffer)
  answers a s = let given = says_given w st buffer a s in (sym given.0, sym given.1)

  -- 6
  pub answers_damaged : (i : ℕ) → whole_soundness w st ≡ Damaged i → Answers (refused number.damaged i 0) buffer
  answers_damaged i e = answers (damaged i) ((damaged_at_iff w st i).0 e)

  -- an undamaged store; n is the listing's length as the code has it
  module _ (u : Undamaged w st) (n : ℕ) (counted : n ≡ length (store_text w st)) where
    -- 14: the listing passes the buffer
    pub answers_full : length buffer < n → Answers (refused listing_full 0 0) buffer
    answers_full h = answers full (u, omega arith)

    -- it fits
    pub answers_text : {after : List ℕ} → n ≤ length buffer → after ≡ sets buffer 0 (store_text w st) → Answers (accepted n) after
    answers_text h p =
        let text : List ℕ = store_text w st in
        let given = answers (written n) (u, counted, h) in
        let put = p ∙ sets-eq text buffer 0 (omega arith) ∙ ap (λ (k : ℕ). text ++ drop k buffer) (zero-add _ ∙ sym counted) in
        (given.0, put ∙ given.1)

-- ---- a damaged store, as the code hears of it

module _ (w : ℕ) (st : Store) (buffer : List ℕ) (tested : Result UndamagedStore Damage) (found : soundness_of tested ≡ whole_soundness w st) (damage : Damage) (was : tested ≡ Err damage) where
  broken : whole_soundness w st ≡ Damaged damage.section
  broken = sym found ∙ ap soundness_of was

  pub refused_reply : (answer : Result ℕ Refusal) → IsErrAnd answer (λ r. r ≡ refusal.TheVariants.Damaged damage.section) → listed_reply answer ≡ listing_reply w st buffer
  refused_reply answer is =
      let refused = err_from_is_err_and answer is in
      ap listed_reply (refused.1 ∙ ap Err refused.2) ∙ (answers_damaged w st buffer damage.section broken).0

  pub refused_buffer : buffer ≡ listing_buffer w st buffer
  refused_buffer = (answers_damaged w st buffer damage.section broken).1
