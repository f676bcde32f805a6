-- What a building call answers by number stands for the reply that its contract names. Assumes nothing.
use Prim.Native.Nat.{ℕ, ◌^◌, ◌≤◌, ◌<◌}
use native.Mathlib.Omega.{arith}
use mathlib.Core.Path.{◌≡◌, refl, sym, ap, ◌∙◌}
use mathlib.Core.Bool.{Bool, true, false}
use mathlib.Core.List.{List, [], ◌∷◌}
use lib.ListN.{length}
use lib.Dec.{ltb}
use borrow.Author.Tests.{eq-eqb, ne_eqb, lt-ltb, le-ltb, ltb-true, ltb-false}
use Rattle.units.specs.Replies.{damaged}
use Rattle.units.specs.Reply.{accepted, refused}
use Rattle.slices.proofs.Tests.{cond_case}
use Rattle.records.specs.declared.Assembler.{Assembler}
use Rattle.records.specs.Damage.{Soundness}
use Rattle.records.specs.Damage.{Sound, Damaged}
use Rattle.records.specs.Store.{Store, store_of, words_per_section}
use Rattle.records.specs.Damage.{last_soundness}
use Rattle.records.specs.Sections.{Section}
use Rattle.calls.specs.Calls.{BuiltReply, Push, has_bad_depth, has_bad_word, has_large_mark, added, bytes_pass, section_passes, room_reply, sound_reply, add_reply, push_reply, push_after, push_op_byte, push_op_bytes, unless_refused, all_reply, each_op_byte, call_reply, call_after}
use Rattle.calls.proofs.OpBytesAnswers.{no_op_bytes}
use Rattle.numbers.specs.Numbers.{number_in, low_in, counts_in, store_in, state_number, built_number}
use Rattle.numbers.specs.Packs.{BuiltPacks}
use Rattle.numbers.proofs.Adds.{Pushes, OpBytes}
use Rattle.numbers.proofs.Bounds.{push_packs, some_packs}
use Rattle.numbers.proofs.Unpacking.{number_back, low_back, state_back, stored_state}
use Rattle.store.specs.Built.{built_of}

-- ---- a number by its cases

module _ (answer : ℕ) where
  pub of_stored : number_in answer ≡ 0 → accepted (counts_in answer) ≡ built_of answer
  unfolding built_of
  of_stored e = rw (eq-eqb (number_in answer) 0 e)

  pub of_plain : (n : ℕ) → number_in answer ≡ n → 0 < n → n < damaged → refused n 0 0 ≡ built_of answer
  unfolding built_of
  of_plain n e l h = rw (e, ne_eqb n 0 (omega (arith, l)), lt-ltb n damaged h)

  pub of_damaged : damaged ≤ number_in answer → refused damaged (low_in answer) 0 ≡ built_of answer
  unfolding built_of
  of_damaged l = rw (ne_eqb (number_in answer) 0 (omega (arith, l)), le-ltb (number_in answer) damaged l)

-- ---- refusals of the building calls: no passes, and a section only with 6

abbrev Plain : BuiltReply → Type 0
Plain (accepted counts) = Unit {0}
Plain (refused n i k) = (1 ≤ n) × (n ≤ damaged) × (n < damaged → i ≡ 0) × (k ≡ 0)

plain_room : (w : ℕ) (s : Section) (st : Store) → Plain (room_reply w s st)
unfolding room_reply
plain_room w s st =
    cond_case Plain (bytes_pass s st) _ _ (λ _. (omega arith, omega arith, λ _. refl, refl))
    (λ _. cond_case Plain (section_passes w s st) _ _ (λ _. (omega arith, omega arith, λ _. refl, refl)) (λ _. tt))

plain_add : (w : ℕ) (s : Section) (st : Store) → Plain (add_reply w s st)
unfolding add_reply
plain_add w s st = go (last_soundness w st)
  where
    go : (t : Soundness) → Plain (sound_reply t (room_reply w s st))
    go Sound = plain_room w s st
    go (Damaged i) = (omega arith, omega arith, λ h. absurd (omega (arith, h)), refl)

plain_push : (w : ℕ) (p : Push) (st : Store) → Plain (push_reply w p st)
unfolding push_reply
plain_push w p st =
    cond_case Plain (has_bad_depth p) _ _ (λ _. (omega arith, omega arith, λ _. refl, refl))
    (λ _. cond_case Plain (has_bad_word p) _ _ (λ _. (omega arith, omega arith, λ _. refl, refl))
    (λ _. cond_case Plain (has_large_mark p) _ _ (λ _. (omega arith, omega arith, λ _. refl, refl)) (λ _. plain_add w (added p) st)))

-- of calls in turn too
plain_all : (w : ℕ) (ps : List Push) (st : Store) → Plain (all_reply w ps st)
unfolding all_reply
plain_all w [] st = tt
plain_all w (p ∷ ps) st = go (push_reply w p st) (plain_push w p st) (plain_all w ps (push_after w p st))
  where
    go : (r : BuiltReply) → Plain r → Plain (all_reply w ps (push_after w p st)) → Plain (unless_refused r (all_reply w ps (push_after w p st)))
    go (accepted counts) one rest = rest
    go (refused n i k) one rest = one

-- ---- a reply and its number

of_number : (r : BuiltReply) → Plain r → BuiltPacks r → built_of (built_number r) ≡ r
unfolding built_of
of_number (accepted counts) h packs =
    rw (number_back 0 counts.sections counts.bytes packs, stored_state counts packs)
of_number (refused n i k) h packs = go (ltb n damaged) refl
  where
    go : (t : Bool) → ltb n damaged ≡ t → built_of (built_number (refused n i k)) ≡ refused n i k
    go true t =
        let none = h.2 (ltb-true n damaged t) in
        let made = h.3 in
        rw (number_back n k i packs.1, ne_eqb n 0 (omega (arith, h.0)), t) (cc)
    go false t =
        let six : n ≡ damaged = omega (arith, ltb-false n damaged t, h.1) in
        let made = h.3 in
        rw (number_back n k i packs.1, ne_eqb n 0 (omega (arith, h.0)), t, low_back n k i packs.1) (cc)

pub push_back : (w : ℕ) (p : Push) (st : Store) → built_of (built_number (push_reply w p st)) ≡ push_reply w p st
push_back w p st = of_number (push_reply w p st) (plain_push w p st) (push_packs w p st)

pub all_back : (w : ℕ) (p : Push) (ps : List Push) (st : Store) → built_of (built_number (all_reply w (p ∷ ps) st)) ≡ all_reply w (p ∷ ps) st
all_back w p ps st = of_number (all_reply w (p ∷ ps) st) (plain_all w (p ∷ ps) st) (some_packs w p ps st)

-- ---- the calls

-- the store of a state, and of its counts
same_store : (store : Assembler) (bytes words : List ℕ) (state : ℕ) → state ≡ state_number store → store.bytes < 2 ^ 32
    → store_in state bytes words ≡ store_of store bytes words
same_store store bytes words state is fits = ap (λ (c : Assembler). store_of c bytes words) (ap counts_in is ∙ state_back store fits)

module _ (p : Push) (store : Assembler) (bytes words : List ℕ) (state : ℕ) (is : state ≡ state_number store) (fits : store.bytes < 2 ^ 32) where
  -- the reply and both slices, from those by number
  pub by_number : {reply : BuiltReply} {answer : ℕ} {bytes' words' : List ℕ} → reply ≡ built_of answer
      → Pushes words_per_section p (store_in state bytes words) answer bytes' words'
      → (reply ≡ push_reply words_per_section p (store_of store bytes words))
      × ((bytes' ≡ (push_after words_per_section p (store_of store bytes words)).bytes) × (words' ≡ (push_after words_per_section p (store_of store bytes words)).words))
  by_number e all = rw (sym (same_store store bytes words state is fits)) (e ∙ ap built_of all.0 ∙ push_back words_per_section p (store_in state bytes words), all.1)

  -- of a call that is lent no bytes to write
  pub words_by_number : {reply : BuiltReply} {answer : ℕ} {words' : List ℕ} → reply ≡ built_of answer
      → (answer ≡ built_number (push_reply words_per_section p (store_in state bytes words)))
      × (words' ≡ (push_after words_per_section p (store_in state bytes words)).words)
      → (reply ≡ push_reply words_per_section p (store_of store bytes words)) × (words' ≡ (push_after words_per_section p (store_of store bytes words)).words)
  words_by_number e all = let both = by_number e (all.0, (refl, all.1)) in (both.0, both.1.1)

-- ---- a run of op bytes

-- an empty one
pub op_bytes_none : (run : List ℕ) (store : Assembler) (bytes words : List ℕ) → length run ≡ 0
    → (accepted store ≡ call_reply words_per_section (push_op_bytes run) (store_of store bytes words))
    × ((bytes ≡ (call_after words_per_section (push_op_bytes run) (store_of store bytes words)).bytes) × (words ≡ (call_after words_per_section (push_op_bytes run) (store_of store bytes words)).words))
op_bytes_none [] store bytes words e =
    let none = no_op_bytes words_per_section (store_of store bytes words) in
    (sym none.0, (ap (λ (x : Store). x.bytes) (sym none.1), ap (λ (x : Store). x.words) (sym none.1)))
op_bytes_none (b ∷ run) store bytes words e = absurd (omega (arith, e))

-- any other, from its number
module _ (store : Assembler) (bytes words : List ℕ) (state : ℕ) (is : state ≡ state_number store) (fits : store.bytes < 2 ^ 32) where
  pub op_bytes_by_number : (run : List ℕ) {reply : BuiltReply} {answer : ℕ} {bytes' words' : List ℕ} → (length run ≡ 0 → ⊥) → reply ≡ built_of answer
      → OpBytes words_per_section run (store_in state bytes words) answer bytes' words'
      → (reply ≡ call_reply words_per_section (push_op_bytes run) (store_of store bytes words))
      × ((bytes' ≡ (call_after words_per_section (push_op_bytes run) (store_of store bytes words)).bytes)
      × (words' ≡ (call_after words_per_section (push_op_bytes run) (store_of store bytes words)).words))
  op_bytes_by_number [] some e all = absurd (some refl)
  op_bytes_by_number (b ∷ run) some e all =
      rw (sym (same_store store bytes words state is fits))
      (e ∙ ap built_of all.0 ∙ all_back words_per_section (push_op_byte b) (each_op_byte run) (store_in state bytes words), all.1)
