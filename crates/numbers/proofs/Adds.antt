-- Laws of `add_reply`, `push_reply` and runs of op bytes by number, one for each way that the code goes: the answer, the byte slice and the
-- words.
-- Assumes nothing.
use Prim.Native.Nat.{ℕ, ◌≤◌}
use native.Mathlib.Omega.{arith}
use mathlib.Core.Path.{◌≡◌, refl, sym, ◌∙◌, ap, subst}
use mathlib.Core.Bool.{true, false}
use mathlib.Core.List.{List, [], ◌∷◌}
use lib.ListN.{length}
use Rattle.units.specs.Replies.{bad_depth, bad_word, large_mark, bytes_full, sections_full, damaged}
use Rattle.records.specs.Store.{Store, counts_of}
use Rattle.records.specs.Damage.{last_soundness}
use Rattle.records.specs.Sections.{Section, ops}
use Rattle.records.specs.Damage.{Sound, Damaged}
use Rattle.calls.specs.Calls.{BuiltReply, Push, has_bad_depth, has_bad_word, has_large_mark, added, joins, joined, appended, with_section, bytes_pass, no_section_left, section_passes, room_reply, add_reply, push_reply, if_stored, add_after, push_after, push_op_bytes, call_reply, call_after}
use Rattle.calls.specs.Answers.{IsStored}
use Rattle.calls.specs.AtOnce.{no_byte_left, at_once_reply, at_once_after}
use Rattle.calls.proofs.OpBytes.{op_bytes_law}
use Rattle.calls.proofs.OpBytesAnswers.{no_op_bytes}
use Rattle.numbers.specs.Numbers.{packed, store_in, state_number, built_number}

-- the number, the bytes and the words that adding a section gives
abbrev pub Adds : ℕ → Section → Store → ℕ → List ℕ → List ℕ → Type 0
Adds w s st answer bs ws =
    (answer ≡ built_number (add_reply w s st)) × ((bs ≡ (add_after w s st).bytes) × (ws ≡ (add_after w s st).words))

-- any section
module _ (w : ℕ) (s : Section) (st : Store) where
  pub add_damaged : (i : ℕ) → last_soundness w st ≡ Damaged i → Adds w s st (packed damaged 0 i) st.bytes st.words
  unfolding add_reply add_after
  add_damaged i e = (rw e, (rw e, rw e))

  module _ (sound : last_soundness w st ≡ Sound) where
    pub add_bytes_full : bytes_pass s st ≡ true → Adds w s st (packed bytes_full 0 0) st.bytes st.words
    unfolding add_reply add_after room_reply
    add_bytes_full b = (rw (sound, b), (rw (sound, b), rw (sound, b)))

    module _ (room : bytes_pass s st ≡ false) where
      pub add_joined : joins w s st ≡ true
          → Adds w s st (state_number (counts_of (joined w s st))) (joined w s st).bytes (joined w s st).words
      unfolding add_reply add_after room_reply section_passes with_section
      add_joined j = (rw (sound, room, j), (rw (sound, room, j), rw (sound, room, j)))

      pub stored_joined : joins w s st ≡ true → IsStored (add_reply w s st)
      unfolding add_reply room_reply section_passes
      stored_joined j = rw (sound, room, j) tt

      module _ (apart : joins w s st ≡ false) where
        pub add-sections-full : no_section_left w st.sections st.words ≡ true
            → Adds w s st (packed sections_full 0 0) st.bytes st.words
        unfolding add_reply add_after room_reply section_passes
        add-sections-full f = (rw (sound, room, apart, f), (rw (sound, room, apart, f), rw (sound, room, apart, f)))

        pub add-appended : no_section_left w st.sections st.words ≡ false
            → Adds w s st (state_number (counts_of (appended w s st))) (appended w s st).bytes (appended w s st).words
        unfolding add_reply add_after room_reply section_passes with_section
        add-appended f = (rw (sound, room, apart, f), (rw (sound, room, apart, f), rw (sound, room, apart, f)))

        pub stored-appended : no_section_left w st.sections st.words ≡ false → IsStored (add_reply w s st)
        unfolding add_reply room_reply section_passes
        stored-appended f = rw (sound, room, apart, f) tt

-- what adding a section gives, of the same section written otherwise
pub add_same : (w : ℕ) (s t : Section) (st : Store) (answer : ℕ) (bs ws : List ℕ) → s ≡ t → Adds w s st answer bs ws
    → Adds w t st answer bs ws
add_same w s t st answer bs ws e a = subst (λ (x : Section). Adds w x st answer bs ws) e a

-- ---- the calls: refused by their own numbers, or what adding their section gives

abbrev pub Pushes : ℕ → Push → Store → ℕ → List ℕ → List ℕ → Type 0
Pushes w p st answer bs ws =
    (answer ≡ built_number (push_reply w p st)) × ((bs ≡ (push_after w p st).bytes) × (ws ≡ (push_after w p st).words))

module _ (w : ℕ) (p : Push) (st : Store) where
  pub push_bad_depth : has_bad_depth p ≡ true → Pushes w p st (packed bad_depth 0 0) st.bytes st.words
  unfolding push_reply push_after
  push_bad_depth d = (rw d, (rw d, rw d))

  pub push_bad_word : has_bad_depth p ≡ false → has_bad_word p ≡ true → Pushes w p st (packed bad_word 0 0) st.bytes st.words
  unfolding push_reply push_after
  push_bad_word d b = (rw (d, b), (rw (d, b), rw (d, b)))

  pub push_large_mark : has_bad_depth p ≡ false → has_bad_word p ≡ false → has_large_mark p ≡ true
      → Pushes w p st (packed large_mark 0 0) st.bytes st.words
  unfolding push_reply push_after
  push_large_mark d b m = (rw (d, b, m), (rw (d, b, m), rw (d, b, m)))

  module _ (depth : has_bad_depth p ≡ false) (word : has_bad_word p ≡ false) (mark : has_large_mark p ≡ false) where
    push_reply_lem : add_reply w (added p) st ≡ push_reply w p st
    unfolding push_reply
    push_reply_lem = rw (depth, word, mark)

    push_after_lem : add_after w (added p) st ≡ push_after w p st
    unfolding push_reply push_after add_after
    push_after_lem = rw (depth, word, mark)

    pub push_adds : (s : Section) (answer : ℕ) (bs ws : List ℕ) → s ≡ added p → Adds w s st answer bs ws → Pushes w p st answer bs ws
    push_adds s answer bs ws e a =
        let own = add_same w s (added p) st answer bs ws e a in (
          own.0 ∙ ap built_number push_reply_lem,
          (own.1.0 ∙ ap (λ (x : Store). x.bytes) push_after_lem, own.1.1 ∙ ap (λ (x : Store). x.words) push_after_lem),
        )

-- ---- a run of op bytes, judged at once

abbrev pub AtOnce : ℕ → List ℕ → Store → ℕ → List ℕ → List ℕ → Type 0
AtOnce w run st answer bs ws =
    (answer ≡ built_number (at_once_reply w run st)) × ((bs ≡ (at_once_after w run st).bytes) × (ws ≡ (at_once_after w run st).words))

module _ (w : ℕ) (run : List ℕ) (st : Store) where
  pub once_damaged : (i : ℕ) → last_soundness w st ≡ Damaged i → AtOnce w run st (packed damaged 0 i) st.bytes st.words
  unfolding at_once_reply at_once_after
  once_damaged i e = (rw e, (rw e, rw e))

  module _ (sound : last_soundness w st ≡ Sound) where
    pub once_byte_full : no_byte_left st ≡ true → AtOnce w run st (packed bytes_full 0 0) st.bytes st.words
    unfolding at_once_reply at_once_after
    once_byte_full b = (rw (sound, b), (rw (sound, b), rw (sound, b)))

    module _ (room : no_byte_left st ≡ false) where
      pub once_sections_full : section_passes w (ops run) st ≡ true → AtOnce w run st (packed sections_full 0 0) st.bytes st.words
      unfolding at_once_reply at_once_after
      once_sections_full s = (rw (sound, room, s), (rw (sound, room, s), rw (sound, room, s)))

      -- then it is added as a whole
      module _ (left : section_passes w (ops run) st ≡ false) where
        once-reply : add_reply w (ops run) st ≡ at_once_reply w run st
        unfolding add_reply room_reply at_once_reply
        once-reply = rw (sound, room, left)

        once_after : add_after w (ops run) st ≡ at_once_after w run st
        unfolding add_after at_once_after
        once_after = ap (λ (r : BuiltReply). if_stored r (with_section w (ops run) st) st) once-reply

        pub once-adds : (answer : ℕ) (bs ws : List ℕ) → Adds w (ops run) st answer bs ws → AtOnce w run st answer bs ws
        once-adds answer bs ws a = rw (sym once-reply, sym once_after) a

-- ---- a run of op bytes

abbrev pub OpBytes : ℕ → List ℕ → Store → ℕ → List ℕ → List ℕ → Type 0
OpBytes w run st answer bs ws =
    (answer ≡ built_number (call_reply w (push_op_bytes run) st))
    × ((bs ≡ (call_after w (push_op_bytes run) st).bytes) × (ws ≡ (call_after w (push_op_bytes run) st).words))

-- an empty one answers the state that it was given, whatever it is
pub op_bytes_empty : (w : ℕ) (run : List ℕ) (state : ℕ) (bytes words : List ℕ) → length run ≡ 0 → OpBytes w run (store_in state bytes words) state bytes words
op_bytes_empty w [] state bytes words e =
    let none = no_op_bytes w (store_in state bytes words) in
    let same : state ≡ state_number (counts_of (store_in state bytes words)) = omega arith in
    (same ∙ ap built_number (sym none.0), (ap (λ (x : Store). x.bytes) (sym none.1), ap (λ (x : Store). x.words) (sym none.1)))
op_bytes_empty w (b ∷ run) state bytes words e = absurd (omega (arith, e))

-- any other is judged at once
pub op_bytes_judged : (w : ℕ) (run : List ℕ) (st : Store) (answer : ℕ) (bs ws : List ℕ) → 3 ≤ w → (length run ≡ 0 → ⊥)
    → AtOnce w run st answer bs ws → OpBytes w run st answer bs ws
op_bytes_judged w [] st answer bs ws h n a = absurd (n refl)
op_bytes_judged w (b ∷ run) st answer bs ws h n a =
    let law = op_bytes_law w (b ∷ run) st h in
    rw (law.0, law.1) a
