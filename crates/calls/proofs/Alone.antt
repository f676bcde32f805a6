-- Laws of a section that stands alone: adding its words is adding the section; and one law for each way that code goes.
-- Assumes nothing.
use Prim.Native.Nat.{ℕ, ◌+◌, min}
use native.Mathlib.Omega.{arith}
use native.Mathlib.Nat.{add-zero}
use mathlib.Core.Path.{◌≡◌, refl, sym, ◌∙◌}
use mathlib.Core.Bool.{true, false, and-false}
use mathlib.Core.List.{List, []}
use lib.Dec.{ltb}
use lib.ListN.{length}
use borrow.Author.Tests.{le-ltb}
use Rattle.units.specs.Replies.{sections_full, damaged}
use Rattle.units.specs.Reply.{accepted, refused}
use Rattle.slices.proofs.Over.{over_nothing}
use Rattle.records.specs.declared.record.StoredSection.{StoredSection}
use Rattle.records.specs.Damage.{Soundness}
use Rattle.records.specs.Damage.{Sound, Damaged}
use Rattle.records.specs.Store.{Store, counts_of, max_bytes}
use Rattle.records.specs.Damage.{last_soundness}
use Rattle.records.specs.Sections.{Section, mark, ops, bytes, reference}
use Rattle.records.proofs.Damages.{good_bytes}
use Rattle.calls.specs.Calls.{BuiltReply, bytes_of, words_of, joins, with_section, bytes_pass, no_section_left, section_passes, room_reply, add_reply, add_after, if_stored}
use Rattle.calls.specs.Alone.{StandsAlone, with_words, words_reply, words_after}
use Rattle.calls.proofs.Rooms.{sound_counts}

-- the answer, the byte slice and the words, each way
abbrev pub AddsWords : ℕ → StoredSection → Store → BuiltReply → List ℕ → Type 0
AddsWords w x st reply ws = (reply ≡ words_reply w x st) × (ws ≡ (words_after w x st).words)

module _ (w : ℕ) (x : StoredSection) (st : Store) where
  pub words_damaged : (i : ℕ) → last_soundness w st ≡ Damaged i → AddsWords w x st (refused damaged i 0) st.words
  unfolding words_reply words_after
  words_damaged i e = (rw e, rw e)

  module _ (sound : last_soundness w st ≡ Sound) where
    pub words_full : no_section_left w st.sections st.words ≡ true → AddsWords w x st (refused sections_full 0 0) st.words
    unfolding words_reply words_after
    words_full f = (rw (sound, f), rw (sound, f))

    pub words_appended : no_section_left w st.sections st.words ≡ false → AddsWords w x st (accepted (counts_of (with_words w x st))) (with_words w x st).words
    unfolding words_reply words_after
    words_appended f = (rw (sound, f), rw (sound, f))

  -- no way writes bytes
  pub words_keep_bytes : (words_after w x st).bytes ≡ st.bytes
  unfolding words_after
  words_keep_bytes = go (words_reply w x st)
    where
      go : (r : BuiltReply) → (if_stored r (with_words w x st) st).bytes ≡ st.bytes
      go (accepted a) = refl
      go (refused n i k) = refl

-- ---- the section whose words they are

alone_bytes : (s : Section) → StandsAlone s → bytes_of s ≡ []
alone_bytes (mark m) a = refl
alone_bytes (ops bs) a = absurd a
alone_bytes (bytes bs) a = absurd a
alone_bytes (reference r) a = refl

alone_words : (at : ℕ) (s : Section) → StandsAlone s → words_of at s ≡ words_of 0 s
alone_words at (mark m) a = refl
alone_words at (ops bs) a = absurd a
alone_words at (bytes bs) a = absurd a
alone_words at (reference r) a = refl

alone_apart : (w : ℕ) (s : Section) (st : Store) → StandsAlone s → joins w s st ≡ false
unfolding joins
alone_apart w (mark m) st a = and-false (ltb 0 st.sections)
alone_apart w (ops bs) st a = absurd a
alone_apart w (bytes bs) st a = absurd a
alone_apart w (reference r) st a = and-false (ltb 0 st.sections)

module _ (w : ℕ) (s : Section) (x : StoredSection) (st : Store) (alone : StandsAlone s) (is : x ≡ words_of 0 s) where
  alone_with : with_section w s st ≡ with_words w x st
  unfolding with_section
  alone_with =
      let words : words_of st.stored_bytes s ≡ x = alone_words st.stored_bytes s alone ∙ sym is in
      rw (alone_apart w s st alone, alone_bytes s alone, words, over_nothing st.bytes st.stored_bytes, add-zero st.stored_bytes)

  alone_room : last_soundness w st ≡ Sound → bytes_pass s st ≡ false
  unfolding bytes_pass
  alone_room sound =
      let fits = good_bytes w st (sound_counts w st sound) in
      rw (alone_bytes s alone) (le-ltb (min (length st.bytes) max_bytes) (st.stored_bytes + 0) (omega arith))

  pub alone_reply : words_reply w x st ≡ add_reply w s st
  unfolding words_reply add_reply room_reply section_passes
  alone_reply = go (last_soundness w st) refl
    where
      go : (t : Soundness) → last_soundness w st ≡ t → words_reply w x st ≡ add_reply w s st
      go (Damaged i) e = rw e
      go Sound e = rw (e, alone_room e, alone_apart w s st alone, alone_with)

  pub alone_after : words_after w x st ≡ add_after w s st
  unfolding words_after add_after
  alone_after = rw (alone_reply, alone_with)
