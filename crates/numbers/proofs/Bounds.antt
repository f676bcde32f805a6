-- Every answer of a building call comes back out of its number: sections at most 1,048,576, stored bytes at most 16,777,216.
-- Assumes nothing.
use Prim.Native.Nat.{ℕ, ◌+◌, ◌*◌, ◌%◌, ◌^◌, ◌≤◌, ◌<◌, min}
use native.Mathlib.Omega.{arith}
use mathlib.Core.Path.{◌≡◌, refl, sym, ap, ◌∙◌, subst}
use mathlib.Core.Bool.{Bool, true, false, cond, not, ◌&&◌, and-eq-true_iff as and-true}
use mathlib.Mathlib.Data.Bool.Basic.{or-eq-false-eq-eq-false-and-eq-false as or-false}
use mathlib.Core.Logic.{◌⊎◌, inl, inr}
use mathlib.Core.List.{List, [], ◌∷◌}
use lib.ListN.{length}
use borrow.Author.Tests.{leb-true, ltb-false, not-false}
use Rattle.units.specs.Replies.{refusal_numbers}
use Rattle.units.specs.Reply.{accepted, refused}
use Rattle.units.specs.declared.reply.Refusal.{Refusal}
use Rattle.slices.proofs.Tests.{cond_case}
use Rattle.records.specs.declared.Assembler.{Assembler}
use Rattle.records.specs.Store.{Store, counts_of, max_bytes, max_sections, bad_counts}
use Rattle.records.specs.Sections.{Section}
use Rattle.records.specs.Damage.{whole_soundness, bad_count, bad_count_building, last_soundness}
use Rattle.records.specs.Damage.{Soundness}
use Rattle.records.specs.Damage.{Sound, Damaged}
use Rattle.undamaged.specs.View.{DamagedAt, LastBreak}
use Rattle.undamaged.proofs.Soundness.{damaged_at_iff, last_damaged_iff}
use Rattle.calls.specs.Calls.{BuiltReply, Push, has_bad_depth, has_bad_word, has_large_mark, added, joins, joined, appended, with_section, bytes_pass, bytes_of, no_section_left, section_passes, room_reply, sound_reply, add_reply, push_reply, push_after, all_reply}
use Rattle.calls.proofs.Rooms.{sound_counts, left_fits}
use Rattle.calls.proofs.Refusals.{push_answers, accepted_added, all_next, all_refused}
use Rattle.numbers.specs.Numbers.{packed, refusal_number}
use Rattle.numbers.specs.Packs.{Packs, CountsPack, BuiltPacks}

-- counts that aren't bad are within the limits
within : (w : ℕ) (st : Store) → bad_counts w st ≡ false
    → (st.stored_bytes ≤ length st.bytes) × (st.stored_bytes ≤ max_bytes) × (st.sections ≤ max_sections) × (w * st.sections ≤ length st.words)
unfolding bad_counts
within w st e =
    let abcd = (and-true _ _).0 (not-false _ e) in
    let abc = (and-true _ _).0 abcd.0 in
    let ab = (and-true _ _).0 abc.0 in
    (leb-true _ _ ab.0, leb-true _ _ ab.1, leb-true _ _ abc.1, leb-true _ _ abcd.1)

-- the section of a 6 of a building call
pub last_section : (w : ℕ) (st : Store) (i : ℕ) → last_soundness w st ≡ Damaged i → i < 2 ^ 32
unfolding bad_count_building
last_section w st i e = go ((last_damaged_iff w st i).0 e)
  where
    go : ((bad_count_building w st ≡ true) × (i ≡ 0)) ⊎ ((bad_count_building w st ≡ false) × LastBreak w st i) → i < 2 ^ 32
    go (inl h) = omega (arith, h.1)
    go (inr h) = omega (arith, h.1.2, (within w st ((or-false (bad_counts w st) _).0 h.0).0).2)

-- the section of a 6 of assembly and of a listing
pub whole_section : (w : ℕ) (st : Store) (i : ℕ) → whole_soundness w st ≡ Damaged i → i < 2 ^ 32
unfolding bad_count
whole_section w st i e = go ((damaged_at_iff w st i).0 e)
  where
    go : DamagedAt w st i → i < 2 ^ 32
    go (inl h) = omega (arith, h.1)
    go (inr h) = omega (arith, h.1.0, (within w st ((or-false (bad_counts w st) _).0 h.0).0).2)

-- ---- building calls

-- what is stored, where 4 and 5 aren't answered
stored_packs : (w : ℕ) (s : Section) (st : Store) → last_soundness w st ≡ Sound → bytes_pass s st ≡ false → section_passes w s st ≡ false
    → Packs 0 (with_section w s st).sections (with_section w s st).stored_bytes
unfolding with_section bytes_pass section_passes
stored_packs w s st e b p = go (joins w s st) p
  where
    few : st.sections ≤ max_sections
    few = (within w st (sound_counts w st e)).2

    held : st.stored_bytes + length (bytes_of s) ≤ max_bytes
    held = omega (arith, ltb-false (min (length st.bytes) max_bytes) (st.stored_bytes + length (bytes_of s)) b)

    go : (t : Bool) → (not t && no_section_left w st.sections st.words) ≡ false
        → Packs 0 (cond t (joined w s st) (appended w s st)).sections (cond t (joined w s st) (appended w s st)).stored_bytes
    go true q = (omega arith, omega (arith, few), omega (arith, held))
    go false q = (omega arith, omega (arith, (left_fits w st.sections st.words q).0), omega (arith, held))

room_packs : (w : ℕ) (s : Section) (st : Store) → last_soundness w st ≡ Sound → BuiltPacks (room_reply w s st)
unfolding room_reply
room_packs w s st e =
    cond_case BuiltPacks (bytes_pass s st) _ _ (λ h. (omega arith, (omega arith, omega arith, omega arith)))
    (λ b. cond_case BuiltPacks (section_passes w s st) _ _ (λ h. (omega arith, (omega arith, omega arith, omega arith))) (λ p. stored_packs w s st e b p))

add_packs : (w : ℕ) (s : Section) (st : Store) → BuiltPacks (add_reply w s st)
unfolding add_reply
add_packs w s st = go (last_soundness w st) refl
  where
    go : (t : Soundness) → last_soundness w st ≡ t → BuiltPacks (sound_reply t (room_reply w s st))
    go Sound e = room_packs w s st e
    go (Damaged i) e = (omega arith, (omega arith, omega arith, last_section w st i e))

pub push_packs : (w : ℕ) (p : Push) (st : Store) → BuiltPacks (push_reply w p st)
unfolding push_reply
push_packs w p st =
    cond_case BuiltPacks (has_bad_depth p) _ _ (λ h. (omega arith, (omega arith, omega arith, omega arith)))
    (λ h. cond_case BuiltPacks (has_bad_word p) _ _ (λ i. (omega arith, (omega arith, omega arith, omega arith)))
    (λ i. cond_case BuiltPacks (has_large_mark p) _ _ (λ j. (omega arith, (omega arith, omega arith, omega arith))) (λ j. add_packs w (added p) st)))

-- ---- calls in turn, all or nothing

-- accepted, the counts are those of the answer
pushed_counts : (w : ℕ) (p : Push) (st : Store) (a : Assembler) → push_reply w p st ≡ accepted a → a ≡ counts_of (push_after w p st)
pushed_counts w p st a e = (((push_answers w p st).accepted_iff a).0 e).1 ∙ sym (ap counts_of (accepted_added w p st a e))

-- one call, and then the others
then_packs : (w : ℕ) (p : Push) (ps : List Push) (st : Store)
    → (CountsPack (counts_of (push_after w p st)) → BuiltPacks (all_reply w ps (push_after w p st))) → BuiltPacks (all_reply w (p ∷ ps) st)
then_packs w p ps st rest = go (push_reply w p st) refl (push_packs w p st)
  where
    go : (r : BuiltReply) → push_reply w p st ≡ r → BuiltPacks r → BuiltPacks (all_reply w (p ∷ ps) st)
    go (accepted a) e h = rw (all_next w p ps st a e) (rest (subst CountsPack (pushed_counts w p st a e) h))
    go (refused n i k) e h = rw (all_refused w p ps st n i k e) h

-- no call answers the counts as they are
all_packs : (w : ℕ) (ps : List Push) (st : Store) → CountsPack (counts_of st) → BuiltPacks (all_reply w ps st)
unfolding all_reply
all_packs w [] st h = h
all_packs w (p ∷ ps) st h = then_packs w p ps st (λ q. all_packs w ps (push_after w p st) q)

-- some call has judged them
pub some_packs : (w : ℕ) (p : Push) (ps : List Push) (st : Store) → BuiltPacks (all_reply w (p ∷ ps) st)
some_packs w p ps st = then_packs w p ps st (λ q. all_packs w ps (push_after w p st) q)

-- ---- refusals as the code has them

-- passes that pack aren't cut
pub refusal_whole : (r : Refusal) → (refusal_numbers r).passes < 2 ^ 24
    → refusal_number r ≡ packed (refusal_numbers r).number (refusal_numbers r).passes (refusal_numbers r).section
refusal_whole r h =
    let same : (refusal_numbers r).passes % 2 ^ 24 ≡ (refusal_numbers r).passes = omega (arith, h) in
    rw same
