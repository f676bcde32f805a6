-- The short ways come to what adding the section gives: a store that a test took is sound and has room, and what is then written is what
-- the definition says. Assumes nothing.
use Prim.Native.Nat.{ℕ, ◌+◌, ◌*◌, ◌-◌, ◌/◌, ◌%◌, ◌^◌, ◌≤◌, ◌<◌, min}
use native.Mathlib.Omega.{arith}
use mathlib.Core.Path.{◌≡◌, refl, sym, ap, ◌∙◌, subst}
use mathlib.Core.Bool.{Bool, true, false, cond, and-false}
use mathlib.Core.List.{List}
use Rattle.std.specs.Prelude.{Some}
use lib.Dec.{ltb, eqb}
use lib.ListN.{length}
use borrow.Author.Tests.{le-ltb, lt-ltb, eq-eqb, ne_eqb, eqb-true, eqb-false}
use Rattle.records.specs.Record.{ops_kind, data_kind, stored_section}
use Rattle.records.specs.Store.{Store, max_bytes, max_sections, section_words, words_per_section, record_words}
use Rattle.records.specs.Damage.{broken_last, last_broken, last_soundness}
use Rattle.records.specs.Sections.{Section, ops}
use Rattle.records.specs.declared.record.StoredSection.{StoredSection}
use Rattle.records.specs.Damage.{Sound}
use Rattle.slices.specs.Over.{over}
use Rattle.calls.specs.Calls.{BuiltReply, bytes_of, extends, bytes_pass, joins, no_section_left}
use Rattle.calls.proofs.Rooms.{left_slice}
use Rattle.calls.proofs.Alone.{words_appended, words_keep_bytes}
use Rattle.numbers.specs.Numbers.{packed, store_in, built_number}
use Rattle.undamaged.proofs.Soundness.{last_sound_iff}
use Rattle.calls.specs.Answers.{IsStored}
use Rattle.numbers.proofs.Adds.{add_joined, add-appended, stored_joined, stored-appended}
use Rattle.short.specs.Tried.{Done, TriedSection, TriedWords, data_section, span_section}
use Rattle.short.specs.Tests.{Takes, Extends, Begins, end_moved}
use Rattle.short.proofs.Whole.{whole_bytes}

-- ---- what was done

-- the call is accepted
all_done : {reply : BuiltReply} {after : Store} {next : ℕ} {bytes words : List ℕ} → IsStored reply
    → (next ≡ built_number reply) × ((bytes ≡ after.bytes) × (words ≡ after.words)) → Done reply after next bytes words
all_done t all = record { all = all; stored = t }

-- the answer and the slices as the code has them
pub done_as : {reply : BuiltReply} {after : Store} {next next' : ℕ} {bytes bytes' words words' : List ℕ}
    → next ≡ next' → bytes ≡ bytes' → words ≡ words' → Done reply after next' bytes' words' → Done reply after next bytes words
done_as a b c all = rw (a, b, c) all

-- ---- stores that the tests took

module _ (st : Store) where
  -- counts within slices and limits, and a last section that isn't broken
  sound_by :
      0 < st.sections → st.stored_bytes ≤ length st.bytes → st.stored_bytes ≤ max_bytes → st.sections ≤ max_sections → words_per_section * st.sections ≤ length st.words
      → broken_last (section_words words_per_section st (st.sections - 1)) st.stored_bytes ≡ false → last_soundness words_per_section st ≡ Sound
  unfolding last_broken
  sound_by some held limit few fit last =
      (last_sound_iff words_per_section st).1 ((held, limit, few, fit), λ z. absurd (omega (arith, some, z)), λ _. last)

  module _ (t : Takes words_per_section st) where
    takes_sound : last_soundness words_per_section st ≡ Sound
    takes_sound = sound_by t.some t.held t.limit (omega (arith, t.few)) (omega (arith, t.free)) t.last

    takes_free : no_section_left words_per_section st.sections st.words ≡ false
    takes_free =
        sym (left_slice words_per_section st.sections st.words (omega (arith, t.few)))
        ∙ le-ltb (length st.words) (words_per_section * (st.sections + 1)) t.free

  module _ (k n : ℕ) (e : Extends words_per_section k n st) where
    -- fewer bytes are taken too
    pub extends_fewer : (m : ℕ) → m ≤ n → Extends words_per_section k m st
    extends_fewer m l =
        record {
          room = omega (arith, e.room, l);
          limit = omega (arith, e.limit, l);
          few = e.few;
          some = e.some;
          words_fit = e.words_fit;
          last = e.last;
        }

    extends_sound : 0 < k → k < 3 → last_soundness words_per_section st ≡ Sound
    extends_sound l h =
        let x = section_words words_per_section st (st.sections - 1) in
        let some : 0 < x.kind = omega (arith, l, e.last.is_kind) in
        let few : x.kind < 3 = omega (arith, h, e.last.is_kind) in
        sound_by e.some (omega (arith, e.room)) (omega (arith, e.limit)) e.few e.words_fit
        (whole_bytes x st.stored_bytes some few e.last.starts e.last.ends)

-- ---- what is written, by a state's number

module _ (state : ℕ) (bytes words : List ℕ) where
  abbrev here : Store
  here = store_in state bytes words

  -- bytes behind those of the last section
  bytes_extended :
      (s : Section) (k : ℕ) → 0 < k → k < 3 → ((kind : ℕ) → extends kind s ≡ eqb kind k) → Extends words_per_section k (length (bytes_of s)) here
      → TriedSection s here (Some (state + length (bytes_of s))) (over bytes (state % 2 ^ 32) (bytes_of s)) (end_moved words_per_section state words (length (bytes_of s)))
  unfolding bytes_pass joins
  bytes_extended s k l h same e =
      let n = length (bytes_of s) in
      let kind = (section_words words_per_section here (state / 2 ^ 32 - 1)).kind in
      let room = le-ltb (min (length bytes) max_bytes) (state % 2 ^ 32 + n) (omega (arith, e.room, e.limit)) in
      let some : ltb 0 (state / 2 ^ 32) ≡ true = lt-ltb _ _ e.some in
      let kinds : eqb kind k ≡ true = eq-eqb kind k e.last.is_kind in
      let sound = extends_sound here k n e l h in
      let joining : joins words_per_section s here ≡ true = rw (some, same kind, kinds) in
      let all = add_joined words_per_section s here sound room joining in
      let next : state + n ≡ packed 0 (state / 2 ^ 32) (state % 2 ^ 32 + n) = omega arith in
      all_done (stored_joined words_per_section s here sound room joining) (next ∙ all.0, all.1)

  -- op bytes or data, by the kind
  pub span_extended :
      (k : ℕ) (bs : List ℕ) → 0 < k → k < 3 → Extends words_per_section k (length bs) here
      → TriedSection (span_section k bs) here (Some (state + length bs)) (over bytes (state % 2 ^ 32) bs) (end_moved words_per_section state words (length bs))
  span_extended k bs l h e = go (eqb k data_kind) refl
    where
      go : (t : Bool) → eqb k data_kind ≡ t
          → TriedSection (cond t (data_section bs) (ops bs)) here (Some (state + length bs)) (over bytes (state % 2 ^ 32) bs) (end_moved words_per_section state words (length bs))
      go true t = bytes_extended (data_section bs) k l h (λ kind. ap (eqb kind) (sym (eqb-true k data_kind t))) e
      go false t =
          let is_ops : ops_kind ≡ k = omega (arith, eqb-false k data_kind t) in
          bytes_extended (ops bs) k l h (λ kind. ap (eqb kind) is_ops) e

  -- op bytes that begin a section
  pub ops_begun : (bs : List ℕ) → Begins words_per_section (length bs) here
      → TriedSection (ops bs) here (Some (state + 2 ^ 32 + length bs)) (over bytes (state % 2 ^ 32) bs)
      (over words (words_per_section * (state / 2 ^ 32)) (record_words words_per_section (stored_section ops_kind (state % 2 ^ 32) (state % 2 ^ 32 + length bs))))
  unfolding bytes_pass joins
  ops_begun bs b =
      let kind = (section_words words_per_section here (state / 2 ^ 32 - 1)).kind in
      let room = le-ltb (min (length bytes) max_bytes) (state % 2 ^ 32 + length bs) (omega (arith, b.room, b.limit)) in
      let other : eqb kind ops_kind ≡ false = ne_eqb kind ops_kind b.apart in
      let apart : joins words_per_section (ops bs) here ≡ false = rw other (and-false (ltb 0 (state / 2 ^ 32))) in
      let sound = takes_sound here b.takes in
      let free = takes_free here b.takes in
      let all = add-appended words_per_section (ops bs) here sound room apart free in
      let next : state + 2 ^ 32 + length bs ≡ packed 0 (state / 2 ^ 32 + 1) (state % 2 ^ 32 + length bs) = omega arith in
      all_done (stored-appended words_per_section (ops bs) here sound room apart free) (next ∙ all.0, all.1)

  -- three words after a last section
  pub words_put : (x : StoredSection) → Takes words_per_section here
      → TriedWords x here (Some (state + 2 ^ 32)) bytes (over words (words_per_section * (state / 2 ^ 32)) (record_words words_per_section x))
  words_put x t =
      let all = words_appended words_per_section x here (takes_sound here t) (takes_free here t) in
      let next : state + 2 ^ 32 ≡ packed 0 (state / 2 ^ 32 + 1) (state % 2 ^ 32) = omega arith in
      all_done (subst IsStored all.0 tt) (next ∙ ap built_number all.0, (sym (words_keep_bytes words_per_section x here), all.1))
