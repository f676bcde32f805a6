-- Laws of the walk over every section of a store: what is left after a section, and that there is room.
-- Assumes nothing.
use Prim.Native.Nat.{ℕ, zero, suc, ◌+◌, ◌*◌, ◌-◌, ◌≤◌, ◌<◌, ◌^◌}
use native.Mathlib.Omega.{arith}
use native.Mathlib.Nat.{sub-zero}
use native.Mathlib.Numerals.{add-one}
use mathlib.Core.Path.{◌≡◌, refl, sym, ap, ◌∙◌, subst}
use mathlib.Core.List.{List, [], ◌++◌}
use lib.ListN.{length, length-append}
use Rattle.records.specs.Record.{read_section}
use Rattle.records.specs.Store.{Store, store_of, section_words}
use Rattle.records.specs.Sections.{section_read, decode_at, decode_from, decode}
use Rattle.records.specs.declared.record.StoredSection.{StoredSection}
use Rattle.std.specs.Prelude.{Result, Ok, IfOk}
use Rattle.records.specs.declared.damage.Damage.{Damage}
use Rattle.records.specs.declared.Assembler.{Assembler}
use Rattle.undamaged.specs.declared.store.UndamagedStore.{UndamagedStore}
use Rattle.undamaged.specs.View.{Undamaged, Facts}
use Rattle.undamaged.specs.Section.{ReadIn}
use Rattle.undamaged.proofs.Soundness.{undamaged_iff}
use Rattle.undamaged.proofs.Sections.{section_in, section_held}
use Rattle.lines.specs.Sink.{added}
use Rattle.lines.specs.declared.text.TextSink.{TextSink}
use Rattle.lines.proofs.Sinks.{turn, done}
use Rattle.listing.specs.Room.{Room, store_in, words_text, store_text}
use Rattle.listing.specs.Listing.{section_text, listing}
use Rattle.listing.proofs.Lengths.{section_length}

-- the sections from i on
abbrev pub rest : ℕ → Store → ℕ → List ℕ
rest w st i = listing (decode_from w st (st.sections - i) i)

-- the first of k + 1 sections, and the others
from_next : (w : ℕ) (st : Store) (k i : ℕ) → listing (decode_from w st (suc k) i) ≡ section_text (decode_at w st i) ++ listing (decode_from w st k (suc i))
unfolding decode_from listing
from_next w st k i = refl

module _ (w : ℕ) (st : Store) where
  pub rest_start : listing (decode w st) ≡ rest w st 0
  unfolding decode
  rest_start = ap (λ (k : ℕ). listing (decode_from w st k 0)) (sym (sub-zero st.sections))

  rest_next : (i : ℕ) → i < st.sections → rest w st i ≡ section_text (decode_at w st i) ++ rest w st (i + 1)
  rest_next i h =
      let k : ℕ = st.sections - (i + 1) in
      let e : st.sections - i ≡ suc k = omega arith in
      ap (λ (n : ℕ). listing (decode_from w st n i)) e ∙ from_next w st k i ∙ ap (λ (j : ℕ). section_text (decode_at w st i) ++ listing (decode_from w st k j)) (sym (add-one i))

  rest_none : (i : ℕ) → st.sections ≤ i → rest w st i ≡ []
  unfolding decode_from listing
  rest_none i h =
      let e : st.sections - i ≡ 0 = omega arith in
      ap (λ (n : ℕ). listing (decode_from w st n i)) e

  -- one of the words x
  at_words : (i : ℕ) (x : StoredSection) → x ≡ section_words w st i → decode_at w st i ≡ section_read st.bytes (read_section x)
  unfolding decode_at
  at_words i x e = ap (λ (y : StoredSection). section_read st.bytes (read_section y)) (sym e)

  -- ---- what the code's turn asks: adding what is left to the sink s gives what adding the whole text to the sink r gives
  module _ (r : TextSink) (whole : List ℕ) (s : TextSink) (i : ℕ) (left : added s (rest w st i) ≡ added r whole) where
    -- a section by its words x
    pub every_turn : {t : TextSink} (x : StoredSection) → length r.text.now < 2 ^ 64 → i < st.sections → x ≡ section_words w st i → t ≡ added s (words_text st.bytes x) → added t (rest w st (i + 1)) ≡ added r whole
    every_turn x short l e p =
        let split : rest w st i ≡ words_text st.bytes x ++ rest w st (i + 1) = rest_next i l ∙ ap (λ (y : List ℕ). y ++ rest w st (i + 1)) (ap section_text (at_words i x e)) in
        turn r whole s _ _ short split left p

    pub every_done : s.place < 2 ^ 64 → st.sections ≤ i → s ≡ added r whole
    every_done small l = done r whole s small (rest_none i l) left

  -- ---- in an undamaged store

  module _ (facts : Facts w st) where
    -- the words x of section i
    pub words_in : (i : ℕ) (x : StoredSection) → i < st.sections → x ≡ section_words w st i → ReadIn (length st.bytes) (read_section x)
    words_in i x h e = subst (λ (y : StoredSection). ReadIn (length st.bytes) (read_section y)) (sym e) (section_held w st i facts h)

    -- the length of its text
    at_length : (i : ℕ) → i < st.sections → length (section_text (decode_at w st i)) ≤ 2 ^ 30
    unfolding decode_at
    at_length i h = section_length st.stored_bytes st.bytes (read_section (section_words w st i)) facts.bytes_limit (section_in w st i facts h)

    from_length : (k i : ℕ) → i + k ≤ st.sections → length (listing (decode_from w st k i)) ≤ k * 2 ^ 30
    unfolding decode_from listing
    from_length zero i h = omega arith
    from_length (suc k) i h =
        omega (arith, length-append (section_text (decode_at w st i)) (listing (decode_from w st k (suc i))), at_length i (omega arith), from_length k (suc i) (omega arith))

    -- the listing's length is far below 2 ^ 64
    pub listing_short : length (listing (decode w st)) ≤ 2 ^ 50
    unfolding decode
    listing_short = omega (arith, from_length st.sections 0 (omega arith), facts.sections_limit)

-- so a text has room for it from its start on
pub store_room : (w : ℕ) (st : Store) → Undamaged w st → Room 0 (store_text w st)
store_room w st u = record { fits = omega (arith, listing_short w st ((undamaged_iff w st).0 u)) }

-- ---- the store that the code has

-- it is the one that was tested
pub store_same : (tested : Result UndamagedStore Damage) (store : UndamagedStore) (counts : Assembler) (bytes words : List ℕ)
    → IfOk tested (λ s. (s.counts ≡ counts) × (s.bytes.now ≡ bytes) × (s.words.now ≡ words)) → tested ≡ Ok store → store_in store ≡ store_of counts bytes words
store_same tested store counts bytes words is was =
    let same : (store.counts ≡ counts) × (store.bytes.now ≡ bytes) × (store.words.now ≡ words) = subst (λ (r : Result UndamagedStore Damage). IfOk r (λ s. (s.counts ≡ counts) × (s.bytes.now ≡ bytes) × (s.words.now ≡ words))) was is in
    λ i. store_of (same.0 i) (same.1 i) (same.2 i)
