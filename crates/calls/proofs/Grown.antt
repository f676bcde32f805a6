-- A store whose first m sections and whose bytes up to their end are those of an undamaged one, with one section after them:
-- it is undamaged, and its list is theirs with that section at the end. Appending and joining are both of this form.
-- Assumes nothing.
use Prim.Native.Nat.{ℕ, zero, suc, ◌+◌, ◌*◌, ◌≤◌, ◌<◌}
use native.Mathlib.Nat.{mul-suc, mul-le-mul_left, zero-add, le_refl, le_trans, le_of_lt, eq-or-lt_of_le}
use native.Mathlib.Omega.{arith}
use mathlib.Core.Path.{◌≡◌, refl, sym, ap, ap₂, ◌∙◌, subst, subst₂}
use mathlib.Core.Bool.{true, false, cond}
use mathlib.Core.List.{List, [], ◌∷◌, ◌++◌}
use mathlib.Core.Logic.{◌⊎◌, inl, inr}
use lib.ListN.{length, get_or, take, drop}
use lib.Seq.{slice, get_or-take, take-take}
use Rattle.records.specs.declared.record.StoredSection.{StoredSection}
use Rattle.records.specs.Record.{read_section}
use Rattle.records.specs.Store.{Store, max_bytes, max_sections, section_words}
use Rattle.records.specs.Damage.{unreadable, is_span, end_before}
use Rattle.records.specs.Sections.{Section, section_read, decode_at, decode_from, decode}
use Rattle.undamaged.specs.View.{Facts}
use Rattle.undamaged.proofs.Reading.{view, same_bytes_lem}
use Rattle.undamaged.proofs.Sections.{decode_snoc, span_within}

-- ---- the list of sections

-- equal sections make equal lists
decode_same : (w : ℕ) (old new : Store) (k i : ℕ) → ((j : ℕ) → i ≤ j → j < i + k → decode_at w new j ≡ decode_at w old j) → decode_from w new k i ≡ decode_from w old k i
unfolding decode_from
decode_same w old new zero i h = refl
decode_same w old new (suc k) i h =
    ap₂ (λ (x : Section) (l : List Section). x ∷ l) (h i (le_refl i) (omega arith)) (decode_same w old new k (suc i) (λ j a b. h j (omega arith) (omega arith)))

-- ---- words and ends

-- the words of section i lie below those of section n
pub row_below : (w i n : ℕ) → 3 ≤ w → i < n → w * i + 2 < w * n
row_below w i n h l = omega (arith, mul-suc w i, mul-le-mul_left w l)

-- an element below k, where the first k are the same
get_or_same : (old new : List ℕ) (k j : ℕ) → take k new ≡ take k old → j < k → get_or new j 0 ≡ get_or old j 0
get_or_same old new k j e l = sym (get_or-take k new j 0 l) ∙ ap (λ (x : List ℕ). get_or x j 0) e ∙ get_or-take k old j 0 l

-- fewer elements, where the first k are the same
pub take_same : (old new : List ℕ) (k b : ℕ) → take k new ≡ take k old → b ≤ k → take b new ≡ take b old
take_same old new k b e l = sym (take-take b k new l) ∙ ap (take b) e ∙ take-take b k old l

-- a part below k, where the first k are the same
slice_same : (old new : List ℕ) (k a b : ℕ) → take k new ≡ take k old → b ≤ k → slice a b new ≡ slice a b old
slice_same old new k a b e l = ap (drop a) (take_same old new k b e l)

-- a section below n, where the words of the first n are the same
section_same : (w : ℕ) (old new : Store) (n i : ℕ) → 3 ≤ w → take (w * n) new.words ≡ take (w * n) old.words → i < n → section_words w new i ≡ section_words w old i
section_same w old new n i h e l =
    let b = row_below w i n h l in
    let same = get_or_same old.words new.words (w * n) in
    λ p. record { kind = same (w * i) e (omega arith) p; first = same (w * i + 1) e (omega arith) p; second = same (w * i + 2) e b p }

-- the last end among the first i, where the words of the first n are the same
ends_same : (w : ℕ) (old new : Store) (n i : ℕ) → 3 ≤ w → take (w * n) new.words ≡ take (w * n) old.words → i ≤ n → end_before w new i ≡ end_before w old i
unfolding end_before
ends_same w old new n zero h e l = refl
ends_same w old new n (suc i) h e l =
    ap₂ (λ (r : StoredSection) (x : ℕ). cond (is_span r.kind) r.second x) (section_same w old new n i h e l) (ends_same w old new n i h e (omega arith))

-- ---- one section after the first m

-- `new` has the first m sections of `old` with their bytes, then a section of the words r, and its counts are within slices and limits
pub record Grown (w : ℕ) (old new : Store) (m : ℕ) (r : StoredSection) : Type 0 where
  pub bytes_fit : new.stored_bytes ≤ length new.bytes
  pub bytes_limit : new.stored_bytes ≤ max_bytes
  pub sections_limit : new.sections ≤ max_sections
  pub words_fit : w * new.sections ≤ length new.words
  pub count : new.sections ≡ suc m
  pub kept : m ≤ old.sections
  pub same_words : take (w * m) new.words ≡ take (w * m) old.words
  pub same_bytes : take (end_before w old m) new.bytes ≡ take (end_before w old m) old.bytes
  pub last : section_words w new m ≡ r
  pub readable : unreadable (read_section r) ≡ false
  pub starts : is_span r.kind ≡ true → r.first ≡ end_before w old m
  pub ends : cond (is_span r.kind) r.second (end_before w old m) ≡ new.stored_bytes

-- a section can be read, and if it is Ops or Data it starts at `at`
abbrev Follows : StoredSection → ℕ → Type 0
Follows x at = (unreadable (read_section x) ≡ false) × (is_span x.kind ≡ true → x.first ≡ at)

module _ (w : ℕ) (old new : Store) (m : ℕ) (r : StoredSection) (h : 3 ≤ w) (f : Facts w old) (g : Grown w old new m r) where
  -- a section of `new` is the last, or one of the first m
  last_or_earlier : (i : ℕ) → i < new.sections → (i ≡ m) ⊎ (i < m)
  last_or_earlier i l = eq-or-lt_of_le (omega (arith, g.count))

  -- the first m sections are those of `old`
  earlier : (i : ℕ) → i < m → section_words w new i ≡ section_words w old i
  earlier i l = section_same w old new m i h g.same_words l

  -- and so are their ends
  end_same : (i : ℕ) → i ≤ m → end_before w new i ≡ end_before w old i
  end_same i l = ends_same w old new m i h g.same_words l

  -- every section follows the one before it
  follows : (i : ℕ) → (i ≡ m) ⊎ (i < m) → Follows (section_words w new i) (end_before w new i)
  follows i (inl e) =
      subst (λ (x : ℕ). Follows (section_words w new x) (end_before w new x)) (sym e)
      (subst₂ Follows (sym g.last) (sym (end_same m (le_refl m))) (g.readable, g.starts))
  follows i (inr l) =
      let b : i < old.sections = le_trans l g.kept in
      subst₂ Follows (sym (earlier i l)) (sym (end_same i (le_of_lt l))) (f.readable i b, f.starts i b)

  -- such a store is undamaged
  pub grown_facts : Facts w new
  unfolding end_before
  grown_facts =
      record {
        bytes_fit = g.bytes_fit;
        bytes_limit = g.bytes_limit;
        sections_limit = g.sections_limit;
        words_fit = g.words_fit;
        readable = λ i l. (follows i (last_or_earlier i l)).0;
        starts = λ i l. (follows i (last_or_earlier i l)).1;
        ends =
            ap (end_before w new) g.count
            ∙ ap₂ (λ (x : StoredSection) (at : ℕ). cond (is_span x.kind) x.second at) g.last (end_same m (le_refl m))
            ∙ g.ends;
      }

  -- the first m sections with their bytes
  decode_earlier : (i : ℕ) → i < m → decode_at w new i ≡ decode_at w old i
  unfolding decode_at
  decode_earlier i l =
      ap (λ (x : StoredSection). section_read new.bytes (read_section x)) (earlier i l)
      ∙ same_bytes_lem old.bytes new.bytes (view (section_words w old i))
      (λ s. slice_same old.bytes new.bytes (end_before w old m) (section_words w old i).first (section_words w old i).second g.same_bytes (span_within w old i m f l g.kept s))

  -- and its list is that of the first m, with the section at the end
  pub grown_decode : decode w new ≡ decode_from w old m 0 ++ (section_read new.bytes (read_section r) ∷ [])
  unfolding decode decode_at
  grown_decode =
      ap (λ (k : ℕ). decode_from w new k 0) g.count
      ∙ decode_snoc w new m 0
      ∙ ap₂ (λ (l : List Section) (x : Section). l ++ (x ∷ []))
      (decode_same w old new m 0 (λ j a b. decode_earlier j (omega arith)))
      (ap (decode_at w new) (zero-add m) ∙ ap (λ (x : StoredSection). section_read new.bytes (read_section x)) g.last)
