-- A section added to an undamaged store that has room for it: the store stays undamaged, and the section is added to its list.
-- Assumes nothing.
use Prim.Native.Nat.{ℕ, suc, ◌+◌, ◌*◌, ◌-◌, ◌≤◌, ◌<◌}
use native.Mathlib.Nat.{add-zero, zero-add, mul-suc, le_refl, le_of_eq, le_trans}
use native.Mathlib.Numerals.{add-one}
use native.Mathlib.Omega.{arith}
use mathlib.Core.Path.{◌≡◌, refl, sym, ap, ◌∙◌, subst}
use mathlib.Core.Bool.{true, false, cond, and-eq-true_iff as and-true}
use mathlib.Mathlib.Data.Bool.Basic.{dichotomy}
use mathlib.Core.List.{List, [], ◌∷◌, ◌++◌, append_assoc}
use mathlib.Core.Logic.{◌⊎◌, inl, inr}
use lib.ListN.{length, get_or, take, length-set, length-replicate}
use lib.Seq.{slice, slice_empty, take-set-le, get_or-set_same, get_or-set_other}
use lib.Dec.{ltb}
use borrow.Author.Tests.{ltb-true, ltb-false}
use Rattle.records.specs.declared.record.StoredSection.{StoredSection}
use Rattle.records.specs.Record.{read_section}
use Rattle.records.specs.Store.{Store, max_bytes, max_sections, section_words, record_words}
use Rattle.records.specs.Damage.{unreadable, is_span, end_before}
use Rattle.records.specs.Sections.{Section, section_read, decode_at, decode_from, decode}
use Rattle.calls.specs.Calls.{bytes_of, words_of, extends, joins, joined, appended, with_section}
use Rattle.slices.specs.Over.{over}
use Rattle.calls.specs.Lists.{after_last, added_after, added_to}
use Rattle.undamaged.specs.View.{Facts}
use Rattle.slices.proofs.Tests.{and-false, cond_true, cond_false}
use Rattle.undamaged.proofs.Soundness.{last_end}
use Rattle.calls.proofs.Reading.{apart, extends_span, extended, large, read_back, words_start, words_end}
use Rattle.undamaged.proofs.Reading.{view, span_ordered}
use Rattle.slices.proofs.Over.{take_over, length_over, get_d_over, slice_over}
use Rattle.calls.proofs.Grown.{row_below, take_same, Grown, grown_facts, grown_decode}
use Rattle.undamaged.proofs.Sections.{decode_snoc, end_mono}

-- ---- the list

-- a section added to a list that ends with x
added_snoc : (y : Section) (ys : List Section) (x s : Section) → added_after y (ys ++ (x ∷ [])) s ≡ y ∷ (ys ++ after_last x s)
unfolding added_after
added_snoc y [] x s = refl
added_snoc y (z ∷ zs) x s = ap (λ (l : List Section). y ∷ l) (added_snoc z zs x s)

-- the same from the front
pub added_to_snoc : (xs : List Section) (x s : Section) → added_to (xs ++ (x ∷ [])) s ≡ xs ++ after_last x s
unfolding added_to added_after
added_to_snoc [] x s = refl
added_to_snoc (y ∷ ys) x s = added_snoc y ys x s

-- the list of a store with a last section
decode_last : (w : ℕ) (st : Store) (m : ℕ) → suc m ≡ st.sections → decode w st ≡ decode_from w st m 0 ++ (decode_at w st m ∷ [])
unfolding decode
decode_last w st m e =
    ap (λ (k : ℕ). decode_from w st k 0) (sym e)
    ∙ decode_snoc w st m 0
    ∙ ap (λ (k : ℕ). decode_from w st m 0 ++ (decode_at w st k ∷ [])) (zero-add m)

-- ---- room

-- the bytes of a section fit slice and limit
pub record BytesRoom (s : Section) (st : Store) : Type 0 where
  pub fits : st.stored_bytes + length (bytes_of s) ≤ length st.bytes
  pub limit : st.stored_bytes + length (bytes_of s) ≤ max_bytes

-- one more section fits slice and limit
pub record RowRoom (w : ℕ) (st : Store) : Type 0 where
  pub fits : w * (st.sections + 1) ≤ length st.words
  pub limit : st.sections + 1 ≤ max_sections

-- w words a record
record_length : (w : ℕ) (r : StoredSection) → 3 ≤ w → length (record_words w r) ≡ w
record_length w r h = omega (arith, length-replicate {A = ℕ} (w - 3) 0)

-- so a record's words end where one more section's do
pub record_end : (w n : ℕ) (r : StoredSection) → 3 ≤ w → w * n + length (record_words w r) ≡ w * (n + 1)
record_end w n r h = ap (λ (k : ℕ). w * n + k) (record_length w r h) ∙ sym (ap (λ (k : ℕ). w * k) (add-one n) ∙ mul-suc w n)

-- a record written at the count is the words of the section there
pub row_read : (w : ℕ) (s : Section) (st : Store) → w * st.sections ≤ length st.words
    → section_words w (appended w s st) st.sections ≡ words_of st.stored_bytes s
row_read w s st fits =
    let row : StoredSection = words_of st.stored_bytes s in
    let at : (j : ℕ) → j < length (record_words w row) → get_or (appended w s st).words (w * st.sections + j) 0 ≡ get_or (record_words w row) j 0 =
    λ j b. get_d_over st.words (w * st.sections) (record_words w row) fits j 0 b
    in
    let kind : get_or (appended w s st).words (w * st.sections) 0 ≡ row.kind = rw add-zero at (at 0 (omega arith)) in
    λ p. record { kind = kind p; first = at 1 (omega arith) p; second = at 2 (omega arith) p }

module _ (w : ℕ) (s : Section) (st : Store) (h : 3 ≤ w) (f : Facts w st) (small : large s ≡ false) (room : BytesRoom s st) where
  -- the words that are appended
  abbrev row : StoredSection
  row = words_of st.stored_bytes s

  -- where the last Ops or Data section ends
  abbrev end : ℕ
  end = st.stored_bytes

  -- a part up to the new bytes' end
  new_slice : (a : ℕ) → a ≤ end → slice a (end + length (bytes_of s)) (over st.bytes end (bytes_of s)) ≡ slice a end st.bytes ++ bytes_of s
  new_slice = slice_over st.bytes end (bytes_of s) f.bytes_fit

  -- the new bytes
  new_bytes : slice end (end + length (bytes_of s)) (over st.bytes end (bytes_of s)) ≡ bytes_of s
  new_bytes = new_slice end (le_refl end) ∙ ap (λ (l : List ℕ). l ++ bytes_of s) (slice_empty end st.bytes)

  -- which fit the slice
  bytes_fit_lem : end + length (bytes_of s) ≤ length (over st.bytes end (bytes_of s))
  bytes_fit_lem = rw (length_over st.bytes end (bytes_of s) f.bytes_fit room.fits) room.fits

  -- bytes up to an end of the first m sections stay
  old_bytes : (m : ℕ) → m ≤ st.sections → take (end_before w st m) (over st.bytes end (bytes_of s)) ≡ take (end_before w st m) st.bytes
  old_bytes m l = take_same st.bytes _ end _ (take_over st.bytes end (bytes_of s) f.bytes_fit) (subst (λ (x : ℕ). end_before w st m ≤ x) f.ends (end_mono w st m st.sections f l (le_refl st.sections)))

  -- ---- appended

  -- the appended record is one more section
  appended_grown : RowRoom w st → Grown w st (appended w s st) st.sections row
  appended_grown new =
      let fits : w * st.sections + length (record_words w row) ≤ length st.words = rw (record_end w st.sections row h) new.fits in
      record {
        bytes_fit = bytes_fit_lem;
        bytes_limit = room.limit;
        sections_limit = new.limit;
        words_fit = rw (length_over st.words (w * st.sections) (record_words w row) f.words_fit fits) new.fits;
        count = add-one st.sections;
        kept = le_refl st.sections;
        same_words = take_over st.words (w * st.sections) (record_words w row) f.words_fit;
        same_bytes = old_bytes st.sections (le_refl st.sections);
        last = row_read w s st f.words_fit;
        readable = (read_back end s (appended w s st).bytes small new_bytes).0;
        starts = λ t. words_start end s t ∙ sym f.ends;
        ends = ap (λ (x : ℕ). cond (is_span row.kind) row.second x) f.ends ∙ words_end end s;
      }

  -- a section that doesn't join comes last in the list
  pub added_apart : joins w s st ≡ false → added_to (decode w st) s ≡ decode w st ++ (s ∷ [])
  unfolding joins decode decode_from decode_at added_to
  added_apart e = go (dichotomy (ltb 0 st.sections))
    where
      go : (ltb 0 st.sections ≡ false) ⊎ (ltb 0 st.sections ≡ true) → added_to (decode w st) s ≡ decode w st ++ (s ∷ [])
      go (inr t) =
          let m : ℕ = st.sections - 1 in
          let q : suc m ≡ st.sections = omega (arith, ltb-true 0 st.sections t) in
          let x : Section = decode_at w st m in
          rw (decode_last w st m q)
          (added_to_snoc (decode_from w st m 0) x s
          ∙ ap (λ (l : List Section). decode_from w st m 0 ++ l) (apart st.bytes s (view (section_words w st m)) (and-false _ _ e t))
          ∙ sym (append_assoc (decode_from w st m 0) (x ∷ []) (s ∷ [])))
      go (inl n) =
          let z : st.sections ≡ 0 = omega (arith, ltb-false 0 st.sections n) in
          rw z

  -- and so is the list
  appended_decode : RowRoom w st → joins w s st ≡ false → decode w (appended w s st) ≡ added_to (decode w st) s
  unfolding decode
  appended_decode new e =
      grown_decode w st (appended w s st) st.sections row h f (appended_grown new)
      ∙ ap (λ (x : Section). decode w st ++ (x ∷ [])) (read_back end s (appended w s st).bytes small new_bytes).1
      ∙ sym (added_apart e)

  -- ---- joined

  module _ (some : 0 < st.sections) (t : extends (section_words w st (st.sections - 1)).kind s ≡ true) where
    -- the last section's index
    abbrev m : ℕ
    m = st.sections - 1

    -- one below the count
    q : suc m ≡ st.sections
    q = omega arith

    -- its words
    abbrev words : StoredSection
    words = section_words w st m

    -- the last section's words, with the new end
    abbrev longer : StoredSection
    longer = record { kind = words.kind; first = words.first; second = end + length (bytes_of s) }

    -- it is Ops or Data
    kind_span : is_span words.kind ≡ true
    kind_span = extends_span words.kind s t

    -- it ends at the stored count, and starts before
    at_end : words.second ≡ end
    at_end = last_end w st m f q kind_span

    -- it starts at or before its end
    ordered : words.first ≤ words.second
    ordered = span_ordered (view words) (f.readable m (le_of_eq q)) kind_span

    -- with the new end it can be read, and is the section with the new bytes
    joint : (unreadable (read_section longer) ≡ false) × (after_last (decode_at w st m) s ≡ section_read (joined w s st).bytes (read_section longer) ∷ [])
    unfolding decode_at
    joint =
        let before : words.first ≤ end = omega (arith, ordered, at_end) in
        extended words.kind words.first words.second (end + length (bytes_of s)) s st.bytes (joined w s st).bytes t ordered (omega arith)
        (new_slice words.first before ∙ ap (λ (x : ℕ). slice words.first x st.bytes ++ bytes_of s) (sym at_end))

    -- the words of the last section are those
    longer_read : section_words w (joined w s st) m ≡ longer
    longer_read =
        let b : w * m + 2 < length st.words = le_trans (row_below w m st.sections h (le_of_eq q)) f.words_fit in
        λ p.
        record {
          kind = get_or-set_other st.words (w * m + 2) (w * m) (end + length (bytes_of s)) 0 (omega arith) p;
          first = get_or-set_other st.words (w * m + 2) (w * m + 1) (end + length (bytes_of s)) 0 (omega arith) p;
          second = get_or-set_same st.words (w * m + 2) (end + length (bytes_of s)) 0 b p;
        }

    -- the replaced section is one more after the others
    joined_grown : Grown w st (joined w s st) m longer
    joined_grown =
        record {
          bytes_fit = bytes_fit_lem;
          bytes_limit = room.limit;
          sections_limit = f.sections_limit;
          words_fit = rw length-set f.words_fit;
          count = sym q;
          kept = omega arith;
          same_words = take-set-le (w * m) st.words (w * m + 2) _ (omega arith);
          same_bytes = old_bytes m (omega arith);
          last = longer_read;
          readable = joint.0;
          starts = f.starts m (le_of_eq q);
          ends = cond_true _ _ _ kind_span;
        }

    -- and the list has the new bytes in its last section
    joined_decode : decode w (joined w s st) ≡ added_to (decode w st) s
    joined_decode =
        grown_decode w st (joined w s st) m longer h f joined_grown
        ∙ ap (λ (l : List Section). decode_from w st m 0 ++ l) (sym joint.1)
        ∙ sym (ap (λ (l : List Section). added_to l s) (decode_last w st m q) ∙ added_to_snoc (decode_from w st m 0) (decode_at w st m) s)

  -- ---- either way

  -- the store stays undamaged, and the section is added to its list
  pub with_section_lem : (joins w s st ≡ false → RowRoom w st) → Facts w (with_section w s st) × (decode w (with_section w s st) ≡ added_to (decode w st) s)
  unfolding with_section joins
  with_section_lem new = go (dichotomy (joins w s st))
    where
      go : (joins w s st ≡ false) ⊎ (joins w s st ≡ true) → Facts w (with_section w s st) × (decode w (with_section w s st) ≡ added_to (decode w st) s)
      go (inr t) =
          let both = (and-true _ _).0 t in
          let some : 0 < st.sections = ltb-true 0 st.sections both.0 in
          rw (cond_true (joins w s st) (joined w s st) (appended w s st) t)
          (grown_facts w st (joined w s st) (st.sections - 1) (longer some both.1) h f (joined_grown some both.1), joined_decode some both.1)
      go (inl n) =
          rw (cond_false (joins w s st) (joined w s st) (appended w s st) n)
          (grown_facts w st (appended w s st) st.sections row h f (appended_grown (new n)), appended_decode (new n) n)
