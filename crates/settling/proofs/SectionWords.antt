-- The three words of a section of an undamaged store: what the walks read from them is what layout says of the section. Assumes nothing.
use Rattle.std.specs.Prelude.{Option, Some}
use Prim.Native.Nat.{ℕ, ◌-◌, ◌≤◌, ◌<◌}
use native.Mathlib.Omega.{arith}
use mathlib.Core.Path.{◌≡◌, refl, sym, ap, ◌∙◌}
use mathlib.Core.Bool.{Bool, true, false, ◌&&◌, ◌||◌, and-true, and-false, or-false, true≢false}
use mathlib.Core.List.{List}
use mathlib.Mathlib.Data.Bool.Basic.{or-eq-false-eq-eq-false-and-eq-false as both_false}
use lib.Dec.{leb, ltb, eqb}
use lib.ListN.{length}
use lib.Seq.{length-slice}
use borrow.Author.Tests.{leb-false, eq-eqb, ne_eqb, lt-ltb, le-ltb, le-leb}
use Rattle.units.specs.declared.RefSize.{RefSize}
use Rattle.records.specs.declared.record.AsmSection.{AsmSection}
use Rattle.units.specs.Reference.{least_size, size_for}
use Rattle.units.specs.Form.{form_number, least_by_form}
use Rattle.units.proofs.Forms.{least_form, size_form}
use Rattle.records.specs.Record.{mark_kind, ops_kind, data_kind, direct_kind, read_section, form_of}
use Rattle.records.specs.Damage.{unreadable, is_span}
use Rattle.records.specs.Sections.{Section, mark, ops, bytes, reference, section_read}
use Rattle.records.specs.declared.record.StoredSection.{StoredSection}
use Rattle.undamaged.proofs.Reading.{direct, delta, Reads, is_damaged_lem, is_mark, is_ops_lem, is_data, is_direct, is_delta_lem, reads}
use Rattle.undamaged.proofs.Forms.{form_read}
use Rattle.slices.proofs.Tests.{and_false_left}
use Rattle.layout.specs.Passes.{entry, value_by}
use Rattle.layout.specs.Conditions.{places_some, names_some, missing_in, refers, backward_by, is_delta}
use Rattle.layout.proofs.Moves.{width_by}
use Rattle.settling.specs.SectionWalk.{short_words, MarksIn, unplaced_words, missing_words, backward_words, value_words, least_words, size_words}

-- x are the words of a section
pub data Words (x : StoredSection) : Section → Type 0 where
  mark_words : x.kind ≡ mark_kind → Words x (mark x.first)
  ops_words : x.kind ≡ ops_kind → x.first ≤ x.second → (bs : List ℕ) → length bs ≡ x.second - x.first → Words x (ops bs)
  data_words : x.kind ≡ data_kind → x.first ≤ x.second → (bs : List ℕ) → length bs ≡ x.second - x.first → Words x (bytes bs)
  direct_words : x.kind ≡ direct_kind → (s : Option RefSize) (p : Bool) → form_of x ≡ form_number (direct x.first s p)
      → Words x (reference (direct x.first s p))
  delta_words : direct_kind < x.kind → (s : Option RefSize) (p : Bool) → form_of x ≡ form_number (delta x.first x.second s p)
      → Words x (reference (delta x.first x.second s p))

-- words that can be read, and that end within the byte slice if they are of Ops or Data, are those of the section that is read
pub words_read : (held : List ℕ) (x : StoredSection) → unreadable (read_section x) ≡ false → (is_span x.kind ≡ true → x.second ≤ length held)
    → Words x (section_read held (read_section x))
words_read held x u h = go (reads x) refl u
  where
    go : {v : Option AsmSection} → Reads x.kind x.first x.second v → read_section x ≡ v → unreadable v ≡ false → Words x (section_read held v)
    go is_damaged_lem e n = absurd (true≢false n)
    go (is_mark f m) e n = mark_words f
    go (is_ops_lem f l) e n = ops_words f l _ (length-slice x.first x.second held (h (ap is_span f)))
    go (is_data f l) e n = data_words f l _ (length-slice x.first x.second held (h (ap is_span f)))
    go (is_direct f m s p g) e n = direct_words f s p (form_read x _ e)
    go (is_delta_lem l m o s p g) e n = delta_words l s p (form_read x _ e)

-- the size of a section by offsets, or too narrow
abbrev pub size_section : (ℕ → ℕ) → Section → Option ℕ
size_section offset (mark m) = Some 0
size_section offset (ops bs) = Some (length bs)
size_section offset (bytes bs) = Some (length bs)
size_section offset (reference r) = size_for r (value_by offset r.mark_ref)

-- not a mark
abbrev pub NotMark : Section → Type 0
NotMark (mark m) = ⊥
NotMark (ops bs) = Unit {0}
NotMark (bytes bs) = Unit {0}
NotMark (reference r) = Unit {0}

module _ {x : StoredSection} where
  -- by the kind word
  pub as_mark : {s : Section} → Words x s → x.kind ≡ mark_kind → s ≡ mark x.first
  as_mark (mark_words f) e = refl
  as_mark (ops_words f l bs d) e = absurd (omega arith)
  as_mark (data_words f l bs d) e = absurd (omega arith)
  as_mark (direct_words f s p g) e = absurd (omega arith)
  as_mark (delta_words l s p g) e = absurd (omega arith)

  pub not_mark : {s : Section} → Words x s → (x.kind ≡ mark_kind → ⊥) → NotMark s
  not_mark (mark_words f) n = n f
  not_mark (ops_words f l bs d) n = tt
  not_mark (data_words f l bs d) n = tt
  not_mark (direct_words f s p g) n = tt
  not_mark (delta_words l s p g) n = tt

  -- Ops and Data start at or before their end
  pub ordered : {s : Section} → Words x s → (x.kind ≡ mark_kind → ⊥) → x.kind < direct_kind → x.first ≤ x.second
  ordered (mark_words f) n k = absurd (n f)
  ordered (ops_words f l bs d) n k = l
  ordered (data_words f l bs d) n k = l
  ordered (direct_words f s p g) n k = absurd (omega arith)
  ordered (delta_words l s p g) n k = absurd (omega arith)

  -- 7
  pub short_words_lem : (n : ℕ) {s : Section} → Words x s → short_words n x ≡ (places_some (leb n) s || names_some (leb n) s)
  unfolding short_words
  short_words_lem n (mark_words f) = rw f (simp (and-true, and-false))
  short_words_lem n (ops_words f l bs d) = rw f (simp and-false)
  short_words_lem n (data_words f l bs d) = rw f (simp and-false)
  short_words_lem n (direct_words f s p g) = rw f (simp (and-true, and-false, or-false))
  short_words_lem n (delta_words l s p g) =
      rw (ne_eqb x.kind mark_kind (λ e. omega arith), lt-ltb data_kind x.kind (omega arith), lt-ltb direct_kind x.kind l) (simp and-true)

  -- a mark with a property that a section names
  pub named_words : (test : ℕ → Bool) {s : Section} → Words x s
      → (leb direct_kind x.kind && (test x.first || ltb direct_kind x.kind && test x.second)) ≡ names_some test s
  named_words test (mark_words f) = rw f
  named_words test (ops_words f l bs d) = rw f
  named_words test (data_words f l bs d) = rw f
  named_words test (direct_words f s p g) = rw f (simp or-false)
  named_words test (delta_words l s p g) = rw (le-leb direct_kind x.kind (omega arith), lt-ltb direct_kind x.kind l)

  -- 8, 17 or 18
  pub unplaced_words_lem : (table : List ℕ) {s : Section} → Words x s → unplaced_words table x ≡ names_some (λ m. eqb (entry table m) 0) s
  unfolding unplaced_words
  unplaced_words_lem table w = named_words (λ m. eqb (entry table m) 0) w

  -- only a reference names one
  pub named_kind : (test : ℕ → Bool) {s : Section} → Words x s → names_some test s ≡ true → direct_kind ≤ x.kind
  named_kind test (mark_words f) h = absurd (true≢false (sym h))
  named_kind test (ops_words f l bs d) h = absurd (true≢false (sym h))
  named_kind test (data_words f l bs d) h = absurd (true≢false (sym h))
  named_kind test (direct_words f s p g) h = omega arith
  named_kind test (delta_words l s p g) h = omega arith

  -- which mark a reference misses
  pub missing_words_lem : (is_placed : ℕ → Bool) {s : Section} → Words x s → direct_kind ≤ x.kind → missing_words (is_placed x.first) x ≡ missing_in is_placed s
  unfolding missing_words
  missing_words_lem is_placed (mark_words f) l = absurd (omega arith)
  missing_words_lem is_placed (ops_words f h bs d) l = absurd (omega arith)
  missing_words_lem is_placed (data_words f h bs d) l = absurd (omega arith)
  missing_words_lem is_placed (direct_words f s p g) l = rw (eq-eqb x.kind direct_kind f)
  missing_words_lem is_placed (delta_words h s p g) l = rw (ne_eqb x.kind direct_kind (λ e. omega arith))

  -- 12
  pub backward_words_lem : (table : List ℕ) {s : Section} → Words x s → backward_words table x ≡ refers (backward_by table) s
  unfolding backward_words
  backward_words_lem table (mark_words f) = rw f
  backward_words_lem table (ops_words f l bs d) = rw f
  backward_words_lem table (data_words f l bs d) = rw f
  backward_words_lem table (direct_words f s p g) = rw f
  backward_words_lem table (delta_words l s p g) = rw (lt-ltb direct_kind x.kind l)

  -- a delta, by its kind word
  pub delta_kind_lem : {s : Section} → Words x s → ltb direct_kind x.kind ≡ refers is_delta s
  delta_kind_lem (mark_words f) = rw f
  delta_kind_lem (ops_words f l bs d) = rw f
  delta_kind_lem (data_words f l bs d) = rw f
  delta_kind_lem (direct_words f s p g) = rw f
  delta_kind_lem (delta_words l s p g) = lt-ltb direct_kind x.kind l

  -- least sizes
  pub least_words_lem : {s : Section} → Words x s → (x.kind ≡ mark_kind → ⊥) → least_words x ≡ width_by least_size s
  unfolding least_words
  least_words_lem (mark_words f) n = absurd (n f)
  least_words_lem (ops_words f l bs d) n = rw f (sym d)
  least_words_lem (data_words f l bs d) n = rw f (sym d)
  least_words_lem (direct_words f s p g) n =
      rw (le-ltb x.kind direct_kind (omega arith)) (ap least_by_form g ∙ least_form (direct x.first s p))
  least_words_lem (delta_words l s p g) n =
      rw (le-ltb x.kind direct_kind (omega arith)) (ap least_by_form g ∙ least_form (delta x.first x.second s p))

  -- sizes by a table
  pub size_words_lem : (table : List ℕ) {s : Section} → Words x s → (x.kind ≡ mark_kind → ⊥) → size_words table x ≡ size_section (entry table) s
  unfolding size_words value_words
  size_words_lem table (mark_words f) n = absurd (n f)
  size_words_lem table (ops_words f l bs d) n = rw f (ap Some (sym d))
  size_words_lem table (data_words f l bs d) n = rw f (ap Some (sym d))
  size_words_lem table (direct_words f s p g) n =
      rw (le-ltb x.kind direct_kind (omega arith), eq-eqb x.kind direct_kind f, g)
      (size_form (direct x.first s p) (entry table x.first))
  size_words_lem table (delta_words l s p g) n =
      rw (le-ltb x.kind direct_kind (omega arith), ne_eqb x.kind direct_kind (λ e. omega arith), g)
      (size_form (delta x.first x.second s p) (entry table x.second - entry table x.first))

-- ---- marks in a table

-- where 7 doesn't hold, the marks are in the table
pub marks_in : (n : ℕ) (x : StoredSection) → short_words n x ≡ false → MarksIn n x
unfolding short_words
marks_in n x h =
    let parts = (both_false (leb n x.first && counts) (leb n x.second && ltb direct_kind x.kind)).0 h in
    record {
      placed = λ e. leb-false n x.first (and_false_left (leb n x.first) counts parts.0 (rw (eq-eqb x.kind mark_kind e)));
      first = λ l. leb-false n x.first (and_false_left (leb n x.first) counts parts.0 (later l));
      second = λ l. leb-false n x.second (and_false_left (leb n x.second) (ltb direct_kind x.kind) parts.1 (lt-ltb direct_kind x.kind l));
    }
  where
    counts : Bool
    counts = eqb x.kind mark_kind || ltb data_kind x.kind

    later : direct_kind ≤ x.kind → counts ≡ true
    later l = rw (ne_eqb x.kind mark_kind (λ e. omega arith), lt-ltb data_kind x.kind l)
