-- The bytes of a section that can be written, by its kind word: one law for each way that the code goes. Assumes nothing.
use Rattle.std.specs.Prelude.{Option, Some}
use Prim.Native.Nat.{ℕ, ◌+◌, ◌≤◌, ◌<◌}
use native.Mathlib.Omega.{arith}
use mathlib.Core.Path.{◌≡◌, refl, sym, ap, ◌∙◌}
use mathlib.Core.Bool.{Bool, true, false}
use mathlib.Core.List.{List, []}
use lib.Dec.{leb}
use lib.ListN.{length}
use borrow.Author.Tests.{le-leb, lt-leb, eq-eqb, ne_eqb}
use Rattle.units.specs.declared.RefSize.{RefSize}
use Rattle.records.specs.declared.record.AsmSection.{AsmSection}
use Rattle.units.specs.Form.{size_number, pushed_number, form_number}
use Rattle.units.specs.declared.AsmReference.{AsmReference}
use Rattle.units.proofs.Forms.{size_number_le, form_parts, count_form, zero_form}
use Rattle.records.specs.Record.{mark_kind, direct_kind, span, read_section, form_of}
use Rattle.records.specs.Damage.{unreadable}
use Rattle.records.specs.Sections.{section_read}
use Rattle.records.specs.declared.record.AsmSection.TheVariants.{MarkRef}
use Rattle.records.specs.declared.record.StoredSection.{StoredSection}
use Rattle.layout.specs.Passes.{entry, value_by}
use Rattle.settling.specs.SectionWalk.{value_words}
use Rattle.undamaged.specs.Section.{span_bytes, SpanIn, ReadIn}
use Rattle.undamaged.proofs.Reading.{direct, delta, Reads, is_damaged_lem, is_mark, is_ops_lem, is_data, is_direct, is_delta_lem, reads, mark_read, reference_read}
use Rattle.undamaged.proofs.Forms.{form_read}
use Rattle.undamaged.proofs.Sections.{can_read}
use Rattle.assembler.specs.Emission.{reference_bytes, section_bytes}
use Rattle.assembler.specs.Writing.{words_bytes, form_bytes, Writable, WritableReference}

-- ---- a reference by its form

-- the form says whether it is pushed
pushed_form : (r : AsmReference) → leb 8 (form_number r) ≡ r.pushed
pushed_form r = go r.set_size r.pushed
  where
    go : (s : Option RefSize) (p : Bool) → leb 8 (size_number s + pushed_number p) ≡ p
    go s true = le-leb 8 (size_number s + 8) (omega arith)
    go s false = lt-leb 8 (size_number s + 0) (omega (arith, size_number_le s))

-- its bytes are those of its form
form_bytes_lem : (r : AsmReference) (v : ℕ) → form_bytes (form_number r) v ≡ reference_bytes r v
unfolding form_bytes reference_bytes
form_bytes_lem r v = rw (zero_form r v, count_form r v, pushed_form r)

-- the value by the words is the reference's
value_read : (table : List ℕ) (x : StoredSection) (r : AsmReference) → read_section x ≡ Some (MarkRef r) → value_words table x ≡ value_by (entry table) r.mark_ref
unfolding value_words
value_read table x r e = go (reads x) e
  where
    by : (q : AsmReference) → Some (MarkRef q) ≡ Some (MarkRef r) → value_by (entry table) q.mark_ref ≡ value_by (entry table) r.mark_ref
    by q h = let same : q ≡ r = cc in ap (λ (p : AsmReference). value_by (entry table) p.mark_ref) same

    go : {v : Option AsmSection} → Reads x.kind x.first x.second v → v ≡ Some (MarkRef r) → value_words table x ≡ value_by (entry table) r.mark_ref
    go is_damaged_lem h = let z : ◌≡◌ {A = ℕ} 0 1 = cc in absurd (omega arith)
    go (is_mark f m) h = let z : ◌≡◌ {A = ℕ} 0 1 = cc in absurd (omega arith)
    go (is_ops_lem f l) h = let z : ◌≡◌ {A = ℕ} 0 1 = cc in absurd (omega arith)
    go (is_data f l) h = let z : ◌≡◌ {A = ℕ} 0 1 = cc in absurd (omega arith)
    go (is_direct f m s p g) h = rw (eq-eqb x.kind direct_kind f) (by (direct x.first s p) h)
    go (is_delta_lem l m n s p g) h = rw (ne_eqb x.kind direct_kind (λ q. omega arith)) (by (delta x.first x.second s p) h)

-- ---- a section by its kind word

module _ (table bytes : List ℕ) (x : StoredSection) (ok : Writable bytes table x) where
  readable : unreadable (read_section x) ≡ false
  readable = can_read (length bytes) (read_section x) ok.here

  -- the bytes of what it is read as
  bytes_of : (v : Option AsmSection) → read_section x ≡ v → words_bytes table bytes x ≡ section_bytes (entry table) (section_read bytes v)
  bytes_of v e = ap (λ (y : Option AsmSection). section_bytes (entry table) (section_read bytes y)) e

  pub bytes_mark : x.kind ≡ mark_kind → words_bytes table bytes x ≡ []
  bytes_mark k = bytes_of _ (mark_read (reads x) readable k)

  pub bytes_span : (x.kind ≡ mark_kind → ⊥) → x.kind < direct_kind
      → SpanIn (length bytes) (span x.first x.second) × (words_bytes table bytes x ≡ span_bytes bytes (span x.first x.second))
  bytes_span n l = go (reads x) ok.here refl
    where
      go : {v : Option AsmSection} → Reads x.kind x.first x.second v → ReadIn (length bytes) v → read_section x ≡ v
          → SpanIn (length bytes) (span x.first x.second) × (words_bytes table bytes x ≡ span_bytes bytes (span x.first x.second))
      go is_damaged_lem h e = absurd h
      go (is_mark f m) h e = absurd (n f)
      go (is_ops_lem f o) h e = (h, bytes_of _ e)
      go (is_data f o) h e = (h, bytes_of _ e)
      go (is_direct f m s p g) h e = absurd (omega arith)
      go (is_delta_lem o m q s p g) h e = absurd (omega arith)

  pub bytes_reference : direct_kind ≤ x.kind → WritableReference table x × (words_bytes table bytes x ≡ form_bytes (form_of x) (value_words table x))
  bytes_reference k =
      let found = reference_read (reads x) readable k in
      let r : AsmReference = found.0 in
      let e : read_section x ≡ Some (MarkRef r) = found.1 in
      let form : form_of x ≡ form_number r = form_read x r e in (
        record {
          kind = k;
          marks = ok.marks;
          forward = ok.forward;
          size = rw form (omega (arith, (form_parts r.set_size r.pushed).0, size_number_le r.set_size));
        },
        bytes_of _ e ∙ rw (form, value_read table x r e) (sym (form_bytes_lem r _)),
      )
