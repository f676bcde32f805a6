-- The form of a reference, from the words that it is read from. Assumes nothing.
use Rattle.std.specs.Prelude.{None, Option, Some}
use Prim.Native.Nat.{ℕ, ◌+◌, ◌-◌, ◌%◌, ◌≤◌}
use native.Mathlib.Omega.{arith}
use mathlib.Core.Path.{◌≡◌, refl, sym, ap, ◌∙◌}
use mathlib.Core.Bool.{Bool, true, false}
use lib.Dec.{leb}
use borrow.Author.Tests.{lt-ltb, le-ltb, le-leb, lt-leb, eq-eqb, ne_eqb}
use Rattle.units.specs.declared.RefSize.{RefSize}
use Rattle.records.specs.declared.record.AsmSection.{AsmSection}
use Rattle.units.specs.Form.{size_number, pushed_number, form_number}
use Rattle.units.specs.declared.RefSize.TheVariants.{S1, S2, S3, S4}
use Rattle.units.specs.declared.AsmReference.{AsmReference}
use Rattle.units.proofs.Forms.{size_number_le}
use Rattle.records.specs.Record.{direct_kind, pushed_delta_kind, raw_delta_kind, set_size_of, read_section, form_of}
use Rattle.records.specs.Damage.{unreadable}
use Rattle.records.specs.declared.record.AsmSection.TheVariants.{MarkRef}
use Rattle.records.specs.declared.record.StoredSection.{StoredSection}
use Rattle.undamaged.specs.Section.{reference_of}
use Rattle.undamaged.proofs.Reading.{direct, delta, Reads, is_damaged_lem, is_mark, is_ops_lem, is_data, is_direct, is_delta_lem, reads, reference_read}

-- the form in the words is the reference's
pub form_read : (x : StoredSection) (r : AsmReference) → read_section x ≡ Some (MarkRef r) → form_of x ≡ form_number r
unfolding form_of
form_read x r e = go (reads x) e
  where
    go : {v : Option AsmSection} → Reads x.kind x.first x.second v → v ≡ Some (MarkRef r) → form_of x ≡ form_number r
    go is_damaged_lem h = let z : ◌≡◌ {A = ℕ} 0 1 = cc in absurd (omega arith)
    go (is_mark f m) h = let z : ◌≡◌ {A = ℕ} 0 1 = cc in absurd (omega arith)
    go (is_ops_lem f l) h = let z : ◌≡◌ {A = ℕ} 0 1 = cc in absurd (omega arith)
    go (is_data f l) h = let z : ◌≡◌ {A = ℕ} 0 1 = cc in absurd (omega arith)
    go (is_direct f m s p g) h =
        let same : direct x.first s p ≡ r = cc in
        rw (eq-eqb x.kind direct_kind f) (g ∙ ap form_number same)
    go (is_delta_lem l m n s true g) h =
        let same : delta x.first x.second s true ≡ r = cc in
        let form : x.kind + 8 - pushed_delta_kind ≡ size_number s + 8 = omega arith in
        rw (ne_eqb x.kind direct_kind (λ q. omega arith), lt-ltb x.kind raw_delta_kind (omega (arith, size_number_le s))) (form ∙ ap form_number same)
    go (is_delta_lem l m n s false g) h =
        let same : delta x.first x.second s false ≡ r = cc in
        let form : x.kind - raw_delta_kind ≡ size_number s + 0 = omega arith in
        rw (ne_eqb x.kind direct_kind (λ q. omega arith), le-ltb x.kind raw_delta_kind (omega arith)) (form ∙ ap form_number same)

-- ---- a reference, put together from its words

-- a form says the set size and whether the reference is pushed
size_in : (s : Option RefSize) (p : Bool) → set_size_of ((size_number s + pushed_number p) % 8) ≡ s
unfolding set_size_of
size_in None true = refl
size_in None false = refl
size_in (Some S1) true = refl
size_in (Some S1) false = refl
size_in (Some S2) true = refl
size_in (Some S2) false = refl
size_in (Some S3) true = refl
size_in (Some S3) false = refl
size_in (Some S4) true = refl
size_in (Some S4) false = refl

pushed_in : (s : Option RefSize) (p : Bool) → leb 8 (size_number s + pushed_number p) ≡ p
pushed_in s true = le-leb 8 (size_number s + 8) (omega arith)
pushed_in s false = lt-leb 8 (size_number s + 0) (omega (arith, size_number_le s))

-- it is the reference that the words are read as
same_reference : (x : StoredSection) (r : AsmReference) → read_section x ≡ Some (MarkRef r) → r ≡ reference_of x
same_reference x r e = go (reads x) e
  where
    go : {v : Option AsmSection} → Reads x.kind x.first x.second v → v ≡ Some (MarkRef r) → r ≡ reference_of x
    go is_damaged_lem h = let z : ◌≡◌ {A = ℕ} 0 1 = cc in absurd (omega arith)
    go (is_mark f m) h = let z : ◌≡◌ {A = ℕ} 0 1 = cc in absurd (omega arith)
    go (is_ops_lem f l) h = let z : ◌≡◌ {A = ℕ} 0 1 = cc in absurd (omega arith)
    go (is_data f l) h = let z : ◌≡◌ {A = ℕ} 0 1 = cc in absurd (omega arith)
    go (is_direct f m s p g) h =
        let same : direct x.first s p ≡ r = cc in
        let form : form_of x ≡ size_number s + pushed_number p = form_read x r e ∙ sym (ap form_number same) in
        sym same ∙ rw (eq-eqb x.kind direct_kind f, form, size_in s p, pushed_in s p)
    go (is_delta_lem l m n s p g) h =
        let same : delta x.first x.second s p ≡ r = cc in
        let form : form_of x ≡ size_number s + pushed_number p = form_read x r e ∙ sym (ap form_number same) in
        sym same ∙ rw (ne_eqb x.kind direct_kind (λ q. omega arith), form, size_in s p, pushed_in s p)

pub reference_of_lem : (x : StoredSection) → direct_kind ≤ x.kind → unreadable (read_section x) ≡ false → read_section x ≡ Some (MarkRef (reference_of x))
reference_of_lem x k u =
    let found = reference_read (reads x) u k in
    found.1 ∙ ap (λ (r : AsmReference). Some (MarkRef r)) (same_reference x found.0 found.1)
