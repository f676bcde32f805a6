-- One section: what its three words can be read as, and that the words of a section are read back as it.
-- Assumes nothing.
use Rattle.std.specs.Prelude.{None, Option, Some}
use Prim.Native.Nat.{ℕ, zero, suc, ◌+◌, ◌-◌, ◌≤◌, ◌<◌}
use native.Mathlib.Omega.{arith}
use mathlib.Core.Path.{◌≡◌, refl, sym, ap, ◌∙◌}
use mathlib.Core.Bool.{Bool, true, false, ◌&&◌, true≢false, and-eq-true_iff as and-true}
use mathlib.Mathlib.Data.Bool.Basic.{or-eq-false-eq-eq-false-and-eq-false as or-false}
use mathlib.Core.List.{List}
use lib.Seq.{slice}
use lib.Dec.{leb, ltb, eqb}
use borrow.Author.Tests.{leb-true, ltb-true, ltb-false, eqb-true, eqb-false, le-leb, ne_eqb}
use Rattle.units.specs.declared.Span.{Span}
use Rattle.units.specs.declared.RefSize.{RefSize}
use Rattle.records.specs.declared.record.AsmSection.{AsmSection}
use Rattle.units.specs.declared.RefSize.TheVariants.{S1, S2, S3, S4}
use Rattle.units.specs.declared.MarkId.{MarkId}
use Rattle.units.specs.declared.MarkReference.{MarkReference}
use Rattle.units.specs.declared.MarkReference.TheVariants.{Direct, Delta}
use Rattle.units.specs.declared.AsmReference.{AsmReference}
use Rattle.records.specs.declared.record.AsmSection.TheVariants.{Mark, Ops, Data, MarkRef}
use Rattle.records.specs.declared.record.StoredSection.{StoredSection}
use Rattle.records.specs.Record.{max_mark, mark_kind, ops_kind, data_kind, direct_kind, pushed_delta_kind, raw_delta_kind, delta_kind, set_size_of, read_mark, span, read_span, read_direct, read_delta, read_section, words_of_ref}
use Rattle.units.specs.Form.{size_number, pushed_number}
use Rattle.records.specs.Damage.{unreadable, is_span}
use Rattle.records.specs.Sections.{ops, bytes, section_read}
use Rattle.slices.proofs.Tests.{cond_case}

-- ---- what three words can be read as

abbrev pub direct : ℕ → Option RefSize → Bool → AsmReference
direct a s p = record { mark_ref = Direct (record { 0 = a }); set_size = s; pushed = p }

abbrev pub delta : ℕ → ℕ → Option RefSize → Bool → AsmReference
delta a b s p =
    record { mark_ref = Delta (record { start = record { 0 = a }; end = record { 0 = b } }); set_size = s; pushed = p }

-- k, a and b are read as v: damaged, or by the kind k what a and b say
pub data Reads (k a b : ℕ) : Option AsmSection → Type 0 where
  is_damaged_lem : Reads k a b None
  is_mark : k ≡ mark_kind → a ≤ max_mark → Reads k a b (Some (Mark (record { 0 = a })))
  is_ops_lem : k ≡ ops_kind → a ≤ b → Reads k a b (Some (Ops (span a b)))
  is_data : k ≡ data_kind → a ≤ b → Reads k a b (Some (Data (span a b)))
  is_direct : k ≡ direct_kind → a ≤ max_mark → (s : Option RefSize) (p : Bool) → b ≡ size_number s + pushed_number p
      → Reads k a b (Some (MarkRef (direct a s p)))
  is_delta_lem : pushed_delta_kind ≤ k → a ≤ max_mark → b ≤ max_mark → (s : Option RefSize) (p : Bool) → k ≡ size_number s + delta_kind p
      → Reads k a b (Some (MarkRef (delta a b s p)))

-- a number from 0 to 4 that is read as a set size
number_back : (n : ℕ) → n ≤ 4 → size_number (set_size_of n) ≡ n
unfolding set_size_of
number_back zero l = refl
number_back (suc zero) l = refl
number_back (suc (suc zero)) l = refl
number_back (suc (suc (suc zero))) l = refl
number_back (suc (suc (suc (suc zero)))) l = refl
number_back (suc (suc (suc (suc (suc n))))) l = absurd (omega arith)

-- a direct reference, or damaged
reads_direct : (k a b : ℕ) → k ≡ direct_kind → Reads k a b (read_direct a b)
unfolding read_direct
reads_direct k a b e =
    cond_case (Reads k a b) (ltb max_mark a) _ _ (λ _. is_damaged_lem)
    (λ m. cond_case (Reads k a b) (leb b 4) _ _
    (λ l. is_direct e (ltb-false max_mark a m) (set_size_of b) false (omega (arith, number_back b (leb-true b 4 l))))
    (λ _. cond_case (Reads k a b) (leb 8 b && leb b 12) _ _
    (λ l.
    let both = (and-true _ _).0 l in
    let low : 8 ≤ b = leb-true 8 b both.0 in
    let four : b - 8 ≤ 4 = omega (arith, leb-true b 12 both.1) in
    is_direct e (ltb-false max_mark a m) (set_size_of (b - 8)) true (omega (arith, number_back (b - 8) four)))
    (λ _. is_damaged_lem)))

-- a delta, or damaged
reads_delta : (k a b n : ℕ) (p : Bool) → pushed_delta_kind ≤ k → n ≤ 4 → k ≡ n + delta_kind p → Reads k a b (read_delta n p a b)
unfolding read_delta
reads_delta k a b n p l m e =
    cond_case (Reads k a b) (leb a max_mark && leb b max_mark) _ _
    (λ t.
    let both = (and-true _ _).0 t in
    is_delta_lem l (leb-true a max_mark both.0) (leb-true b max_mark both.1) (set_size_of n) p (e ∙ ap (λ (x : ℕ). x + delta_kind p) (sym (number_back n m))))
    (λ _. is_damaged_lem)

-- every section is read so
pub reads : (r : StoredSection) → Reads r.kind r.first r.second (read_section r)
unfolding read_section read_mark read_span
reads r =
    let k = r.kind in
    let a = r.first in
    let b = r.second in
    cond_case (Reads k a b) (eqb k mark_kind) _ _
    (λ e. cond_case (Reads k a b) (leb a max_mark && eqb b 0) _ _
    (λ t. is_mark (eqb-true k mark_kind e) (leb-true a max_mark ((and-true _ _).0 t).0)) (λ _. is_damaged_lem))
    (λ n0. cond_case (Reads k a b) (eqb k ops_kind) _ _
    (λ e. cond_case (Reads k a b) (leb a b) _ _ (λ l. is_ops_lem (eqb-true k ops_kind e) (leb-true a b l)) (λ _. is_damaged_lem))
    (λ n1. cond_case (Reads k a b) (eqb k data_kind) _ _
    (λ e. cond_case (Reads k a b) (leb a b) _ _ (λ l. is_data (eqb-true k data_kind e) (leb-true a b l)) (λ _. is_damaged_lem))
    (λ n2. cond_case (Reads k a b) (eqb k direct_kind) _ _ (λ e. reads_direct k a b (eqb-true k direct_kind e))
    (λ n3.
    let four : pushed_delta_kind ≤ k = omega (arith, eqb-false k mark_kind n0, eqb-false k ops_kind n1, eqb-false k data_kind n2, eqb-false k direct_kind n3) in
    cond_case (Reads k a b) (ltb k raw_delta_kind) _ _
    (λ l. let m : k < raw_delta_kind = ltb-true k raw_delta_kind l in reads_delta k a b (k - pushed_delta_kind) true four (omega arith) (omega arith))
    (λ l. let m : raw_delta_kind ≤ k = ltb-false k raw_delta_kind l in cond_case (Reads k a b) (ltb k 14) _ _
    (λ u. let w : k < 14 = ltb-true k 14 u in reads_delta k a b (k - raw_delta_kind) false four (omega arith) (omega arith))
    (λ _. is_damaged_lem))))))

-- ---- a readable section, by its kind word

module _ {k a b : ℕ} where
  pub mark_read : {v : Option AsmSection} → Reads k a b v → unreadable v ≡ false → k ≡ mark_kind → v ≡ Some (Mark (record { 0 = a }))
  mark_read is_damaged_lem u e = absurd (true≢false u)
  mark_read (is_mark f m) u e = refl
  mark_read (is_ops_lem f l) u e = absurd (omega arith)
  mark_read (is_data f l) u e = absurd (omega arith)
  mark_read (is_direct f m s p g) u e = absurd (omega arith)
  mark_read (is_delta_lem l m n s p g) u e = absurd (omega arith)

  pub ops_read : {v : Option AsmSection} → Reads k a b v → unreadable v ≡ false → k ≡ ops_kind → v ≡ Some (Ops (span a b))
  ops_read is_damaged_lem u e = absurd (true≢false u)
  ops_read (is_mark f m) u e = absurd (omega arith)
  ops_read (is_ops_lem f l) u e = refl
  ops_read (is_data f l) u e = absurd (omega arith)
  ops_read (is_direct f m s p g) u e = absurd (omega arith)
  ops_read (is_delta_lem l m n s p g) u e = absurd (omega arith)

  pub data_read : {v : Option AsmSection} → Reads k a b v → unreadable v ≡ false → k ≡ data_kind → v ≡ Some (Data (span a b))
  data_read is_damaged_lem u e = absurd (true≢false u)
  data_read (is_mark f m) u e = absurd (omega arith)
  data_read (is_ops_lem f l) u e = absurd (omega arith)
  data_read (is_data f l) u e = refl
  data_read (is_direct f m s p g) u e = absurd (omega arith)
  data_read (is_delta_lem l m n s p g) u e = absurd (omega arith)

  -- the other kinds are references
  pub reference_read : {v : Option AsmSection} → Reads k a b v → unreadable v ≡ false → direct_kind ≤ k → (r : AsmReference) × (v ≡ Some (MarkRef r))
  reference_read is_damaged_lem u l = absurd (true≢false u)
  reference_read (is_mark f m) u l = absurd (omega arith)
  reference_read (is_ops_lem f o) u l = absurd (omega arith)
  reference_read (is_data f o) u l = absurd (omega arith)
  reference_read (is_direct f m s p g) u l = (_, refl)
  reference_read (is_delta_lem o m n s p g) u l = (_, refl)

-- the kinds Ops and Data are below 3
other_kind : (k : ℕ) → direct_kind ≤ k → is_span k ≡ false
other_kind k h = (or-false _ _).1 (ne_eqb k ops_kind (λ e. omega arith), ne_eqb k data_kind (λ e. omega arith))

-- the same, where only Ops and Data are told from the others
pub data View (k a b : ℕ) : Option AsmSection → Type 0 where
  unread : View k a b None
  as_ops_lem : k ≡ ops_kind → a ≤ b → View k a b (Some (Ops (span a b)))
  as_data_lem : k ≡ data_kind → a ≤ b → View k a b (Some (Data (span a b)))
  as_mark : is_span k ≡ false → (m : MarkId) → View k a b (Some (Mark m))
  as_reference : is_span k ≡ false → (r : AsmReference) → View k a b (Some (MarkRef r))

pub view : (r : StoredSection) → View r.kind r.first r.second (read_section r)
view r = go (reads r)
  where
    go : {k a b : ℕ} {v : Option AsmSection} → Reads k a b v → View k a b v
    go is_damaged_lem = unread
    go (is_mark e m) = as_mark (ap is_span e) _
    go (is_ops_lem e l) = as_ops_lem e l
    go (is_data e l) = as_data_lem e l
    go (is_direct e m s p f) = as_reference (ap is_span e) _
    go {k} (is_delta_lem l m n s p f) = as_reference (other_kind k (omega arith)) _

-- a readable Ops or Data section starts at or before its end
pub span_ordered : {k a b : ℕ} {v : Option AsmSection} → View k a b v → unreadable v ≡ false → is_span k ≡ true → a ≤ b
span_ordered unread u s = absurd (true≢false u)
span_ordered (as_ops_lem e l) u s = l
span_ordered (as_data_lem e l) u s = l
span_ordered (as_mark n m) u s = absurd (true≢false (sym s ∙ n))
span_ordered (as_reference n r) u s = absurd (true≢false (sym s ∙ n))

-- a section depends on no bytes but its own
pub same_bytes_lem : {k a b : ℕ} {v : Option AsmSection} (old new : List ℕ) → View k a b v → (is_span k ≡ true → slice a b new ≡ slice a b old) → section_read new v ≡ section_read old v
same_bytes_lem old new unread h = refl
same_bytes_lem old new (as_ops_lem e l) h = ap ops (h (ap is_span e))
same_bytes_lem old new (as_data_lem e l) h = ap bytes (h (ap is_span e))
same_bytes_lem old new (as_mark n m) h = refl
same_bytes_lem old new (as_reference n r) h = refl

-- ---- words that are read back

-- a start and an end are read back by the kinds Ops and Data
pub read_ops : (k a b : ℕ) → k ≡ ops_kind → a ≤ b → read_section (record { kind = k; first = a; second = b }) ≡ Some (Ops (span a b))
unfolding read_section read_span
read_ops k a b e l = rw (e, le-leb a b l)

-- the same for Data
pub read_data : (k a b : ℕ) → k ≡ data_kind → a ≤ b → read_section (record { kind = k; first = a; second = b }) ≡ Some (Data (span a b))
unfolding read_section read_span
read_data k a b e l = rw (e, le-leb a b l)

-- a direct reference is read back from its words
pub read_direct_lem : (m : MarkId) (s : Option RefSize) (p : Bool) → ltb max_mark m.0 ≡ false
    → read_section (words_of_ref (Direct m) s p) ≡ Some (MarkRef (record { mark_ref = Direct m; set_size = s; pushed = p }))
unfolding read_section read_direct set_size_of
read_direct_lem m None true e = rw e
read_direct_lem m None false e = rw e
read_direct_lem m (Some S1) true e = rw e
read_direct_lem m (Some S1) false e = rw e
read_direct_lem m (Some S2) true e = rw e
read_direct_lem m (Some S2) false e = rw e
read_direct_lem m (Some S3) true e = rw e
read_direct_lem m (Some S3) false e = rw e
read_direct_lem m (Some S4) true e = rw e
read_direct_lem m (Some S4) false e = rw e

-- and a delta
pub read_delta_lem : (d : Span MarkId) (s : Option RefSize) (p : Bool) → leb d.start.0 max_mark ≡ true → leb d.end.0 max_mark ≡ true
    → read_section (words_of_ref (Delta d) s p) ≡ Some (MarkRef (record { mark_ref = Delta d; set_size = s; pushed = p }))
unfolding read_section read_delta set_size_of
read_delta_lem d None true a b = rw (a, b)
read_delta_lem d None false a b = rw (a, b)
read_delta_lem d (Some S1) true a b = rw (a, b)
read_delta_lem d (Some S1) false a b = rw (a, b)
read_delta_lem d (Some S2) true a b = rw (a, b)
read_delta_lem d (Some S2) false a b = rw (a, b)
read_delta_lem d (Some S3) true a b = rw (a, b)
read_delta_lem d (Some S3) false a b = rw (a, b)
read_delta_lem d (Some S4) true a b = rw (a, b)
read_delta_lem d (Some S4) false a b = rw (a, b)

-- no reference is of the kind Ops or Data
pub reference_kind : (m : MarkReference) (s : Option RefSize) (p : Bool) → is_span (words_of_ref m s p).kind ≡ false
reference_kind (Direct m) s p = refl
reference_kind (Delta d) s true = other_kind (size_number s + pushed_delta_kind) (omega arith)
reference_kind (Delta d) s false = other_kind (size_number s + raw_delta_kind) (omega arith)
