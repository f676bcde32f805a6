-- The width rule by the form: of a reference's form it is the reference's. Assumes nothing.
use Rattle.std.specs.Prelude.{None, Option, Some}
use Prim.Native.Nat.{ℕ, ◌+◌, ◌%◌, ◌/◌, ◌≤◌}
use native.Mathlib.Omega.{arith}
use native.Mathlib.Nat.{add-zero}
use mathlib.Core.Path.{◌≡◌, refl}
use mathlib.Core.Bool.{Bool, true, false, cond}
use lib.Dec.{eqb, ltb}
use borrow.Author.Tests.{eqb-true, ne_eqb}
use Rattle.units.specs.Numbers.{held_bytes}
use Rattle.units.specs.Reference.{ref_size_bytes, op_bytes, least_size, size, too_narrow, size_for, byte_count, is_push_zero}
use Rattle.units.specs.Form.{size_number, pushed_number, form_number, least_by_form, count_by_form, push_zero_by_form, size_by_form}
use Rattle.units.specs.declared.RefSize.{RefSize}
use Rattle.units.specs.declared.RefSize.TheVariants.{S1, S2, S3, S4}
use Rattle.units.specs.declared.AsmReference.{AsmReference}

-- a set size is 1 to 4
pub ref_size_pos : (s : RefSize) → 1 ≤ ref_size_bytes s
ref_size_pos S1 = omega arith
ref_size_pos S2 = omega arith
ref_size_pos S3 = omega arith
ref_size_pos S4 = omega arith

pub ref_size_le : (s : RefSize) → ref_size_bytes s ≤ 4
ref_size_le S1 = omega arith
ref_size_le S2 = omega arith
ref_size_le S3 = omega arith
ref_size_le S4 = omega arith

-- or 0, unsized
pub size_number_le : (s : Option RefSize) → size_number s ≤ 4
size_number_le None = omega arith
size_number_le (Some s) = ref_size_le s

-- a form is a set size, and whether it is pushed
pub form_parts : (s : Option RefSize) (p : Bool) → ((size_number s + pushed_number p) % 8 ≡ size_number s) × ((size_number s + pushed_number p) / 8 ≡ op_bytes p)
form_parts None true = (refl, refl)
form_parts None false = (refl, refl)
form_parts (Some S1) true = (refl, refl)
form_parts (Some S1) false = (refl, refl)
form_parts (Some S2) true = (refl, refl)
form_parts (Some S2) false = (refl, refl)
form_parts (Some S3) true = (refl, refl)
form_parts (Some S3) false = (refl, refl)
form_parts (Some S4) true = (refl, refl)
form_parts (Some S4) false = (refl, refl)

-- a set size isn't 0
not_zero : (s : RefSize) → eqb (ref_size_bytes s) 0 ≡ false
not_zero s = ne_eqb (ref_size_bytes s) 0 (λ e. omega (arith, ref_size_pos s))

module _ (r : AsmReference) where
  -- the parts of its form
  abbrev parts : (form_number r % 8 ≡ size_number r.set_size) × (form_number r / 8 ≡ op_bytes r.pushed)
  parts = form_parts r.set_size r.pushed

  -- the least size
  pub least_form : least_by_form (form_number r) ≡ least_size r
  unfolding least_by_form least_size
  least_form = rw (parts.0, parts.1) (go r.set_size refl)
    where
      go : (s : Option RefSize) → r.set_size ≡ s → cond (eqb (size_number r.set_size) 0) 1 (size_number r.set_size + op_bytes r.pushed) ≡ least_size r
      go None e = rw e
      go (Some s) e = rw (e, not_zero s)

  module _ (v : ℕ) where
    -- the bytes that a value is written in
    pub count_form : count_by_form (form_number r) v ≡ byte_count r.set_size v
    unfolding count_by_form
    count_form = rw parts.0 (go r.set_size)
      where
        go : (s : Option RefSize) → cond (eqb (size_number s) 0) (held_bytes v) (size_number s) ≡ byte_count s v
        go None = refl
        go (Some s) = rw (not_zero s)

    -- PUSH0
    pub zero_form : push_zero_by_form (form_number r) v ≡ is_push_zero r.set_size r.pushed v
    unfolding push_zero_by_form
    zero_form = go r.set_size r.pushed
      where
        go : (s : Option RefSize) (p : Bool) → push_zero_by_form (size_number s + pushed_number p) v ≡ is_push_zero s p v
        go None true = refl
        go None false = refl
        go (Some S1) true = refl
        go (Some S1) false = refl
        go (Some S2) true = refl
        go (Some S2) false = refl
        go (Some S3) true = refl
        go (Some S3) false = refl
        go (Some S4) true = refl
        go (Some S4) false = refl

    -- the size for a value
    pub size_form : size_by_form (form_number r) v ≡ size_for r v
    unfolding size_by_form size_for too_narrow size held_bytes
    size_form = rw (parts.0, parts.1) (go r.set_size refl r.pushed refl (eqb v 0) refl)
      where
        go : (s : Option RefSize) → r.set_size ≡ s → (p : Bool) → r.pushed ≡ p → (z : Bool) → eqb v 0 ≡ z
            → cond (eqb (size_number r.set_size) 0)
            (cond (eqb v 0) (Some 1) (Some (held_bytes v + op_bytes r.pushed)))
            (cond (ltb (size_number r.set_size) (held_bytes v)) None (Some (size_number r.set_size + op_bytes r.pushed)))
            ≡ size_for r v
        go None e true d true z = rw (e, d, z)
        go None e true d false z = rw (e, d, z)
        go None e false d true z = rw (e, d, eqb-true v 0 z)
        go None e false d false z = rw (e, d, z, add-zero)
        go (Some s) e p d b z = rw (e, not_zero s)

-- ---- what `size_for` tells

-- bytes
pub size_found : (r : AsmReference) (v n : ℕ) → size_for r v ≡ Some n → (too_narrow r v ≡ false) × (n ≡ size r v)
unfolding size_for
size_found r v n e = go (too_narrow r v) refl e
  where
    go : (q : Bool) → too_narrow r v ≡ q → cond q None (Some (size r v)) ≡ Some n → (too_narrow r v ≡ false) × (n ≡ size r v)
    go true h k = let z : ◌≡◌ {A = ℕ} 0 1 = cc in absurd (omega arith)
    go false h k = let s : n ≡ size r v = cc in (h, s)

-- or too narrow
pub narrow_found : (r : AsmReference) (v : ℕ) → size_for r v ≡ None → too_narrow r v ≡ true
unfolding size_for
narrow_found r v e = go (too_narrow r v) refl e
  where
    go : (q : Bool) → too_narrow r v ≡ q → cond q None (Some (size r v)) ≡ None → too_narrow r v ≡ true
    go true h k = h
    go false h k = let z : ◌≡◌ {A = ℕ} 0 1 = cc in absurd (omega arith)
