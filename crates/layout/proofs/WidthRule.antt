-- Document 01's width rule as a rule of the theory, and that a size with room holds its value below 2^32. Assumes nothing.
use Rattle.std.specs.Prelude.{None, Option, Some}
use Prim.Native.Nat.{ℕ, ◌+◌, ◌-◌, ◌^◌, ◌≤◌, ◌<◌}
use native.Mathlib.Omega.{arith}
use native.Mathlib.Nat.{lt_of_lt_of_le}
use native.Mathlib.Decide.{ℕ_discrete}
use mathlib.Core.Path.{◌≡◌, refl}
use mathlib.Core.Bool.{Bool, true, false, cond}
use mathlib.Core.Logic.{inl, inr}
use lib.Dec.{eqb}
use borrow.Author.Tests.{eqb-true, eqb-false, ltb-false, le-ltb}
use Rattle.units.specs.declared.RefSize.{RefSize}
use Rattle.units.specs.Numbers.{held_bytes}
use Rattle.units.specs.Reference.{ref_size_bytes, least, width, narrow, least_size, size, too_narrow}
use Rattle.units.specs.declared.AsmReference.{AsmReference}
use Rattle.units.proofs.Held.{held_1, held_2, held_3, held_4, held_le, by_range, held_power}
use Rattle.units.proofs.BigEndian.{pow256_mono}
use Rattle.units.proofs.Forms.{ref_size_pos, ref_size_le}
use Rattle.layout.specs.Layout.{HoldsIn}
use Rattle.layout.proofs.Rule.{Rule}

-- how much wider than its least size a reference may become: unsized pushed 4, unsized raw 3
abbrev pub growth : Option RefSize → Bool → ℕ
growth (Some s) p = 0
growth None true = 4
growth None false = 3

-- while its value grows by no more than the reach, one byte
abbrev pub step : Option RefSize → ℕ
step (Some s) = 0
step None = 1

-- from one bound of the held bytes, 256, to the next, 65,536
abbrev pub reach : ℕ
reach = 65280

-- held bytes below each of the bounds
abbrev Ranges : ℕ → Type 0
Ranges v = (1 ≤ held_bytes v) × (v < 256 → held_bytes v ≤ 1) × (v < 65536 → held_bytes v ≤ 2) × (v < 16777216 → held_bytes v ≤ 3)

-- on each of the four ranges
ranges : (v : ℕ) → Ranges v
ranges v =
    by_range
    (λ (x : ℕ). Ranges x)
    v
    (λ h. omega (arith, held_1 v h))
    (λ l h. omega (arith, held_2 v l h))
    (λ l h. omega (arith, held_3 v l h))
    (λ l. omega (arith, held_4 v l))

-- a greater value is held in no fewer bytes
pub held_grows : (v v' : ℕ) → v ≤ v' → held_bytes v ≤ held_bytes v'
held_grows v v' l =
    by_range
    (λ (x : ℕ). v ≤ x → held_bytes v ≤ held_bytes x)
    v'
    (λ h k. omega (arith, held_1 v' h, (ranges v).1 (omega arith)))
    (λ g h k. omega (arith, held_2 v' g h, (ranges v).2 (omega arith)))
    (λ g h k. omega (arith, held_3 v' g h, (ranges v).3 (omega arith)))
    (λ g k. omega (arith, held_4 v' g, held_le v))
    l

-- a value at most the reach greater is held in at most one byte more
held_step : (v v' : ℕ) → v' ≤ v + reach → held_bytes v' ≤ held_bytes v + 1
held_step v v' l =
    by_range
    (λ (x : ℕ). v' ≤ x + reach → held_bytes v' ≤ held_bytes x + 1)
    v
    (λ h k. omega (arith, held_1 v h, (ranges v').2 (omega arith)))
    (λ g h k. omega (arith, held_2 v g h, (ranges v').3 (omega arith)))
    (λ g h k. omega (arith, held_3 v g h, held_le v'))
    (λ g k. omega (arith, held_4 v g, held_le v'))
    l

-- ---- the laws of the rule, on a set size and whether the reference is pushed

-- the size grows with the value
width_grows : (z : Option RefSize) (p : Bool) (v v' : ℕ) → v ≤ v' → width z p v ≤ width z p v'
width_grows (Some s) p v v' l = omega arith
width_grows None false v v' l = held_grows v v' l
width_grows None true v v' l = go (eqb v 0) (eqb v' 0) refl refl
  where
    go : (q q' : Bool) → eqb v 0 ≡ q → eqb v' 0 ≡ q' → cond q 1 (held_bytes v + 1) ≤ cond q' 1 (held_bytes v' + 1)
    go true true e e' = omega arith
    go true false e e' = omega arith
    go false true e e' = absurd (eqb-false v 0 e (omega (arith, eqb-true v' 0 e')))
    go false false e e' = omega (arith, held_grows v v' l)

-- it is at least the least size
width_least : (z : Option RefSize) (p : Bool) (v : ℕ) → least z p ≤ width z p v
width_least (Some s) p v = omega arith
width_least None false v = (ranges v).0
width_least None true v = go (eqb v 0)
  where
    go : (q : Bool) → 1 ≤ cond q 1 (held_bytes v + 1)
    go true = omega arith
    go false = omega arith

-- and at most that and the growth
width_most : (z : Option RefSize) (p : Bool) (v : ℕ) → width z p v ≤ least z p + growth z p
width_most (Some s) p v = omega arith
width_most None false v = omega (arith, held_le v)
width_most None true v = go (eqb v 0)
  where
    go : (q : Bool) → cond q 1 (held_bytes v + 1) ≤ 1 + 4
    go true = omega arith
    go false = omega (arith, held_le v)

-- one step at most to a value that is 0 where the first is, and at most the reach greater
width_step : (z : Option RefSize) (p : Bool) (v v' : ℕ) → v' ≤ v + reach → (v ≡ 0 → v' ≡ 0) → width z p v' ≤ width z p v + step z
width_step (Some s) p v v' l z = omega arith
width_step None false v v' l z = held_step v v' l
width_step None true v v' l z = go (eqb v 0) (eqb v' 0) refl refl
  where
    go : (q q' : Bool) → eqb v 0 ≡ q → eqb v' 0 ≡ q' → cond q' 1 (held_bytes v' + 1) ≤ cond q 1 (held_bytes v + 1) + 1
    go true true e e' = omega arith
    go true false e e' = absurd (eqb-false v' 0 e' (z (eqb-true v 0 e)))
    go false true e e' = omega arith
    go false false e e' = omega (arith, held_step v v' l)

-- a step is part of the growth
pub step_growth : (z : Option RefSize) (p : Bool) → step z ≤ growth z p
step_growth (Some s) p = omega arith
step_growth None true = omega arith
step_growth None false = omega arith

-- at most five bytes
least_growth : (z : Option RefSize) (p : Bool) → least z p + growth z p ≤ 5
least_growth (Some s) true = omega (arith, ref_size_le s)
least_growth (Some s) false = omega (arith, ref_size_le s)
least_growth None true = omega arith
least_growth None false = omega arith

-- n bytes, 1 to 4, that hold a value are at least its held bytes
held_least : (n v : ℕ) → 1 ≤ n → n ≤ 4 → v < 256 ^ n → held_bytes v ≤ n
held_least n v l m h = (held_power n v l m (lt_of_lt_of_le h (pow256_mono m))).1 h

-- 'padded': a wider unsized reference, of at most 5 bytes if pushed and 4 if raw, holds the value too
pub padded_holds : (p : Bool) (v w w' : ℕ) → HoldsIn None p v w → w ≤ w' → w' ≤ 1 + growth None p → HoldsIn None p v w'
padded_holds false v w w' h l m = (omega (arith, h.0), m, lt_of_lt_of_le h.2 (pow256_mono l))
padded_holds true v w w' (inl k) l m = go (ℕ_discrete w' 1)
  where
    go : Dec (w' ≡ 1) → HoldsIn None true v w'
    go (yes e) = inl (e, k.1)
    go (no e) = inr (omega (arith, k.0), m, lt_of_lt_of_le (omega (arith, k.1)) (pow256_mono {i = 1} (omega (arith, k.0))))
padded_holds true v w w' (inr k) l m = inr (omega (arith, k.0), m, lt_of_lt_of_le k.2 (pow256_mono (omega arith)))

-- a width that holds a value is at least its size
holds_width : (z : Option RefSize) (p : Bool) (v w : ℕ) → HoldsIn z p v w → width z p v ≤ w
holds_width (Some s) p v w h = omega (arith, h.0)
holds_width None false v w h = held_least w v h.0 h.1 h.2
holds_width None true v w h = go (eqb v 0) refl h
  where
    go : (q : Bool) → eqb v 0 ≡ q → HoldsIn None true v w → cond q 1 (held_bytes v + 1) ≤ w
    go true e (inl k) = omega (arith, k.0)
    go true e (inr k) = omega (arith, k.0)
    go false e (inl k) = absurd (eqb-false v 0 e k.1)
    go false e (inr k) = omega (arith, k.0, held_least (w - 1) v (omega (arith, k.0)) (omega (arith, k.1)) k.2)

-- a set size that holds a value has room for every lesser one
holds_room : (z : Option RefSize) (p : Bool) (v v' w : ℕ) → v ≤ v' → HoldsIn z p v' w → narrow z v ≡ false
holds_room (Some s) p v v' w l h =
    let k : held_bytes v' ≤ ref_size_bytes s = held_least (ref_size_bytes s) v' (ref_size_pos s) (ref_size_le s) h.1 in
    le-ltb (ref_size_bytes s) (held_bytes v) (omega (arith, held_grows v v' l))
holds_room None p v v' w l h = refl

-- the size holds a value below 2^32 that it has room for
width_holds : (z : Option RefSize) (p : Bool) (v : ℕ) → v < 2 ^ 32 → narrow z v ≡ false → HoldsIn z p v (width z p v)
width_holds (Some s) p v b h = (refl, (held_power (ref_size_bytes s) v (ref_size_pos s) (ref_size_le s) b).0 (ltb-false (ref_size_bytes s) (held_bytes v) h))
width_holds None false v b h = ((ranges v).0, held_le v, (held_power (held_bytes v) v (ranges v).0 (held_le v) b).0 (omega arith))
width_holds None true v b h = go (eqb v 0) refl
  where
    go : (q : Bool) → eqb v 0 ≡ q → HoldsIn None true v (cond q 1 (held_bytes v + 1))
    go true e = inl (refl, eqb-true v 0 e)
    go false e =
        let k : held_bytes v + 1 - 1 ≡ held_bytes v = omega arith in
        inr (omega (arith, (ranges v).0), omega (arith, held_le v), rw k ((held_power (held_bytes v) v (ranges v).0 (held_le v) b).0 (omega arith)))

-- ---- the rule

module _ (r : AsmReference) where
  -- the same of a reference: it grows
  pub size_grows : (v v' : ℕ) → v ≤ v' → size r v ≤ size r v'
  unfolding size
  size_grows = width_grows r.set_size r.pushed

  -- at least the least
  pub size_least : (v : ℕ) → least_size r ≤ size r v
  unfolding size least_size
  size_least = width_least r.set_size r.pushed

  -- at most the least and the growth
  pub size_most : (v : ℕ) → size r v ≤ least_size r + growth r.set_size r.pushed
  unfolding size least_size
  size_most = width_most r.set_size r.pushed

  -- one step at most to a value within the reach that is 0 where the first is
  pub size_step : (v v' : ℕ) → v' ≤ v + reach → (v ≡ 0 → v' ≡ 0) → size r v' ≤ size r v + step r.set_size
  unfolding size
  size_step = width_step r.set_size r.pushed

  -- at most any width that holds the value
  pub holds_size : (v w : ℕ) → HoldsIn r.set_size r.pushed v w → size r v ≤ w
  unfolding size
  holds_size = holds_width r.set_size r.pushed

  -- with room for every value up to one that is held
  pub holds_fits : (v v' w : ℕ) → v ≤ v' → HoldsIn r.set_size r.pushed v' w → too_narrow r v ≡ false
  unfolding too_narrow
  holds_fits = holds_room r.set_size r.pushed

  -- the size holds a value below 2^32 that it has room for
  pub size_holds : (v : ℕ) → v < 2 ^ 32 → too_narrow r v ≡ false → HoldsIn r.set_size r.pushed v (size r v)
  unfolding size too_narrow
  size_holds = width_holds r.set_size r.pushed

  -- at most five bytes
  pub size_five : least_size r + growth r.set_size r.pushed ≤ 5
  unfolding least_size
  size_five = least_growth r.set_size r.pushed

-- a least size is at least 1
pub least_pos : (r : AsmReference) → 1 ≤ least_size r
unfolding least_size
least_pos r = go r.set_size r.pushed
  where
    go : (z : Option RefSize) (p : Bool) → 1 ≤ least z p
    go (Some s) p = omega (arith, ref_size_pos s)
    go None p = omega arith

-- the rule
abbrev pub width_rule : Rule
width_rule =
    record {
      least = least_size;
      size = size;
      growth = λ r. growth r.set_size r.pushed;
      step = λ r. step r.set_size;
      reach = reach;
      Fits = λ r v. too_narrow r v ≡ false;
      Holds = λ r v w. HoldsIn r.set_size r.pushed v w;
      grows = size_grows;
      at_least = size_least;
      at_most = size_most;
      least_pos = least_pos;
      step_growth = λ r. step_growth r.set_size r.pushed;
      at_step = size_step;
      size_least = holds_size;
      fits_below = holds_fits;
    }
