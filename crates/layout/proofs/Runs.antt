-- Runs over sections, and the one comparison of two of them. The start, a pass and a layout are runs: at a mark the sum so far is its
-- offset, a block has its length, a reference a width that its rule allows for its value by the offsets as they are then. Of two runs
-- over the same sections, the one that starts below stays below, in offsets and in the gaps between them. Assumes nothing.
use Prim.Native.Nat.{ℕ, ◌+◌, ◌-◌, ◌≤◌}
use native.Mathlib.Omega.{arith}
use mathlib.Core.Path.{◌≡◌, refl, sym}
use mathlib.Core.Bool.{Bool, true, false, ◌||◌, false≢true}
use mathlib.Core.List.{List, [], ◌∷◌}
use lib.Dec.{eqb}
use lib.ListN.{length}
use borrow.Author.Tests.{eqb-true, eqb-false}
use Rattle.units.specs.declared.MarkReference.{MarkReference}
use Rattle.units.specs.declared.MarkReference.TheVariants.{Direct, Delta}
use Rattle.units.specs.declared.AsmReference.{AsmReference}
use Rattle.records.specs.Sections.{Section, mark, ops, bytes, reference}
use Rattle.layout.specs.Passes.{value_by}

-- the width that a reference may have for a value
abbrev pub Allows : Type 1
Allows = AsmReference → ℕ → ℕ → Type 0

-- mark m is put at s, the others stay
abbrev pub Put : (ℕ → ℕ) → ℕ → ℕ → (ℕ → ℕ) → Type 0
Put t m s t' = (t' m ≡ s) × ((a : ℕ) → (a ≡ m → ⊥) → t' a ≡ t a)

-- a run from sum s and offsets t to sum e and offsets u
abbrev pub Run : Allows → List Section → ℕ → (ℕ → ℕ) → ℕ → (ℕ → ℕ) → Type 0
Run z [] s t e u = (e ≡ s) × ((a : ℕ) → u a ≡ t a)
Run z (mark m ∷ ss) s t e u = (t' : ℕ → ℕ) × Put t m s t' × Run z ss s t' e u
Run z (ops bs ∷ ss) s t e u = Run z ss (s + length bs) t e u
Run z (bytes bs ∷ ss) s t e u = Run z ss (s + length bs) t e u
Run z (reference r ∷ ss) s t e u = (w : ℕ) × z r (value_by t r.mark_ref) w × Run z ss (s + w) t e u

-- the marks passed, after one more
abbrev pub pass_mark : (ℕ → Bool) → ℕ → ℕ → Bool
pass_mark p m a = eqb a m || p a

-- the marks passed after a list of sections
abbrev pub after : List Section → (ℕ → Bool) → ℕ → Bool
after [] p = p
after (mark m ∷ ss) p = after ss (pass_mark p m)
after (ops bs ∷ ss) p = after ss p
after (bytes bs ∷ ss) p = after ss p
after (reference r ∷ ss) p = after ss p

-- a delta doesn't stand between its marks: both are passed or both ahead; and both are of one kind (placed, or not)
abbrev pub TameRef : (ℕ → Bool) → (ℕ → Bool) → MarkReference → Type 0
TameRef c p (Direct m) = Unit {0}
TameRef c p (Delta d) = (c d.start.0 ≡ c d.end.0) × (p d.start.0 ≡ p d.end.0)

-- so of every reference of a list
abbrev pub Tame : (ℕ → Bool) → (ℕ → Bool) → List Section → Type 0
Tame c p [] = Unit {0}
Tame c p (mark m ∷ ss) = Tame c (pass_mark p m) ss
Tame c p (ops bs ∷ ss) = Tame c p ss
Tame c p (bytes bs ∷ ss) = Tame c p ss
Tame c p (reference r ∷ ss) = TameRef c p r.mark_ref × Tame c p ss

-- the order on offsets and gaps, for marks of one kind
pub record Order (c : ℕ → Bool) (t u : ℕ → ℕ) : Type 0 where
  pub marks : (a : ℕ) → t a ≤ u a
  pub gaps : (a b : ℕ) → c a ≡ c b → t b - t a ≤ u b - u a

-- the order along two runs: also the sums, and from each mark passed to the sum
pub record Below (c p : ℕ → Bool) (s : ℕ) (t : ℕ → ℕ) (s' : ℕ) (u : ℕ → ℕ) : Type 0 where
  pub sums : s ≤ s'
  pub marks : (a : ℕ) → t a ≤ u a
  pub gaps : (a b : ℕ) → c a ≡ c b → p a ≡ p b → t b - t a ≤ u b - u a
  pub passed : (a : ℕ) → p a ≡ true → (t a ≤ s) × (s + u a ≤ t a + s')

-- no mark passed yet
abbrev pub none : ℕ → Bool
none a = false

-- the order, before a run
pub below_start : {c : ℕ → Bool} {t u : ℕ → ℕ} → Order c t u → Below c none 0 t 0 u
below_start o = record { sums = omega arith; marks = o.marks; gaps = λ a b k _. o.gaps a b k; passed = λ a h. absurd (false≢true h) }

-- where all marks of a kind are passed or none is, the order along the runs is the order
pub below_end : {c : ℕ → Bool} {s s' : ℕ} {t u : ℕ → ℕ} → Below c c s t s' u → Order c t u
below_end b = record { marks = b.marks; gaps = λ x y k. b.gaps x y k k }

-- after a block, or a reference, that is no wider in the lower run
pub below_on : {c p : ℕ → Bool} {s s' : ℕ} {t u : ℕ → ℕ} (w w' : ℕ) → w ≤ w' → Below c p s t s' u → Below c p (s + w) t (s' + w') u
below_on {s = s} {s' = s'} {t = t} {u = u} w w' h b = record {
  sums = omega (arith, b.sums);
  marks = b.marks;
  gaps = b.gaps;
  passed = λ a k. let q : (t a ≤ s) × (s + u a ≤ t a + s') = b.passed a k in (omega arith, omega arith);
}

-- after a mark
module _ {c p : ℕ → Bool} {s s' m : ℕ} {t u t' u' : ℕ → ℕ} (b : Below c p s t s' u) (x : Put t m s t') (y : Put u m s' u') where
  -- the offsets
  mark_marks : (a : ℕ) → t' a ≤ u' a
  mark_marks a = go (eqb a m) refl
    where
      go : (q : Bool) → eqb a m ≡ q → t' a ≤ u' a
      go true e =
          let k : a ≡ m = eqb-true a m e in
          rw k (omega (arith, x.0, y.0, b.sums))
      go false e = omega (arith, x.1 a (eqb-false a m e), y.1 a (eqb-false a m e), b.marks a)

  -- the marks passed, this one too
  mark_passed : (a : ℕ) → pass_mark p m a ≡ true → (t' a ≤ s) × (s + u' a ≤ t' a + s')
  mark_passed a = go (eqb a m) refl
    where
      go : (q : Bool) → eqb a m ≡ q → (q || p a) ≡ true → (t' a ≤ s) × (s + u' a ≤ t' a + s')
      go true e h =
          let k : a ≡ m = eqb-true a m e in
          rw k (omega (arith, x.0, y.0))
      go false e h =
          let q : (t a ≤ s) × (s + u a ≤ t a + s') = b.passed a h in
          omega (arith, x.1 a (eqb-false a m e), y.1 a (eqb-false a m e))

  -- the gaps
  mark_gaps : (a d : ℕ) → c a ≡ c d → pass_mark p m a ≡ pass_mark p m d → t' d - t' a ≤ u' d - u' a
  mark_gaps a d k = go (eqb a m) (eqb d m) refl refl
    where
      go : (q q' : Bool) → eqb a m ≡ q → eqb d m ≡ q' → (q || p a) ≡ (q' || p d) → t' d - t' a ≤ u' d - u' a
      go true true e e' h =
          let l : a ≡ m = eqb-true a m e in
          let l' : d ≡ m = eqb-true d m e' in
          rw (l, l') (omega arith)
      go true false e e' h =
          let l : a ≡ m = eqb-true a m e in
          let n : (t d ≤ s) × (s + u d ≤ t d + s') = b.passed d (sym h) in
          let f : t' d ≡ t d = x.1 d (eqb-false d m e') in
          rw l (omega (arith, x.0))
      go false true e e' h =
          let l : d ≡ m = eqb-true d m e' in
          let n : (t a ≤ s) × (s + u a ≤ t a + s') = b.passed a h in
          let f : t' a ≡ t a = x.1 a (eqb-false a m e) in
          let g : u' a ≡ u a = y.1 a (eqb-false a m e) in
          rw l (omega (arith, x.0, y.0))
      go false false e e' h =
          let n : t d - t a ≤ u d - u a = b.gaps a d k h in
          let f : t' a ≡ t a = x.1 a (eqb-false a m e) in
          let g : u' a ≡ u a = y.1 a (eqb-false a m e) in
          let i : t' d ≡ t d = x.1 d (eqb-false d m e') in
          let j : u' d ≡ u d = y.1 d (eqb-false d m e') in
          rw (f, g, i, j) n

  -- all of it
  pub below_mark : Below c (pass_mark p m) s t' s' u'
  below_mark = record { sums = b.sums; marks = mark_marks; gaps = mark_gaps; passed = mark_passed }

-- a tame reference's value is no greater in the lower run
pub value_le : {c p : ℕ → Bool} {s s' : ℕ} {t u : ℕ → ℕ} (r : MarkReference) → TameRef c p r → Below c p s t s' u → value_by t r ≤ value_by u r
value_le (Direct m) k b = b.marks m.0
value_le (Delta d) k b = b.gaps d.start.0 d.end.0 k.0 k.1

-- whatever the first rule allows for a value is no wider than what the second allows for a value at least as great
abbrev pub Narrower : Allows → Allows → Type 0
Narrower x y = (r : AsmReference) (v v' w w' : ℕ) → v ≤ v' → x r v w → y r v' w' → w ≤ w'

-- the same sums and offsets
below_same : {c p : ℕ → Bool} {s s' e e' : ℕ} {t u t₁ u₁ : ℕ → ℕ} → Below c p s t s' u → e ≡ s → e' ≡ s'
    → ((a : ℕ) → t₁ a ≡ t a) → ((a : ℕ) → u₁ a ≡ u a) → Below c p e t₁ e' u₁
below_same {s = s} {s' = s'} {t = t} {u = u} b k k' f g = record {
  sums = omega (arith, b.sums);
  marks = λ a. omega (arith, f a, g a, b.marks a);
  gaps = λ a d i j. rw (f a, f d, g a, g d) (b.gaps a d i j);
  passed = λ a h. let q : (t a ≤ s) × (s + u a ≤ t a + s') = b.passed a h in omega (arith, f a, g a);
}

-- what comparing two runs gives: the lower stays below, and adds no more to its sum
pub record Compared (c p : ℕ → Bool) (s s' e : ℕ) (t : ℕ → ℕ) (e' : ℕ) (u : ℕ → ℕ) : Type 0 where
  pub below : Below c p e t e' u
  pub added : e + s' ≤ e' + s

-- one more width, no wider in the lower run, before what is compared
widened : {c p : ℕ → Bool} (s s' : ℕ) {e e' : ℕ} {t u : ℕ → ℕ} (w w' : ℕ) → w ≤ w' → Compared c p (s + w) (s' + w') e t e' u → Compared c p s s' e t e' u
widened s s' w w' h q = record { below = q.below; added = omega (arith, q.added) }

-- so of a reference in both runs, whose value is tame
pub width_le : {c p : ℕ → Bool} {x y : Allows} {s s' : ℕ} {t u : ℕ → ℕ} → Narrower x y → (r : AsmReference) → TameRef c p r.mark_ref → Below c p s t s' u
    → (w w' : ℕ) → x r (value_by t r.mark_ref) w → y r (value_by u r.mark_ref) w' → w ≤ w'
width_le {t = t} {u = u} n r k b w w' f g = n r (value_by t r.mark_ref) (value_by u r.mark_ref) w w' (value_le r.mark_ref k b) f g

-- the comparison: the lower run stays below, and adds no more to its sum
pub compare : {c : ℕ → Bool} {x y : Allows} → Narrower x y → (ss : List Section) {p : ℕ → Bool} {s s' e e' : ℕ} {t u t₁ u₁ : ℕ → ℕ}
    → Tame c p ss → Below c p s t s' u → Run x ss s t e t₁ → Run y ss s' u e' u₁
    → Compared c (after ss p) s s' e t₁ e' u₁
compare n [] k b f g = record { below = below_same b f.0 g.0 f.1 g.1; added = omega (arith, f.0, g.0) }
compare n (mark m ∷ ss) k b f g = compare n ss k (below_mark b f.1 g.1) f.2 g.2
compare n (ops bs ∷ ss) {s = s} {s' = s'} k b f g =
    widened s s' (length bs) (length bs) (omega arith) (compare n ss k (below_on (length bs) (length bs) (omega arith) b) f g)
compare n (bytes bs ∷ ss) {s = s} {s' = s'} k b f g =
    widened s s' (length bs) (length bs) (omega arith) (compare n ss k (below_on (length bs) (length bs) (omega arith) b) f g)
compare n (reference r ∷ ss) {s = s} {s' = s'} k b f g =
    let h : f.0 ≤ g.0 = width_le n r k.0 b f.0 g.0 f.1 g.1 in
    widened s s' f.0 g.0 h (compare n ss k.1 (below_on f.0 g.0 h b) f.2 g.2)
