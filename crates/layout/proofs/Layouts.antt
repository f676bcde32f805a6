-- Layouts that give enough are runs that stand still, and a pass that stood still is such a layout. Assumes nothing.
use Prim.Native.Nat.{ℕ, ◌+◌, ◌^◌, ◌≤◌, ◌<◌}
use native.Mathlib.Omega.{arith}
use mathlib.Core.Path.{◌≡◌, refl, subst}
use mathlib.Core.Bool.{Bool, true, false, ◌||◌, false≢true}
use mathlib.Core.List.{List, [], ◌∷◌, map}
use lib.Dec.{eqb}
use lib.ListN.{length}
use borrow.Author.Tests.{eqb-true}
use Rattle.units.specs.Reference.{size}
use Rattle.units.specs.declared.MarkReference.{MarkReference}
use Rattle.units.specs.declared.MarkReference.TheVariants.{Direct, Delta}
use Rattle.records.specs.Sections.{Section, mark, ops, bytes, reference}
use Rattle.layout.specs.Layout.{total, HasValue, HoldsIn, EnoughFrom}
use Rattle.layout.specs.Passes.{value_by, size_by}
use Rattle.layout.specs.Conditions.{placed}
use Rattle.layout.proofs.Runs.{Allows}
use Rattle.layout.proofs.Moves.{Still, still_run, run_least}
use Rattle.layout.proofs.Rule.{Sizes, Enough}
use Rattle.layout.proofs.WidthRule.{width_rule, size_holds}
use Rattle.layout.proofs.Walks.{All}

-- the value of a reference that has one is what the passes read
value_read : (offset : ℕ → ℕ) (r : MarkReference) (v : ℕ) → HasValue offset r v → v ≡ value_by offset r
value_read offset (Direct m) v h = h
value_read offset (Delta d) v h = omega arith

-- a layout that gives enough stands still
pub enough_still : (offset : ℕ → ℕ) (ss : List Section) (ws : List ℕ) (s e : ℕ) → EnoughFrom offset ss ws s → e ≡ s + total ws → Still (Enough width_rule) ss s offset e
unfolding total
enough_still offset [] [] s e h k = omega arith
enough_still offset [] (w ∷ ws) s e h k = absurd h
enough_still offset (x ∷ ss) [] s e h k = absurd h
enough_still offset (mark m ∷ ss) (w ∷ ws) s e h k =
    let a : s + w ≡ s = omega (arith, h.0.0) in
    (h.0.1, subst (λ (n : ℕ). Still (Enough width_rule) ss n offset e) a (enough_still offset ss ws (s + w) e h.1 (omega arith)))
enough_still offset (ops bs ∷ ss) (w ∷ ws) s e h k =
    subst (λ (n : ℕ). Still (Enough width_rule) ss (s + n) offset e) h.0 (enough_still offset ss ws (s + w) e h.1 (omega arith))
enough_still offset (bytes bs ∷ ss) (w ∷ ws) s e h k =
    subst (λ (n : ℕ). Still (Enough width_rule) ss (s + n) offset e) h.0 (enough_still offset ss ws (s + w) e h.1 (omega arith))
enough_still offset (reference r ∷ ss) (w ∷ ws) s e h k =
    let v = h.0.0 in
    let a : HoldsIn r.set_size r.pushed (value_by offset r.mark_ref) w =
    subst (λ (n : ℕ). HoldsIn r.set_size r.pushed n w) (value_read offset r.mark_ref v h.0.1) h.0.2 in
    (w, a, enough_still offset ss ws (s + w) e h.1 (omega arith))

-- a section whose value by the offsets is one in a layout, and below 2^32
abbrev pub Readable : (ℕ → ℕ) → Section → Type 0
Readable t (mark m) = Unit {0}
Readable t (ops bs) = Unit {0}
Readable t (bytes bs) = Unit {0}
Readable t (reference r) = HasValue t r.mark_ref (value_by t r.mark_ref) × (value_by t r.mark_ref < 2 ^ 32)

-- a pass that stood still is a layout that gives enough, its widths the sizes by the offsets
pub still_enough : (t : ℕ → ℕ) (ss : List Section) (s e : ℕ) → All (Readable t) ss → Still (Sizes width_rule) ss s t e
    → EnoughFrom t ss (map (size_by t) ss) s × (e ≡ s + total (map (size_by t) ss))
unfolding total
still_enough t [] s e k h = (tt, omega arith)
still_enough t (mark m ∷ ss) s e k h =
    let a : s + 0 ≡ s = omega arith in
    let q = still_enough t ss s e k.1 h.1 in
    (((refl, h.0), rw a q.0), omega (arith, q.1))
still_enough t (ops bs ∷ ss) s e k h =
    let q = still_enough t ss (s + length bs) e k.1 h in
    ((refl, q.0), omega (arith, q.1))
still_enough t (bytes bs ∷ ss) s e k h =
    let q = still_enough t ss (s + length bs) e k.1 h in
    ((refl, q.0), omega (arith, q.1))
still_enough t (reference r ∷ ss) s e k h =
    let v = value_by t r.mark_ref in
    let a : Still (Sizes width_rule) ss (s + size r v) t e = subst (λ (n : ℕ). Still (Sizes width_rule) ss (s + n) t e) h.1.0 h.2 in
    let q = still_enough t ss (s + size r v) e k.1 a in
    (((v, k.0.0, size_holds r v k.0.1 h.1.1), q.0), omega (arith, q.1))

-- a run that stands still comes to at least its sum so far
still_grows : (z : Allows) (ss : List Section) (s : ℕ) (t : ℕ → ℕ) (e : ℕ) → Still z ss s t e → s ≤ e
still_grows z ss s t e h = omega (arith, run_least z (λ r. 0) (λ r v w q. omega arith) ss s t e t (still_run z ss s t e h))

-- so each placed mark is at most at the sum that it comes to
pub still_placed : (z : Allows) (m : ℕ) (ss : List Section) (s : ℕ) (t : ℕ → ℕ) (e : ℕ) → placed ss m ≡ true → Still z ss s t e → t m ≤ e
unfolding placed
still_placed z m [] s t e p h = absurd (false≢true p)
still_placed z m (mark a ∷ ss) s t e p h = go (eqb m a) refl p (λ q. still_placed z m ss s t e q h.1)
  where
    go : (q : Bool) → eqb m a ≡ q → (q || placed ss m) ≡ true → (placed ss m ≡ true → t m ≤ e) → t m ≤ e
    go true i k rest = rw (eqb-true m a i) (omega (arith, h.0, still_grows z ss s t e h.1))
    go false i k rest = rest k
still_placed z m (ops bs ∷ ss) s t e p h = still_placed z m ss (s + length bs) t e p h
still_placed z m (bytes bs ∷ ss) s t e p h = still_placed z m ss (s + length bs) t e p h
still_placed z m (reference r ∷ ss) s t e p h = still_placed z m ss (s + h.0) t e p h.2
