-- A table agrees with a list of sections exactly where a pass by it stands still: each placing is at the sum of sizes before it, and no
-- reference is too narrow. So a settled table agrees, and one that agrees is a layout that gives enough. Assumes nothing.
use Prim.Native.Nat.{ℕ, zero, suc, ◌+◌, ◌^◌, ◌≤◌, ◌<◌}
use native.Mathlib.Omega.{arith}
use native.Mathlib.Nat.{add-zero, zero-add}
use mathlib.Core.Path.{◌≡◌, refl, sym, ◌∙◌, ap, subst}
use mathlib.Core.Bool.{false, not, ◌||◌}
use mathlib.Core.List.{List, [], ◌∷◌, map}
use lib.ListN.{length, take, replicate}
use borrow.Author.Tests.{eqb-true, eq-eqb, ltb-false, not-false}
use Rattle.slices.proofs.Tests.{or-false}
use Rattle.units.specs.Reference.{least_size, size}
use Rattle.units.specs.declared.MarkReference.{MarkReference}
use Rattle.units.specs.declared.MarkReference.TheVariants.{Direct, Delta}
use Rattle.records.specs.Sections.{Section, mark, ops, bytes, reference}
use Rattle.layout.specs.Layout.{total, in_all, HasValue, GivesEnough}
use Rattle.layout.specs.Passes.{entry, value_by, size_by, start_from, start, through, unlike, walk_from, pass, settled}
use Rattle.layout.specs.Conditions.{section_at, Never, places_some, placed, names_some, refers, backward_by, unplaced_at, backward_at, sum_of, Means, Moving}
use Rattle.layout.specs.Shortest.{settled_layout}
use Rattle.layout.proofs.Layouts.{Readable, still_enough}
use Rattle.layout.proofs.Moves.{Still}
use Rattle.layout.proofs.Places.{StillAt, still_at, still_value}
use Rattle.layout.proofs.Premises.{all_at}
use Rattle.layout.proofs.Rule.{Sizes}
use Rattle.layout.proofs.Walks.{All, set_same, zeros}
use Rattle.layout.proofs.WidthRule.{width_rule}
use Rattle.tables.specs.TableTests.{sum_before, differs_at, narrow_by, too_narrow_at, wrong_at}

-- ---- sums

-- the sum of the first sizes, said in two ways
sum_first : (f : Section → ℕ) (ss : List Section) (j : ℕ) → total (take j (map f ss)) ≡ sum_of f (take j ss)
unfolding total sum_of
sum_first f [] zero = refl
sum_first f [] (suc j) = refl
sum_first f (x ∷ ss) zero = refl
sum_first f (x ∷ ss) (suc j) = ap (λ (n : ℕ). f x + n) (sum_first f ss j)

-- and of all
pub sum_all : (f : Section → ℕ) (ss : List Section) → total (map f ss) ≡ sum_of f ss
unfolding total sum_of
sum_all f [] = refl
sum_all f (x ∷ ss) = ap (λ (n : ℕ). f x + n) (sum_all f ss)

-- ---- a section that is right

-- neither 16 nor 10 holds of a section, `at` being the sum before it
right_section : (table : List ℕ) (s : Section) (at : ℕ) → (places_some (λ m. unlike table m at) s || narrow_by table s) ≡ false → StillAt (entry table) s at
right_section table (mark m) at h =
    eqb-true (entry table m) at (not-false _ (or-false (unlike table m at) false h).0)
right_section table (ops bs) at h = tt
right_section table (bytes bs) at h = tt
right_section table (reference r) at h = h

-- and back
section_right : (table : List ℕ) (s : Section) (at : ℕ) → StillAt (entry table) s at → (places_some (λ m. unlike table m at) s || narrow_by table s) ≡ false
section_right table (mark m) at h = rw (eq-eqb (entry table m) at h)
section_right table (ops bs) at h = refl
section_right table (bytes bs) at h = refl
section_right table (reference r) at h = h

-- ---- a list that is right stands still

-- one section more
still_more : (t : ℕ → ℕ) (x : Section) (ss : List Section) (s e : ℕ) → StillAt t x s → Still (Sizes width_rule) ss (s + size_by t x) t e → Still (Sizes width_rule) (x ∷ ss) s t e
still_more t (mark m) ss s e h q = (h, rw (add-zero s) at q)
still_more t (ops bs) ss s e h q = q
still_more t (bytes bs) ss s e h q = q
still_more t (reference r) ss s e h q = (size r (value_by t r.mark_ref), (refl, h), q)

at_still : (t : ℕ → ℕ) (ss : List Section) (s : ℕ) → ((i : ℕ) → i < length ss → StillAt t (section_at ss i) (s + sum_of (size_by t) (take i ss)))
    → Still (Sizes width_rule) ss s t (s + sum_of (size_by t) ss)
unfolding sum_of
at_still t [] s h = add-zero s
at_still t (x ∷ ss) s h =
    let here : StillAt t x s = rw (add-zero s) at (h 0 (omega arith)) in
    let sum : s + size_by t x + sum_of (size_by t) ss ≡ s + (size_by t x + sum_of (size_by t) ss) = omega arith in
    let rest = at_still t ss (s + size_by t x) (λ i l. let e : s + (size_by t x + sum_of (size_by t) (take i ss)) ≡ s + size_by t x + sum_of (size_by t) (take i ss) = omega arith in rw e at (h (suc i) (omega arith))) in
    still_more t x ss s (s + (size_by t x + sum_of (size_by t) ss)) here (rw sum at rest)

module _ (table : List ℕ) (ss : List Section) where
  -- a pass by a table that agrees stands still
  pub right_still : Never ss (wrong_at table ss) → Still (Sizes width_rule) ss 0 (entry table) (sum_of (size_by (entry table)) ss)
  unfolding differs_at too_narrow_at
  right_still h =
      let zero-sum : 0 + sum_of (size_by (entry table)) ss ≡ sum_of (size_by (entry table)) ss = omega arith in
      let q = at_still (entry table) ss 0 (λ i l. let e : sum_before table ss i ≡ 0 + sum_before table ss i = omega arith in rw e at (right_section table (section_at ss i) (sum_before table ss i) (h i l))) in
      rw zero-sum at q

  -- and where one stands still, the table agrees
  pub still_right : (e : ℕ) → Still (Sizes width_rule) ss 0 (entry table) e → Never ss (wrong_at table ss)
  unfolding differs_at too_narrow_at
  still_right e still i l =
      let sum : 0 + total (take i (map (size_by (entry table)) ss)) ≡ sum_before table ss i = zero-add _ ∙ sum_first (size_by (entry table)) ss i in
      section_right table (section_at ss i) (sum_before table ss i) (rw sum at (still_at (entry table) ss 0 e still i l))

-- ---- it gives enough

-- a reference has a value in a layout, where its marks are placed and it isn't backward
reads : (table : List ℕ) (ss : List Section) (e : ℕ) → Still (Sizes width_rule) ss 0 (entry table) e → e < 2 ^ 32
    → (s : Section) → names_some (λ m. not (placed ss m)) s ≡ false → refers (backward_by table) s ≡ false → Readable (entry table) s
reads table ss e still small (mark m) p b = tt
reads table ss e still small (ops bs) p b = tt
reads table ss e still small (bytes bs) p b = tt
reads table ss e still small (reference r) p b = (has r.mark_ref b, omega (arith, still_value (entry table) ss e still r.mark_ref p))
  where
    has : (q : MarkReference) → backward_by table q ≡ false → HasValue (entry table) q (value_by (entry table) q)
    has (Direct m) h = refl
    has (Delta d) h = omega (arith, ltb-false (entry table d.end.0) (entry table d.start.0) h)

-- a layout by which a pass stands still gives enough, where every named mark is placed and no delta is backward
pub still_gives : (table : List ℕ) (ss : List Section) (e : ℕ) → Still (Sizes width_rule) ss 0 (entry table) e → e < 2 ^ 32
    → Never ss (unplaced_at ss) → Never ss (backward_at table ss) → GivesEnough ss (settled_layout table ss) × (e ≡ in_all (settled_layout table ss))
unfolding unplaced_at backward_at
still_gives table ss e still small p b =
    let readable : All (Readable (entry table)) ss = all_at (Readable (entry table)) ss (λ i l. reads table ss e still small (section_at ss i) (p i l) (b i l)) in
    let q = still_enough (entry table) ss 0 e readable still in
    (q.0, q.1 ∙ zero-add _)

-- ---- the table all 0

-- a walk by a table that stands still moves no mark
still_walk : (table : List ℕ) (ss : List Section) (i s e : ℕ) → Still (Sizes width_rule) ss s (entry table) e → walk_from ss i s false table ≡ through e false table
unfolding walk_from
still_walk table [] i s e h = ap (λ (n : ℕ). through n false table) (sym h)
still_walk table (mark m ∷ ss) i s e h = rw (eq-eqb (entry table m) s h.0) (still_walk table ss (suc i) s e h.1)
still_walk table (ops bs ∷ ss) i s e h = still_walk table ss (suc i) (s + length bs) e h
still_walk table (bytes bs ∷ ss) i s e h = still_walk table ss (suc i) (s + length bs) e h
still_walk table (reference r ∷ ss) i s e h =
    rw h.1.1 (still_walk table ss (suc i) (s + size r (value_by (entry table) r.mark_ref)) e (subst (λ (n : ℕ). Still (Sizes width_rule) ss (s + n) (entry table) e) h.1.0 h.2))

-- a table of zeros by which a pass stands still is the start table: least sizes are at most sizes
zero_start : (table : List ℕ) → ((m : ℕ) → entry table m ≡ 0) → (ss : List Section) (s s' e : ℕ) → s' ≤ s → Still (Sizes width_rule) ss s (entry table) e
    → start_from ss s' table ≡ table
unfolding start_from
zero_start table z [] s s' e l h = refl
zero_start table z (mark m ∷ ss) s s' e l h =
    let here : entry table m ≡ s' = omega (arith, z m, h.0) in
    rw (set_same table m s' here) (zero_start table z ss s s' e l h.1)
zero_start table z (ops bs ∷ ss) s s' e l h = zero_start table z ss (s + length bs) (s' + length bs) e (omega arith) h
zero_start table z (bytes bs ∷ ss) s s' e l h = zero_start table z ss (s + length bs) (s' + length bs) e (omega arith) h
zero_start table z (reference r ∷ ss) s s' e l h =
    zero_start table z ss (s + h.0) (s' + least_size r) e (omega (arith, width_rule.at_least r (value_by (entry table) r.mark_ref), h.1.0)) h.2

-- so it is settled in the first pass
pub zero_settled : (n : ℕ) (ss : List Section) (e : ℕ) → Still (Sizes width_rule) ss 0 (entry (replicate n 0)) e → Means n ss (settled (replicate n 0) e 1)
unfolding start pass Moving
zero_settled n ss e h =
    let table : List ℕ = replicate n 0 in
    (0, table, omega arith, omega arith, sym (zero_start table (zeros n) ss 0 0 e (omega arith) h), still_walk table ss 0 0 e h)
