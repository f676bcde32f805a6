-- Runs in which no mark moves, runs over the first sections, the sum that a run comes to; and that a run which comes to no more than
-- the run below it, from whose offsets it started, moves no mark. Assumes nothing.
use Prim.Native.Nat.{ℕ, ◌+◌, ◌≤◌}
use native.Mathlib.Omega.{arith}
use mathlib.Core.Path.{◌≡◌, refl, sym, ◌∙◌}
use mathlib.Core.Bool.{Bool, true, false, cond}
use mathlib.Core.List.{List, [], ◌∷◌, ◌++◌}
use lib.Dec.{eqb, ltb}
use lib.ListN.{length}
use borrow.Author.Tests.{eqb-true, eqb-false, ltb-false}
use Rattle.units.specs.declared.AsmReference.{AsmReference}
use Rattle.records.specs.Sections.{Section, mark, ops, bytes, reference}
use Rattle.layout.specs.Passes.{value_by}
use Rattle.layout.specs.Conditions.{placed, has_bytes, sum_of}
use Rattle.slices.proofs.Tests.{or-false}
use Rattle.layout.proofs.Runs.{Allows, Run, after, pass_mark, Tame, Below, below_on, below_mark, Narrower, width_le, compare}

-- ---- runs without a move

-- a run from sum s to sum e by offsets t, each placing of a mark being at its offset
abbrev pub Still : Allows → List Section → ℕ → (ℕ → ℕ) → ℕ → Type 0
Still z [] s t e = e ≡ s
Still z (mark m ∷ ss) s t e = (t m ≡ s) × Still z ss s t e
Still z (ops bs ∷ ss) s t e = Still z ss (s + length bs) t e
Still z (bytes bs ∷ ss) s t e = Still z ss (s + length bs) t e
Still z (reference r ∷ ss) s t e = (w : ℕ) × z r (value_by t r.mark_ref) w × Still z ss (s + w) t e

-- it is a run
pub still_run : (z : Allows) (ss : List Section) (s : ℕ) (t : ℕ → ℕ) (e : ℕ) → Still z ss s t e → Run z ss s t e t
still_run z [] s t e f = (f, λ a. refl)
still_run z (mark m ∷ ss) s t e f = (t, (f.0, λ a n. refl), still_run z ss s t e f.1)
still_run z (ops bs ∷ ss) s t e f = still_run z ss (s + length bs) t e f
still_run z (bytes bs ∷ ss) s t e f = still_run z ss (s + length bs) t e f
still_run z (reference r ∷ ss) s t e f = (f.0, f.1, still_run z ss (s + f.0) t e f.2)

-- and its first sections are a run
pub still_first : (z : Allows) (ps ss : List Section) (s : ℕ) (t : ℕ → ℕ) (e : ℕ) → Still z (ps ++ ss) s t e → (d : ℕ) × Still z ps s t d × Still z ss d t e
still_first z [] ss s t e f = (s, refl, f)
still_first z (mark m ∷ ps) ss s t e f =
    let q = still_first z ps ss s t e f.1 in
    (q.0, (f.0, q.1), q.2)
still_first z (ops bs ∷ ps) ss s t e f = still_first z ps ss (s + length bs) t e f
still_first z (bytes bs ∷ ps) ss s t e f = still_first z ps ss (s + length bs) t e f
still_first z (reference r ∷ ps) ss s t e f =
    let q = still_first z ps ss (s + f.0) t e f.2 in
    (q.0, (f.0, f.1, q.1), q.2)

-- what is tame is tame in its first sections, and in the others after them
pub tame_first : (c : ℕ → Bool) (ps ss : List Section) (p : ℕ → Bool) → Tame c p (ps ++ ss) → Tame c p ps × Tame c (after ps p) ss
tame_first c [] ss p k = (tt, k)
tame_first c (mark m ∷ ps) ss p k = tame_first c ps ss (pass_mark p m) k
tame_first c (ops bs ∷ ps) ss p k = tame_first c ps ss p k
tame_first c (bytes bs ∷ ps) ss p k = tame_first c ps ss p k
tame_first c (reference r ∷ ps) ss p k =
    let q = tame_first c ps ss p k.1 in
    ((k.0, q.0), q.1)

-- no mark moves in a run: each placing of a mark finds its offset at the sum
abbrev pub Rests : (z : Allows) (ss : List Section) (s : ℕ) (t : ℕ → ℕ) (e : ℕ) (u : ℕ → ℕ) → Run z ss s t e u → Type 0
Rests z [] s t e u f = Unit {0}
Rests z (mark m ∷ ss) s t e u f = (t m ≡ s) × Rests z ss s f.0 e u f.2
Rests z (ops bs ∷ ss) s t e u f = Rests z ss (s + length bs) t e u f
Rests z (bytes bs ∷ ss) s t e u f = Rests z ss (s + length bs) t e u f
Rests z (reference r ∷ ss) s t e u f = Rests z ss (s + f.0) t e u f.2

-- ---- the sum that a run comes to

-- a section's width, a reference's given
abbrev pub width_by : (AsmReference → ℕ) → Section → ℕ
width_by w (mark m) = 0
width_by w (ops bs) = length bs
width_by w (bytes bs) = length bs
width_by w (reference r) = w r

-- at most what the widest references come to
pub run_most : (z : Allows) (most : AsmReference → ℕ) → ((r : AsmReference) (v w : ℕ) → z r v w → w ≤ most r)
    → (ss : List Section) (s : ℕ) (t : ℕ → ℕ) (e : ℕ) (u : ℕ → ℕ) → Run z ss s t e u → e ≤ s + sum_of (width_by most) ss
unfolding sum_of
run_most z most h [] s t e u f = omega (arith, f.0)
run_most z most h (mark m ∷ ss) s t e u f = omega (arith, run_most z most h ss s f.0 e u f.2)
run_most z most h (ops bs ∷ ss) s t e u f = omega (arith, run_most z most h ss (s + length bs) t e u f)
run_most z most h (bytes bs ∷ ss) s t e u f = omega (arith, run_most z most h ss (s + length bs) t e u f)
run_most z most h (reference r ∷ ss) s t e u f = omega (arith, run_most z most h ss (s + f.0) t e u f.2, h r (value_by t r.mark_ref) f.0 f.1)

-- at least what the narrowest come to
pub run_least : (z : Allows) (least : AsmReference → ℕ) → ((r : AsmReference) (v w : ℕ) → z r v w → least r ≤ w)
    → (ss : List Section) (s : ℕ) (t : ℕ → ℕ) (e : ℕ) (u : ℕ → ℕ) → Run z ss s t e u → s + sum_of (width_by least) ss ≤ e
unfolding sum_of
run_least z least h [] s t e u f = omega (arith, f.0)
run_least z least h (mark m ∷ ss) s t e u f = omega (arith, run_least z least h ss s f.0 e u f.2)
run_least z least h (ops bs ∷ ss) s t e u f = omega (arith, run_least z least h ss (s + length bs) t e u f)
run_least z least h (bytes bs ∷ ss) s t e u f = omega (arith, run_least z least h ss (s + length bs) t e u f)
run_least z least h (reference r ∷ ss) s t e u f = omega (arith, run_least z least h ss (s + f.0) t e u f.2, h r (value_by t r.mark_ref) f.0 f.1)

-- ---- marks without bytes between their placings

-- no placing of m has bytes before it
abbrev pub Close : ℕ → List Section → Type 0
Close m [] = Unit {0}
Close m (s ∷ ss) = cond (has_bytes s) (placed ss m ≡ false) (Close m ss)

-- no mark has bytes between two placings
abbrev pub Together : List Section → Type 0
Together [] = Unit {0}
Together (mark m ∷ ss) = Close m ss × Together ss
Together (ops bs ∷ ss) = Together ss
Together (bytes bs ∷ ss) = Together ss
Together (reference r ∷ ss) = Together ss

-- a mark that isn't placed keeps its offset
pub run_absent : (z : Allows) (m : ℕ) (ss : List Section) (s : ℕ) (t : ℕ → ℕ) (e : ℕ) (u : ℕ → ℕ) → placed ss m ≡ false → Run z ss s t e u → u m ≡ t m
unfolding placed
run_absent z m [] s t e u h f = f.1 m
run_absent z m (mark a ∷ ss) s t e u h f =
    let q = or-false (eqb m a) (placed ss m) h in
    run_absent z m ss s f.0 e u q.1 f.2 ∙ f.1.1 m (eqb-false m a q.0)
run_absent z m (ops bs ∷ ss) s t e u h f = run_absent z m ss (s + length bs) t e u h f
run_absent z m (bytes bs ∷ ss) s t e u h f = run_absent z m ss (s + length bs) t e u h f
run_absent z m (reference r ∷ ss) s t e u h f = run_absent z m ss (s + f.0) t e u h f.2

-- the same after a block of n bytes, what follows the block given
block_close : (z : Allows) (m : ℕ) (ss : List Section) (s : ℕ) (t : ℕ → ℕ) (e : ℕ) (u : ℕ → ℕ) (n : ℕ)
    → cond (ltb 0 n) (placed ss m ≡ false) (Close m ss) → t m ≡ s → Run z ss (s + n) t e u → (Close m ss → t m ≡ s + n → u m ≡ s + n) → u m ≡ s
block_close z m ss s t e u n k h f rest = go (ltb 0 n) refl k
  where
    go : (q : Bool) → ltb 0 n ≡ q → cond q (placed ss m ≡ false) (Close m ss) → u m ≡ s
    go true i k' = run_absent z m ss (s + n) t e u k' f ∙ h
    go false i k' =
        let l : n ≤ 0 = ltb-false 0 n i in
        let j : u m ≡ s + n = rest k' (omega arith) in
        omega arith

-- a mark at the sum stays there, if it isn't placed after bytes
pub run_close : (z : Allows) (m : ℕ) (ss : List Section) (s : ℕ) (t : ℕ → ℕ) (e : ℕ) (u : ℕ → ℕ) → Close m ss → t m ≡ s → Run z ss s t e u → u m ≡ s
run_close z m [] s t e u k h f = f.1 m ∙ h
run_close z m (mark a ∷ ss) s t e u k h f = run_close z m ss s f.0 e u k (go (eqb m a) refl) f.2
  where
    go : (q : Bool) → eqb m a ≡ q → f.0 m ≡ s
    go true i = rw (eqb-true m a i) f.1.0
    go false i = f.1.1 m (eqb-false m a i) ∙ h
run_close z m (ops bs ∷ ss) s t e u k h f = block_close z m ss s t e u (length bs) k h f (λ i j. run_close z m ss (s + length bs) t e u i j f)
run_close z m (bytes bs ∷ ss) s t e u k h f = block_close z m ss s t e u (length bs) k h f (λ i j. run_close z m ss (s + length bs) t e u i j f)
run_close z m (reference r ∷ ss) s t e u k h f = run_absent z m ss (s + f.0) t e u k f.2 ∙ h

-- ---- no more than before, so no move

-- a run, from the offsets that a run below it comes to, which comes to no more than that one: no mark moves in it
pub rests : {c : ℕ → Bool} {x y : Allows} → Narrower x y → (ss : List Section) {p : ℕ → Bool} {s s' : ℕ} (e e' : ℕ) {t u : ℕ → ℕ} (t₁ u₁ : ℕ → ℕ)
    → Tame c p ss → Together ss → Below c p s t s' u → (f : Run x ss s t e t₁) (g : Run y ss s' u e' u₁)
    → e' ≤ e → ((a : ℕ) → u a ≡ t₁ a) → Rests y ss s' u e' u₁ g
rests n [] e e' t₁ u₁ k o b f g l q = tt
rests {c = c} {x = x} n (mark m ∷ ss) {p = p} {s = s} {s' = s'} e e' {u = u} t₁ u₁ k o b f g l q = (here, rests n ss e e' t₁ u₁ k o.1 next f.2 g.2 l (λ a. go a (eqb a m) refl))
  where
    next : Below c (pass_mark p m) s f.0 s' g.0
    next = below_mark b f.1 g.1

    same : s ≡ s'
    same = omega (arith, (compare n ss k next f.2 g.2).added, b.sums)

    final : t₁ m ≡ s
    final = run_close x m ss s f.0 e t₁ o.0 f.1.0 f.2

    here : u m ≡ s'
    here = q m ∙ final ∙ same

    go : (a : ℕ) (d : Bool) → eqb a m ≡ d → g.0 a ≡ t₁ a
    go a true i = rw (eqb-true a m i) (g.1.0 ∙ sym same ∙ sym final)
    go a false i = g.1.1 a (eqb-false a m i) ∙ q a
rests n (ops bs ∷ ss) e e' t₁ u₁ k o b f g l q = rests n ss e e' t₁ u₁ k o (below_on (length bs) (length bs) (omega arith) b) f g l q
rests n (bytes bs ∷ ss) e e' t₁ u₁ k o b f g l q = rests n ss e e' t₁ u₁ k o (below_on (length bs) (length bs) (omega arith) b) f g l q
rests n (reference r ∷ ss) e e' t₁ u₁ k o b f g l q =
    let h : f.0 ≤ g.0 = width_le n r k.0 b f.0 g.0 f.1 g.1 in
    rests n ss e e' t₁ u₁ k.1 o (below_on f.0 g.0 h b) f.2 g.2 l q
