-- Two runs over the same sections that stay near each other: no value by the second is more than d above the first's, and where the
-- first's is 0 so is the second's. Used of the start and a pass, and of the first pass and a later one. Assumes nothing.
use Prim.Native.Nat.{ℕ, ◌+◌, ◌-◌, ◌≤◌}
use native.Mathlib.Omega.{arith}
use mathlib.Core.Path.{◌≡◌, refl, sym, subst}
use mathlib.Core.Bool.{Bool, true, false, ◌||◌, false≢true}
use mathlib.Core.List.{List, [], ◌∷◌}
use lib.Dec.{eqb}
use lib.ListN.{length}
use borrow.Author.Tests.{eqb-true, eqb-false}
use native.Mathlib.Nat.{zero-add}
use Rattle.units.specs.declared.AsmReference.{AsmReference}
use Rattle.units.specs.declared.MarkReference.{MarkReference}
use Rattle.units.specs.declared.MarkReference.TheVariants.{Direct, Delta}
use Rattle.records.specs.Sections.{Section, mark, ops, bytes, reference}
use Rattle.layout.specs.Passes.{value_by}
use Rattle.layout.specs.Conditions.{sum_of, per_reference}
use Rattle.layout.proofs.Runs.{Allows, Put, Run, pass_mark, after, TameRef, Tame}

-- at most d more, and 0 where the first is
abbrev pub Near : ℕ → ℕ → ℕ → Type 0
Near d v v' = (v' ≤ v + d) × (v ≡ 0 → v' ≡ 0)

-- what the first rule allows is at least 1, and what the second allows, for a near value where all are near, at most f more
abbrev pub Wider : ℕ → Bool → (AsmReference → ℕ) → Allows → Allows → Type 0
Wider d all f x y = (r : AsmReference) (v v' w w' : ℕ) → (all ≡ true → Near d v v') → x r v w → y r v' w' → (1 ≤ w) × (w' ≤ w + f r)

-- one of two tests holds where the first does
or_known : (a b : Bool) → a ≡ true → (a || b) ≡ true
or_known true b h = refl
or_known false b h = absurd (false≢true h)

-- `all`: whether every mark's offset is near from the start, or only those of the marks passed
module _ (d : ℕ) (all : Bool) (c : ℕ → Bool) where
  -- from a mark passed to the sum: its offset is at most the sum, and the way between has grown so much that `rest` more is within d
  abbrev From : ℕ → ℕ → ℕ → ℕ → ℕ → Type 0
  From rest s ta s' ua = (ta ≤ s) × (ua ≤ s') × (s' + ta + rest ≤ s + ua + d) × (s ≡ ta → s' ≡ ua)

  -- two runs that have passed the marks p and may still come apart by `rest`
  pub record Along (p : ℕ → Bool) (rest s : ℕ) (t : ℕ → ℕ) (s' : ℕ) (u : ℕ → ℕ) : Type 0 where
    pub room : rest ≤ d
    pub sums : s' + rest ≤ s + d
    pub zero : s ≡ 0 → s' ≡ 0
    pub marks : (a : ℕ) → (all || p a) ≡ true → Near d (t a) (u a)
    pub gaps : (a b : ℕ) → c a ≡ c b → p a ≡ p b → (all || p a) ≡ true → Near d (t b - t a) (u b - u a)
    pub passed : (a : ℕ) → p a ≡ true → From rest s (t a) s' (u a)

  -- after a block or a reference, at most f wider in the second run
  along_on : {p : ℕ → Bool} {s s' : ℕ} {t u : ℕ → ℕ} (f rest w w' : ℕ) → w' ≤ w + f → (w ≡ 0 → w' ≡ 0)
      → Along p (f + rest) s t s' u → Along p rest (s + w) t (s' + w') u
  along_on {p = p} {s = s} {s' = s'} {t = t} {u = u} f rest w w' l z o =
      record {
        room = omega (arith, o.room);
        sums = omega (arith, o.sums);
        zero = λ i. omega (arith, z (omega arith), o.zero (omega arith));
        marks = o.marks;
        gaps = o.gaps;
        passed = passed;
      }
    where
      passed : (a : ℕ) → p a ≡ true → From rest (s + w) (t a) (s' + w') (u a)
      passed a k =
          let q = o.passed a k in
          (omega (arith, q.0), omega (arith, q.1), omega (arith, q.2), λ i. omega (arith, z (omega (arith, q.0)), q.3 (omega (arith, q.0))))

  -- after a mark
  module _ {p : ℕ → Bool} {rest s s' m : ℕ} {t u t' u' : ℕ → ℕ} (o : Along p rest s t s' u) (x : Put t m s t') (y : Put u m s' u') where
    -- the offsets
    mark_marks : (a : ℕ) → (all || pass_mark p m a) ≡ true → Near d (t' a) (u' a)
    mark_marks a = go (eqb a m) refl
      where
        go : (q : Bool) → eqb a m ≡ q → (all || (q || p a)) ≡ true → Near d (t' a) (u' a)
        go true e h =
            let i : a ≡ m = eqb-true a m e in
            rw (i, x.0, y.0) (omega (arith, o.sums), o.zero)
        go false e h = rw (x.1 a (eqb-false a m e), y.1 a (eqb-false a m e)) (o.marks a h)

    -- the marks passed, this one too
    mark_passed : (a : ℕ) → pass_mark p m a ≡ true → From rest s (t' a) s' (u' a)
    mark_passed a = go (eqb a m) refl
      where
        go : (q : Bool) → eqb a m ≡ q → (q || p a) ≡ true → From rest s (t' a) s' (u' a)
        go true e h =
            let i : a ≡ m = eqb-true a m e in
            rw (i, x.0, y.0) (omega arith, omega arith, omega (arith, o.room), λ _. refl)
        go false e h = rw (x.1 a (eqb-false a m e), y.1 a (eqb-false a m e)) (o.passed a h)

    -- the gaps
    mark_gaps : (a b : ℕ) → c a ≡ c b → pass_mark p m a ≡ pass_mark p m b → (all || pass_mark p m a) ≡ true → Near d (t' b - t' a) (u' b - u' a)
    mark_gaps a b k = go (eqb a m) (eqb b m) refl refl
      where
        go : (q q' : Bool) → eqb a m ≡ q → eqb b m ≡ q' → (q || p a) ≡ (q' || p b) → (all || (q || p a)) ≡ true → Near d (t' b - t' a) (u' b - u' a)
        go true true e e' h g =
            let i : a ≡ m = eqb-true a m e in
            let j : b ≡ m = eqb-true b m e' in
            rw (i, j) (omega arith, λ _. omega arith)
        go true false e e' h g =
            let i : a ≡ m = eqb-true a m e in
            let q = o.passed b (sym h) in
            rw (i, x.0, y.0, x.1 b (eqb-false b m e'), y.1 b (eqb-false b m e')) (omega (arith, q.1), λ _. omega (arith, q.1))
        go false true e e' h g =
            let j : b ≡ m = eqb-true b m e' in
            let q = o.passed a h in
            rw (j, x.0, y.0, x.1 a (eqb-false a m e), y.1 a (eqb-false a m e))
            (omega (arith, q.0, q.1, q.2), λ i. omega (arith, q.3 (omega (arith, q.0))))
        go false false e e' h g =
            rw (x.1 a (eqb-false a m e), y.1 a (eqb-false a m e), x.1 b (eqb-false b m e'), y.1 b (eqb-false b m e')) (o.gaps a b k h g)

    -- all of it
    along_mark : Along (pass_mark p m) rest s t' s' u'
    along_mark = record { room = o.room; sums = o.sums; zero = o.zero; marks = mark_marks; gaps = mark_gaps; passed = mark_passed }

  -- where all are near, so is a tame reference's value
  value_near : {p : ℕ → Bool} {rest s s' : ℕ} {t u : ℕ → ℕ} (r : MarkReference) → TameRef c p r → Along p rest s t s' u → all ≡ true
      → Near d (value_by t r) (value_by u r)
  value_near {p = p} (Direct m) k o h = o.marks m.0 (or_known all (p m.0) h)
  value_near {p = p} (Delta i) k o h = o.gaps i.start.0 i.end.0 k.0 k.1 (or_known all (p i.start.0) h)

  -- what two runs come to: the second adds no more than `most` beside the first, and they have stayed near
  pub record StayNear (p : ℕ → Bool) (most s s' e : ℕ) (t : ℕ → ℕ) (e' : ℕ) (u : ℕ → ℕ) : Type 0 where
    pub added : e' + s ≤ e + s' + most
    pub along : Along p 0 e t e' u

  module _ {x y : Allows} (f : AsmReference → ℕ) (h : Wider d all f x y) where
    -- of any two runs: f for each reference
    pub stay_near : (ss : List Section) (p : ℕ → Bool) (s s' e e' : ℕ) (t u t₁ u₁ : ℕ → ℕ) → Tame c p ss → Along p (sum_of (per_reference f) ss) s t s' u
        → Run x ss s t e t₁ → Run y ss s' u e' u₁ → StayNear (after ss p) (sum_of (per_reference f) ss) s s' e t₁ e' u₁
    unfolding sum_of
    stay_near [] p s s' e e' t u t₁ u₁ k o i j =
        record {
          added = omega (arith, i.0, j.0);
          along = record {
            room = omega arith;
            sums = omega (arith, i.0, j.0, o.sums);
            zero = λ z. omega (arith, i.0, j.0, o.zero (omega (arith, i.0)));
            marks = λ a g. rw (i.1 a, j.1 a) (o.marks a g);
            gaps = λ a b q g g'. rw (i.1 a, j.1 a, i.1 b, j.1 b) (o.gaps a b q g g');
            passed = λ a g. rw (i.1 a, j.1 a, i.0, j.0) (o.passed a g);
          };
        }
    stay_near (mark m ∷ ss) p s s' e e' t u t₁ u₁ k o i j =
        let o' : Along p (sum_of (per_reference f) ss) s t s' u = subst (λ (v : ℕ). Along p v s t s' u) (zero-add (sum_of (per_reference f) ss)) o in
        let q = stay_near ss (pass_mark p m) s s' e e' i.0 j.0 t₁ u₁ k (along_mark o' i.1 j.1) i.2 j.2 in
        record { added = omega (arith, q.added); along = q.along }
    stay_near (ops bs ∷ ss) p s s' e e' t u t₁ u₁ k o i j =
        let o' = along_on 0 (sum_of (per_reference f) ss) (length bs) (length bs) (omega arith) (λ z. z) o in
        let q = stay_near ss p (s + length bs) (s' + length bs) e e' t u t₁ u₁ k o' i j in
        record { added = omega (arith, q.added); along = q.along }
    stay_near (bytes bs ∷ ss) p s s' e e' t u t₁ u₁ k o i j =
        let o' = along_on 0 (sum_of (per_reference f) ss) (length bs) (length bs) (omega arith) (λ z. z) o in
        let q = stay_near ss p (s + length bs) (s' + length bs) e e' t u t₁ u₁ k o' i j in
        record { added = omega (arith, q.added); along = q.along }
    stay_near (reference r ∷ ss) p s s' e e' t u t₁ u₁ k o i j =
        let b = h r (value_by t r.mark_ref) (value_by u r.mark_ref) i.0 j.0 (value_near r.mark_ref k.0 o) i.1 j.1 in
        let o' = along_on (f r) (sum_of (per_reference f) ss) i.0 j.0 b.1 (λ z. absurd (omega (arith, b.0))) o in
        let q = stay_near ss p (s + i.0) (s' + j.0) e e' t u t₁ u₁ k.1 o' i.2 j.2 in
        record { added = omega (arith, q.added, b.1); along = q.along }
