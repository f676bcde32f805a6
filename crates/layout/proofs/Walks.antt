-- The definitions of Passes and Layout as runs: the start, a walk that goes through or is left, and a layout that gives enough.
-- Assumes nothing.
use Prim.Native.Nat.{ℕ, zero, suc, ◌+◌, ◌<◌}
use native.Mathlib.Omega.{arith}
use mathlib.Core.Path.{◌≡◌, refl, sym, ◌∙◌, ap, subst}
use mathlib.Core.Bool.{Bool, true, false, cond, not, ◌||◌}
use mathlib.Core.List.{List, [], ◌∷◌, ◌++◌}
use lib.Dec.{eqb, leb}
use lib.ListN.{length, set, length-set, replicate, length-replicate}
use lib.Seq.{get_or-set_same, get_or-set_other, set-get_or}
use borrow.Author.Tests.{eqb-true, eq-eqb, leb-false, not-false}
use Rattle.units.specs.Reference.{least_size, size, too_narrow}
use Rattle.units.specs.declared.AsmReference.{AsmReference}
use Rattle.records.specs.Sections.{Section, mark, ops, bytes, reference}
use Rattle.layout.specs.Passes.{entry, value_by, start_from, start, through, left_at, unlike, walk_from, pass}
use Rattle.layout.specs.Conditions.{places_some}
use Rattle.layout.proofs.Runs.{Put, Run}
use Rattle.layout.proofs.Moves.{Still, Rests}
use Rattle.slices.proofs.Tests.{or-false}
use Rattle.layout.proofs.Rule.{Starts, Sizes}
use Rattle.layout.proofs.WidthRule.{width_rule}

-- a property of every section
abbrev pub All : (Section → Type 0) → List Section → Type 0
All P [] = Unit {0}
All P (s ∷ ss) = P s × All P ss

-- so of the first sections
pub all_first : (P : Section → Type 0) (ps ss : List Section) → All P (ps ++ ss) → All P ps
all_first P [] ss h = tt
all_first P (s ∷ ps) ss h = (h.0, all_first P ps ss h.1)

-- every mark placed has an entry in a table of length n
abbrev pub InTable : ℕ → List Section → Type 0
InTable n = All (λ s. places_some (leb n) s ≡ false)

-- ---- setting an entry

-- an entry that is set is put
pub set_put : (table : List ℕ) (m s : ℕ) → m < length table → Put (entry table) m s (entry (set table m s))
set_put table m s h = (get_or-set_same table m s 0 h, λ a n. get_or-set_other table m a s 0 n)

-- setting an entry to what it holds changes nothing
pub set_same : (table : List ℕ) (m s : ℕ) → entry table m ≡ s → set table m s ≡ table
set_same table m s e = subst (λ (k : ℕ). set table m k ≡ table) e (set-get_or table m 0)

-- so that setting it where it is unlike is setting it
pub set_unlike : (table : List ℕ) (m s : ℕ) → cond (unlike table m s) (set table m s) table ≡ set table m s
set_unlike table m s = go (eqb (entry table m) s) refl
  where
    go : (q : Bool) → eqb (entry table m) s ≡ q → cond (not q) (set table m s) table ≡ set table m s
    go true e = sym (set_same table m s (eqb-true (entry table m) s e))
    go false e = refl

-- ---- the start

-- the start table is what a run with least widths comes to
pub start_run : (ss : List Section) (s : ℕ) (table : List ℕ) → InTable (length table) ss
    → (e : ℕ) × Run (Starts width_rule) ss s (entry table) e (entry (start_from ss s table)) × (length (start_from ss s table) ≡ length table)
unfolding start_from
start_run [] s table k = (s, (refl, λ a. refl), refl)
start_run (mark m ∷ ss) s table k =
    let q = start_run ss s (set table m s) (rw (length-set table m s) k.1) in
    (q.0, (entry (set table m s), set_put table m s (leb-false (length table) m k.0), q.1), q.2 ∙ length-set table m s)
start_run (ops bs ∷ ss) s table k = start_run ss (s + length bs) table k.1
start_run (bytes bs ∷ ss) s table k = start_run ss (s + length bs) table k.1
start_run (reference r ∷ ss) s table k =
    let q = start_run ss (s + least_size r) table k.1 in
    (q.0, (least_size r, refl, q.1), q.2)

-- the table starts at 0
pub zeros : (n a : ℕ) → entry (replicate n 0) a ≡ 0
zeros zero a = refl
zeros (suc n) zero = refl
zeros (suc n) (suc a) = zeros n a

-- so the start is a run from 0
pub start_runs : (n : ℕ) (ss : List Section) → InTable n ss
    → (e : ℕ) × Run (Starts width_rule) ss 0 (entry (replicate n 0)) e (entry (start n ss)) × (length (start n ss) ≡ n)
unfolding start
start_runs n ss k =
    let table : List ℕ = replicate n 0 in
    let long : length table ≡ n = length-replicate n 0 in
    let q = start_run ss 0 table (subst (λ (x : ℕ). InTable x ss) (sym long) k) in
    (q.0, q.1, q.2 ∙ long)

-- ---- a walk

-- a walk that goes through: it is a run; if the run rests, nothing was moved; if nothing was moved, the table stands still
pub record Through (ss : List Section) (s : ℕ) (moved : Bool) (table : List ℕ) (e : ℕ) (moved' : Bool) (table' : List ℕ) : Type 0 where
  pub run : Run (Sizes width_rule) ss s (entry table) e (entry table')
  pub long : length table' ≡ length table
  pub resting : Rests (Sizes width_rule) ss s (entry table) e (entry table') run → moved' ≡ moved
  pub calm : moved' ≡ false → (moved ≡ false) × (table' ≡ table) × Still (Sizes width_rule) ss s (entry table) e

-- a test that fails adds nothing
or_left : (a b : Bool) → b ≡ false → (a || b) ≡ a
or_left true b e = refl
or_left false b e = e

-- a mark's law, as the code sets every entry
pub walk_mark_lem : (m : ℕ) (ss : List Section) (i s : ℕ) (moved : Bool) (table : List ℕ)
    → walk_from (mark m ∷ ss) i s moved table ≡ walk_from ss (suc i) s (moved || unlike table m s) (set table m s)
unfolding walk_from
walk_mark_lem m ss i s moved table = ap (walk_from ss (suc i) s (moved || unlike table m s)) (set_unlike table m s)

-- a mark before a walk that goes through
mark_through : (m : ℕ) (ss : List Section) (s : ℕ) (moved : Bool) (table : List ℕ) (e : ℕ) (moved' : Bool) (table' : List ℕ) → m < length table
    → Through ss s (moved || unlike table m s) (set table m s) e moved' table' → Through (mark m ∷ ss) s moved table e moved' table'
mark_through m ss s moved table e moved' table' l q =
    record {
      run = (entry (set table m s), set_put table m s l, q.run);
      long = q.long ∙ length-set table m s;
      resting = λ h. q.resting h.1 ∙ or_left moved (unlike table m s) (ap not (eq-eqb (entry table m) s h.0));
      calm = calm;
    }
  where
    calm : moved' ≡ false → (moved ≡ false) × (table' ≡ table) × Still (Sizes width_rule) (mark m ∷ ss) s (entry table) e
    calm h =
        let k = q.calm h in
        let o = or-false moved (unlike table m s) k.0 in
        let i : entry table m ≡ s = eqb-true (entry table m) s (not-false (eqb (entry table m) s) o.1) in
        let j : set table m s ≡ table = set_same table m s i in
        (o.0, k.1 ∙ j, (i, subst (λ (x : List ℕ). Still (Sizes width_rule) ss s (entry x) e) j k.2))

-- a walk that goes through is a run
pub walk_through : (ss : List Section) (i s : ℕ) (moved : Bool) (table : List ℕ) (e : ℕ) (moved' : Bool) (table' : List ℕ) → InTable (length table) ss
    → walk_from ss i s moved table ≡ through e moved' table' → Through ss s moved table e moved' table'
unfolding walk_from
walk_through [] i s moved table e moved' table' k h =
    let a : e ≡ s = cc in
    let b : moved' ≡ moved = cc in
    let c : table' ≡ table = cc in
    record {
      run = (a, λ m. ap (λ (x : List ℕ). entry x m) c);
      long = ap length c;
      resting = λ _. b;
      calm = λ j. (sym b ∙ j, c, a);
    }
walk_through (mark m ∷ ss) i s moved table e moved' table' k h =
    mark_through m ss s moved table e moved' table' (leb-false (length table) m k.0)
    (walk_through ss (suc i) s (moved || unlike table m s) (set table m s) e moved' table' (rw (length-set table m s) k.1) (sym (walk_mark_lem m ss i s moved table) ∙ h))
walk_through (ops bs ∷ ss) i s moved table e moved' table' k h =
    let q = walk_through ss (suc i) (s + length bs) moved table e moved' table' k.1 h in
    record { run = q.run; long = q.long; resting = q.resting; calm = q.calm }
walk_through (bytes bs ∷ ss) i s moved table e moved' table' k h =
    let q = walk_through ss (suc i) (s + length bs) moved table e moved' table' k.1 h in
    record { run = q.run; long = q.long; resting = q.resting; calm = q.calm }
walk_through (reference r ∷ ss) i s moved table e moved' table' k h =
    go (too_narrow r v) refl h (walk_through ss (suc i) (s + size r v) moved table e moved' table' k.1)
  where
    v : ℕ
    v = value_by (entry table) r.mark_ref

    go : (q : Bool) → too_narrow r v ≡ q → cond q (left_at i) (walk_from ss (suc i) (s + size r v) moved table) ≡ through e moved' table'
        → (walk_from ss (suc i) (s + size r v) moved table ≡ through e moved' table' → Through ss (s + size r v) moved table e moved' table')
        → Through (reference r ∷ ss) s moved table e moved' table'
    go true n j rest = let z : ◌≡◌ {A = ℕ} 0 1 = cc in absurd (omega arith)
    go false n j rest =
        let q = rest j in
        record {
          run = (size r v, (refl, n), q.run);
          long = q.long;
          resting = q.resting;
          calm = λ c. let p = q.calm c in (p.0, p.1, (size r v, (refl, n), p.2));
        }

-- so is a pass
pub pass_through : (n : ℕ) (ss : List Section) (table : List ℕ) (e : ℕ) (moved : Bool) (next : List ℕ) → InTable n ss → length table ≡ n
    → pass ss table ≡ through e moved next → Through ss 0 false table e moved next
unfolding pass
pass_through n ss table e moved next k long h = walk_through ss 0 0 false table e moved next (subst (λ (x : ℕ). InTable x ss) (sym long) k) h

-- a walk that is left: the walk over the sections before goes through, and the next is a reference too narrow by the table as it is then
pub record Left (ss : List Section) (i s : ℕ) (moved : Bool) (table : List ℕ) (j : ℕ) : Type 0 where
  pub before : List Section
  pub narrow : AsmReference
  pub later : List Section
  pub parts : ss ≡ before ++ reference narrow ∷ later
  pub index : j ≡ i + length before
  pub sum : ℕ
  pub moved' : Bool
  pub table' : List ℕ
  pub walked : walk_from before i s moved table ≡ through sum moved' table'
  pub too_narrow : too_narrow narrow (value_by (entry table') narrow.mark_ref) ≡ true

-- one more section before
left_cons : {ss : List Section} {i s : ℕ} {moved : Bool} {table : List ℕ} {j s' : ℕ} {moved' : Bool} {table' : List ℕ} (x : Section)
    → ((ps : List Section) → walk_from (x ∷ ps) i s moved table ≡ walk_from ps (suc i) s' moved' table')
    → Left ss (suc i) s' moved' table' j → Left (x ∷ ss) i s moved table j
left_cons x step q =
    record {
      before = x ∷ q.before;
      narrow = q.narrow;
      later = q.later;
      parts = ap (λ (ps : List Section). x ∷ ps) q.parts;
      index = omega (arith, q.index);
      sum = q.sum;
      moved' = q.moved';
      table' = q.table';
      walked = step q.before ∙ q.walked;
      too_narrow = q.too_narrow;
    }

-- a walk that is left
pub walk_left : (ss : List Section) (i s : ℕ) (moved : Bool) (table : List ℕ) (j : ℕ) → walk_from ss i s moved table ≡ left_at j → Left ss i s moved table j
unfolding walk_from
walk_left [] i s moved table j h = let z : ◌≡◌ {A = ℕ} 0 1 = cc in absurd (omega arith)
walk_left (mark m ∷ ss) i s moved table j h =
    left_cons (mark m) (λ ps. refl) (walk_left ss (suc i) s (moved || unlike table m s) (cond (unlike table m s) (set table m s) table) j h)
walk_left (ops bs ∷ ss) i s moved table j h = left_cons (ops bs) (λ ps. refl) (walk_left ss (suc i) (s + length bs) moved table j h)
walk_left (bytes bs ∷ ss) i s moved table j h = left_cons (bytes bs) (λ ps. refl) (walk_left ss (suc i) (s + length bs) moved table j h)
walk_left (reference r ∷ ss) i s moved table j h = go (too_narrow r v) refl h (walk_left ss (suc i) (s + size r v) moved table j)
  where
    v : ℕ
    v = value_by (entry table) r.mark_ref

    go : (q : Bool) → too_narrow r v ≡ q → cond q (left_at i) (walk_from ss (suc i) (s + size r v) moved table) ≡ left_at j
        → (walk_from ss (suc i) (s + size r v) moved table ≡ left_at j → Left ss (suc i) (s + size r v) moved table j)
        → Left (reference r ∷ ss) i s moved table j
    go true n k rest =
        let a : i ≡ j = cc in
        record {
          before = [];
          narrow = r;
          later = ss;
          parts = refl;
          index = omega arith;
          sum = s;
          moved' = moved;
          table' = table;
          walked = refl;
          too_narrow = n;
        }
    go false n k rest = left_cons (reference r) (λ ps. rw n) (rest k)
