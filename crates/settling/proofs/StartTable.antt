-- The start table is the table of first placings less 1, where no mark is placed apart; and the first placing apart, as the walk has
-- found it so far. Assumes nothing.
use Prim.Native.Nat.{ℕ, zero, suc, ◌+◌, ◌-◌, ◌≤◌, ◌<◌}
use native.Mathlib.Omega.{arith}
use mathlib.Core.Path.{◌≡◌, refl, sym, ap, ap₂, ◌∙◌, subst}
use mathlib.Core.Bool.{Bool, true, false, cond, not}
use mathlib.Core.List.{List, [], ◌∷◌}
use lib.Dec.{eqb}
use lib.ListN.{length, get_or, set, drop, replicate, length-set}
use lib.Seq.{get_or-set_same, ext_get_or}
use borrow.Author.Tests.{eqb-true, eqb-false, not-false}
use Rattle.std.specs.Prelude.{Option, Some, None}
use Rattle.std.specs.Option.{option_or}
use Rattle.std.specs.Bool.{then_some}
use Rattle.slices.proofs.First.{NoneBefore, search_next}
use Rattle.records.specs.Sections.{Section, mark}
use Rattle.layout.specs.Passes.{entry, start_from}
use Rattle.layout.specs.Conditions.{section_at, apart_at}
use Rattle.layout.proofs.Apart.{least_before}
use Rattle.settling.specs.SectionWalk.{Found, place_mark, place_from, first_sums, less_one}
use Rattle.settling.proofs.Turns.{start_at}
use Rattle.settling.proofs.FirstPlacings.{place_kept, apart_test}

-- ---- less 1

pub length_less : (t : List ℕ) → length (less_one t) ≡ length t
unfolding less_one
length_less [] = refl
length_less (x ∷ t) = ap suc (length_less t)

pub less_at : (t : List ℕ) (m : ℕ) → get_or (less_one t) m 0 ≡ get_or t m 0 - 1
unfolding less_one
less_at [] m = refl
less_at (x ∷ t) zero = refl
less_at (x ∷ t) (suc m) = less_at t m

less_set : (t : List ℕ) (m s : ℕ) → less_one (set t m (s + 1)) ≡ set (less_one t) m s
unfolding less_one
less_set [] m s = refl
less_set (x ∷ t) zero s = let e : s + 1 - 1 ≡ s = omega arith in ap (λ (n : ℕ). n ∷ less_one t) e
less_set (x ∷ t) (suc m) s = ap (λ (l : List ℕ). (x - 1) ∷ l) (less_set t m s)

-- an entry set to what it is
set_same : (t : List ℕ) (m s : ℕ) → m < length t → get_or t m 0 ≡ s → set t m s ≡ t
set_same [] m s l e = refl
set_same (x ∷ t) zero s l e = ap (λ (n : ℕ). n ∷ t) (sym e)
set_same (x ∷ t) (suc m) s l e = ap (λ (u : List ℕ). x ∷ u) (set_same t m s (omega arith) e)

pub less_zeros : (n : ℕ) → less_one (replicate n 0) ≡ replicate n 0
unfolding less_one
less_zeros zero = refl
less_zeros (suc n) = ap (λ (l : List ℕ). 0 ∷ l) (less_zeros n)

-- the entries before i are less 1, the others as they were
abbrev pub LessTo : List ℕ → List ℕ → ℕ → Type 0
LessTo old t i = (length t ≡ length old) × ((j : ℕ) → j < i → get_or t j 0 ≡ get_or old j 0 - 1) × ((j : ℕ) → i ≤ j → get_or t j 0 ≡ get_or old j 0)

pub less_done : (old t : List ℕ) (i : ℕ) → LessTo old t i → length old ≤ i → t ≡ less_one old
less_done old t i h l = ext_get_or 0 t (less_one old) (h.0 ∙ sym (length_less old)) (λ j k. h.1 j (omega arith) ∙ sym (less_at old j))

-- ---- a mark placed

pub length_place : (table : List ℕ) (m sum : ℕ) → length (place_mark table m sum) ≡ length table
length_place table m sum = go (eqb (entry table m) 0)
  where
    go : (q : Bool) → length (cond q (set table m (sum + 1)) table) ≡ length table
    go true = length-set table m (sum + 1)
    go false = refl

module _ (table : List ℕ) (m sum : ℕ) (l : m < length table) where
  -- an entry of the table of first placings is never 0 once the mark is placed
  placed_not_zero : entry (place_mark table m sum) m ≡ 0 → ⊥
  placed_not_zero = go (eqb (entry table m) 0) refl
    where
      go : (q : Bool) → eqb (entry table m) 0 ≡ q → entry (cond q (set table m (sum + 1)) table) m ≡ 0 → ⊥
      go true e h = omega (arith, get_or-set_same table m (sum + 1) 0 l)
      go false e h = eqb-false _ 0 e h

  -- not apart, the start table goes on with it
  placed_less : not (eqb (entry (place_mark table m sum) m) (sum + 1)) ≡ false → set (less_one table) m sum ≡ less_one (place_mark table m sum)
  placed_less h = go (eqb (entry table m) 0) refl (eqb-true _ (sum + 1) (not-false _ h))
    where
      go : (q : Bool) → eqb (entry table m) 0 ≡ q → entry (cond q (set table m (sum + 1)) table) m ≡ sum + 1 → set (less_one table) m sum ≡ less_one (cond q (set table m (sum + 1)) table)
      go true e d = sym (less_set table m sum)
      go false e d = set_same (less_one table) m sum (omega (arith, length_less table)) (omega (arith, less_at table m))

  module _ (ss : List Section) (i : ℕ) (k : i < length ss) (e : section_at ss i ≡ mark m) where
    pub start_placed : not (eqb (entry (place_mark table m sum) m) (sum + 1)) ≡ false
        → start_from (drop i ss) sum (less_one table) ≡ start_from (drop (i + 1) ss) sum (less_one (place_mark table m sum))
    start_placed h = start_at ss i k sum (less_one table) m e ∙ ap (start_from (drop (i + 1) ss) sum) (placed_less h)

    -- apart, as 9 has it: the entry stays what it is
    pub placed_apart_lem : (n : ℕ) → m < n → sum ≡ least_before ss i → place_from (drop (i + 1) ss) sum (place_mark table m sum) ≡ first_sums n ss
        → not (eqb (entry (place_mark table m sum) m) (sum + 1)) ≡ apart_at ss i
    placed_apart_lem n h d whole =
        let kept : entry (first_sums n ss) m ≡ entry (place_mark table m sum) m =
        ap (λ (x : List ℕ). entry x m) (sym whole) ∙ place_kept (drop (i + 1) ss) sum (place_mark table m sum) m placed_not_zero in
        ap₂ (λ (x y : ℕ). not (eqb x (y + 1))) (sym kept) d ∙ apart_test n ss i m k e h

-- ---- the first of the numbers before i that a test holds of, if there is one

abbrev pub SoFar : (ℕ → Bool) → ℕ → Option ℕ → Type 0
SoFar test i (Some j) = (j < i) × (test j ≡ true) × NoneBefore test j
SoFar test i None = NoneBefore test i

-- one number more
pub so_next : (test : ℕ → Bool) (i : ℕ) (found found' : Option ℕ) (q : Bool) → SoFar test i found → test i ≡ q → found' ≡ option_or found (then_some q i) → SoFar test (i + 1) found'
so_next test i (Some j) found' q h e d = subst (SoFar test (i + 1)) (sym d) (omega (arith, h.0), h.1, h.2)
so_next test i None found' true h e d = subst (SoFar test (i + 1)) (sym d) (omega arith, e, h)
so_next test i None found' false h e d = subst (SoFar test (i + 1)) (sym d) (search_next test i h e)

-- it isn't one
pub so_same : (test : ℕ → Bool) (i : ℕ) (found found' : Option ℕ) → SoFar test i found → test i ≡ false → found' ≡ found → SoFar test (i + 1) found'
so_same test i (Some j) found' h e d = subst (SoFar test (i + 1)) (sym d) (omega (arith, h.0), h.1, h.2)
so_same test i None found' h e d = subst (SoFar test (i + 1)) (sym d) (search_next test i h e)

-- none so far, none found
pub so_none : (found : Option ℕ) (i : ℕ) (q : Bool) → option_or found (then_some q i) ≡ None → (q ≡ false) × (found ≡ None)
so_none (Some j) i q h = let z : ◌≡◌ {A = ℕ} 0 1 = cc in absurd (omega arith)
so_none None i true h = let z : ◌≡◌ {A = ℕ} 0 1 = cc in absurd (omega arith)
so_none None i false h = (refl, refl)

-- of all sections
pub so_found : (ss : List Section) (test : ℕ → Bool) (i : ℕ) (found : Option ℕ) → SoFar test i found → i ≡ length ss → Found ss test found
so_found ss test i (Some j) h e = (omega (arith, h.0), h.1, h.2)
so_found ss test i None h e = λ j l. h j (omega arith)
