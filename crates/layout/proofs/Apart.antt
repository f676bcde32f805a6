-- 'Placed' and 'placed apart' read another way, for the code: a mark is placed by some section, and bytes stand between two placings
-- exactly when the sums of least sizes before them differ. Assumes nothing.
use Prim.Native.Nat.{ℕ, zero, suc, ◌+◌, ◌≤◌, ◌<◌, suc-le-suc}
use native.Mathlib.Omega.{arith}
use mathlib.Core.Path.{◌≡◌, refl, sym, ◌∙◌, ap}
use mathlib.Core.Bool.{Bool, true, false, ◌&&◌, ◌||◌, false≢true, and-eq-true_iff}
use mathlib.Core.Logic.{◌↔◌}
use mathlib.Core.List.{List, [], ◌∷◌, ◌++◌}
use lib.Dec.{eqb, ltb}
use lib.ListN.{length, take, take-append-drop}
use lib.Seq.{slice, take-take, take-suc}
use borrow.Author.Tests.{eqb-true, eq-eqb, lt-ltb, le-ltb, ltb-true, ltb-false}
use Rattle.units.specs.Reference.{least_size}
use Rattle.records.specs.Sections.{Section, mark, ops, bytes, reference}
use Rattle.layout.specs.Conditions.{section_at, some_below, places_some, placed, has_bytes, some_bytes, bytes_between, apart_at, sum_of}
use Rattle.layout.proofs.Moves.{width_by}
use Rattle.layout.proofs.WidthRule.{least_pos}
use Rattle.layout.proofs.Least.{some_below_lem}

-- a section that places m is the mark m
pub places_mark : (m : ℕ) (s : Section) → places_some (eqb m) s ≡ true → s ≡ mark m
places_mark m (mark a) h = ap mark (sym (eqb-true m a h))
places_mark m (ops bs) h = absurd (false≢true h)
places_mark m (bytes bs) h = absurd (false≢true h)
places_mark m (reference r) h = absurd (false≢true h)

-- some section is the mark m
abbrev pub Somewhere : List Section → ℕ → Type 0
Somewhere ss m = (i : ℕ) × (i < length ss) × (section_at ss i ≡ mark m)

-- a placed mark is somewhere
placed_there : (ss : List Section) (m : ℕ) → placed ss m ≡ true → Somewhere ss m
unfolding placed
placed_there [] m h = absurd (false≢true h)
placed_there (s ∷ ss) m h = go (places_some (eqb m) s) refl h (placed_there ss m)
  where
    go : (q : Bool) → places_some (eqb m) s ≡ q → (q || placed ss m) ≡ true → (placed ss m ≡ true → Somewhere ss m) → Somewhere (s ∷ ss) m
    go true e k rest = (0, omega arith, places_mark m s e)
    go false e k rest =
        let q = rest k in
        (suc q.0, suc-le-suc q.1, q.2)

-- a mark that is somewhere is placed
placed_back : (ss : List Section) (m i : ℕ) → i < length ss → section_at ss i ≡ mark m → placed ss m ≡ true
unfolding placed
placed_back [] m i l e = absurd (omega arith)
placed_back (s ∷ ss) m zero l e = rw (e, eq-eqb m m refl)
placed_back (s ∷ ss) m (suc i) l e = go (places_some (eqb m) s) (placed_back ss m i (omega arith) e)
  where
    go : (q : Bool) → placed ss m ≡ true → (q || placed ss m) ≡ true
    go true h = refl
    go false h = h

-- a mark is placed exactly when some section is that mark
pub placed_law : (ss : List Section) (m : ℕ) → (placed ss m ≡ true) ↔ Somewhere ss m
placed_law ss m = (placed_there ss m, λ h. placed_back ss m h.0 h.1 h.2)

-- ---- bytes and least sizes

-- a sum of which a part is above 0
sum_pos : (a b : ℕ) → ltb 0 (a + b) ≡ (ltb 0 a || ltb 0 b)
sum_pos a b = go (ltb 0 a) refl
  where
    go : (q : Bool) → ltb 0 a ≡ q → ltb 0 (a + b) ≡ (q || ltb 0 b)
    go true e = lt-ltb 0 (a + b) (omega (arith, ltb-true 0 a e))
    go false e =
        let z : a + b ≡ b = omega (arith, ltb-false 0 a e) in
        ap (ltb 0) z

-- a section has bytes exactly when its least size is above 0
has_bytes_lem : (s : Section) → has_bytes s ≡ ltb 0 (width_by least_size s)
has_bytes_lem (mark m) = refl
has_bytes_lem (ops bs) = refl
has_bytes_lem (bytes bs) = refl
has_bytes_lem (reference r) = sym (lt-ltb 0 (least_size r) (least_pos r))

-- so of a list
some_bytes_lem : (ss : List Section) → some_bytes ss ≡ ltb 0 (sum_of (width_by least_size) ss)
unfolding some_bytes sum_of
some_bytes_lem [] = refl
some_bytes_lem (s ∷ ss) = rw (has_bytes_lem s, some_bytes_lem ss) (sym (sum_pos (width_by least_size s) (sum_of (width_by least_size) ss)))

-- the sum of least sizes before section i
abbrev pub least_before : List Section → ℕ → ℕ
least_before ss i = sum_of (width_by least_size) (take i ss)

-- a sum over two lists
sum_append : (f : Section → ℕ) (xs ys : List Section) → sum_of f (xs ++ ys) ≡ sum_of f xs + sum_of f ys
unfolding sum_of
sum_append f [] ys = omega arith
sum_append f (x ∷ xs) ys = omega (arith, sum_append f xs ys)

-- from a mark at j to section i, the least sizes between are added
least_between : (ss : List Section) (m j i : ℕ) → j < i → i ≤ length ss → section_at ss j ≡ mark m
    → least_before ss i ≡ least_before ss j + sum_of (width_by least_size) (slice (suc j) i ss)
unfolding sum_of
least_between ss m j i l k e =
    let w = width_by least_size in
    let a : sum_of w (take (suc j) (take i ss) ++ slice (suc j) i ss) ≡ sum_of w (take i ss) = ap (sum_of w) (take-append-drop (suc j) (take i ss)) in
    let b : sum_of w (take (suc j) (take i ss)) ≡ sum_of w (take (suc j) ss) = ap (sum_of w) (take-take (suc j) i ss l) in
    let c : sum_of w (take (suc j) ss) ≡ sum_of w (take j ss ++ (section_at ss j ∷ [])) = ap (sum_of w) (take-suc ss j (mark 0) (omega arith)) in
    let d : w (section_at ss j) ≡ 0 = ap w e in
    omega (arith, a, b, c, d, sum_append w (take (suc j) (take i ss)) (slice (suc j) i ss), sum_append w (take j ss) (section_at ss j ∷ []))

-- bytes stand between a mark at j and section i exactly when the sums of least sizes before them differ
pub between_sums : (ss : List Section) (m j i : ℕ) → j < i → i ≤ length ss → section_at ss j ≡ mark m
    → bytes_between ss j i ≡ ltb (least_before ss j) (least_before ss i)
between_sums ss m j i l k e = some_bytes_lem (slice (suc j) i ss) ∙ go (ltb 0 between) refl
  where
    between : ℕ
    between = sum_of (width_by least_size) (slice (suc j) i ss)

    go : (q : Bool) → ltb 0 between ≡ q → ltb 0 between ≡ ltb (least_before ss j) (least_before ss i)
    go true h = h ∙ sym (lt-ltb (least_before ss j) (least_before ss i) (omega (arith, ltb-true 0 between h, least_between ss m j i l k e)))
    go false h = h ∙ sym (le-ltb (least_before ss j) (least_before ss i) (omega (arith, ltb-false 0 between h, least_between ss m j i l k e)))

-- section i is a mark, an earlier section is that mark, and bytes stand between them
abbrev pub Parted : List Section → ℕ → Type 0
Parted ss i = (m : ℕ) × (j : ℕ) × (section_at ss i ≡ mark m) × (j < i) × (section_at ss j ≡ mark m) × (bytes_between ss j i ≡ true)

-- m is placed at j, with bytes between it and section i
abbrev parted : List Section → ℕ → ℕ → ℕ → Bool
parted ss i m j = places_some (eqb m) (section_at ss j) && bytes_between ss j i

-- 9 holds of section i exactly so
pub apart_parted : (ss : List Section) (i : ℕ) → (apart_at ss i ≡ true) ↔ Parted ss i
unfolding apart_at
apart_parted ss i = (there (section_at ss i) refl, back)
  where
    there : (x : Section) → section_at ss i ≡ x → places_some (λ m. some_below i (parted ss i m)) x ≡ true → Parted ss i
    there (mark m) e h =
        let q = (some_below_lem i (parted ss i m)).0 h in
        let both = (and-eq-true_iff (places_some (eqb m) (section_at ss q.0)) (bytes_between ss q.0 i)).0 q.2 in
        (m, q.0, e, q.1, places_mark m (section_at ss q.0) both.0, both.1)
    there (ops bs) e h = absurd (false≢true h)
    there (bytes bs) e h = absurd (false≢true h)
    there (reference r) e h = absurd (false≢true h)

    back : Parted ss i → places_some (λ m. some_below i (parted ss i m)) (section_at ss i) ≡ true
    back (m, j, e, k, at, between) = rw e ((some_below_lem i (parted ss i m)).1 (j, k, rw (at, eq-eqb m m refl) between))

-- section i is a mark, an earlier section is that mark, and the sums of least sizes before them differ
abbrev pub ApartBySums : List Section → ℕ → Type 0
ApartBySums ss i =
    (m : ℕ) × (j : ℕ) × (section_at ss i ≡ mark m) × (j < i) × (section_at ss j ≡ mark m) × (least_before ss j < least_before ss i)

-- so too
pub apart_sums : (ss : List Section) (i : ℕ) → i < length ss → (apart_at ss i ≡ true) ↔ ApartBySums ss i
apart_sums ss i l = (λ h. there ((apart_parted ss i).0 h), λ h. (apart_parted ss i).1 (back h))
  where
    there : Parted ss i → ApartBySums ss i
    there (m, j, e, k, at, between) =
        (m, j, e, k, at, ltb-true (least_before ss j) (least_before ss i) (sym (between_sums ss m j i k (omega arith) at) ∙ between))

    back : ApartBySums ss i → Parted ss i
    back (m, j, e, k, at, sums) =
        (m, j, e, k, at, between_sums ss m j i k (omega arith) at ∙ lt-ltb (least_before ss j) (least_before ss i) sums)
