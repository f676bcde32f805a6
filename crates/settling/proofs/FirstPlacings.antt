-- The table of first placings: an entry is 0 where the mark is never placed, else one more than the sum of least sizes before its
-- first placing. So 8, 17 and 18, and 9 can be read from it. Assumes nothing.
use Prim.Native.Nat.{ℕ, zero, suc, ◌+◌, ◌≤◌, ◌<◌, suc-le-suc}
use native.Mathlib.Omega.{arith}
use mathlib.Core.Path.{◌≡◌, refl, sym, ap, ◌∙◌}
use mathlib.Core.Bool.{Bool, true, false, cond, not, ◌&&◌, ◌||◌, true≢false, not-not}
use mathlib.Core.List.{List, [], ◌∷◌}
use mathlib.Core.Logic.{◌⊎◌, inl, inr}
use lib.Dec.{eqb, leb}
use lib.ListN.{length, set, replicate, length-set, length-replicate, get_or-replicate}
use lib.Seq.{get_or-set_same, get_or-set_other}
use borrow.Author.Tests.{eqb-true, eqb-false, eq-eqb, ne_eqb, leb-false, leb-true, not-true, not-false}
use Rattle.std.specs.List.{list_any}
use Rattle.std.proofs.lemmas.List.Folds.{list_any_at}
use Rattle.units.specs.Reference.{least_size}
use Rattle.units.specs.declared.MarkReference.{MarkReference}
use Rattle.units.specs.declared.MarkReference.TheVariants.{Direct, Delta}
use Rattle.records.specs.Sections.{Section, mark, ops, bytes, reference}
use Rattle.records.specs.declared.record.StoredSection.{StoredSection}
use Rattle.layout.specs.Passes.{entry}
use Rattle.layout.specs.Conditions.{section_at, sum_of, Never, some_below, places_some, some_mark, names_some, placed, short_at, unplaced_at, bytes_between, apart_at}
use Rattle.layout.proofs.Least.{none_below, some_below_lem}
use Rattle.layout.proofs.Moves.{width_by}
use Rattle.slices.proofs.Tests.{or-false}
use Rattle.layout.proofs.Apart.{least_before, placed_law, ApartBySums, apart_sums}
use Rattle.settling.specs.SectionWalk.{unplaced_words, place_mark, place_from, first_sums, all_placed}
use Rattle.settling.proofs.SectionWords.{NotMark, unplaced_words_lem}
use Rattle.settling.proofs.Sections.{Turn, sum_mono}

-- ---- the entries

-- j is the first placing of m, and x is one more than the sum before it
record FirstAt (ss : List Section) (m sum x : ℕ) : Type 0 where
  j : ℕ
  below : j < length ss
  there : section_at ss j ≡ mark m
  none : (k : ℕ) → k < j → section_at ss k ≡ mark m → ⊥
  is : x ≡ sum + least_before ss j + 1

-- an entry
abbrev Placing : List Section → ℕ → ℕ → ℕ → Type 0
Placing ss m sum x = ((x ≡ 0) × (placed ss m ≡ false)) ⊎ FirstAt ss m sum x

-- an entry that is set stays
pub place_kept : (ss : List Section) (sum : ℕ) (table : List ℕ) (m : ℕ) → (entry table m ≡ 0 → ⊥) → entry (place_from ss sum table) m ≡ entry table m
unfolding place_from
place_kept [] sum table m h = refl
place_kept (mark a ∷ ss) sum table m h = go (eqb (entry table a) 0) refl (λ t k. place_kept ss sum t m k)
  where
    go : (q : Bool) → eqb (entry table a) 0 ≡ q → ((t : List ℕ) → (entry t m ≡ 0 → ⊥) → entry (place_from ss sum t) m ≡ entry t m)
        → entry (place_from ss sum (cond q (set table a (sum + 1)) table)) m ≡ entry table m
    go true e rest =
        let n : m ≡ a → ⊥ = λ d. h (ap (entry table) d ∙ eqb-true (entry table a) 0 e) in
        let o : entry (set table a (sum + 1)) m ≡ entry table m = get_or-set_other table a m (sum + 1) 0 n in
        rest (set table a (sum + 1)) (λ z. h (sym o ∙ z)) ∙ o
    go false e rest = rest table h
place_kept (ops bs ∷ ss) sum table m h = place_kept ss (sum + length bs) table m h
place_kept (bytes bs ∷ ss) sum table m h = place_kept ss (sum + length bs) table m h
place_kept (reference r ∷ ss) sum table m h = place_kept ss (sum + least_size r) table m h

-- a section that places m is the mark m
not_mark : (s : Section) (m : ℕ) → places_some (eqb m) s ≡ false → s ≡ mark m → ⊥
not_mark s m e d = true≢false (sym (ap (places_some (eqb m)) d ∙ eq-eqb m m refl) ∙ e)

-- one section before, which doesn't place m
placing_cons : (s : Section) (ss : List Section) (m sum sum' x : ℕ) → places_some (eqb m) s ≡ false → sum' ≡ sum + width_by least_size s
    → Placing ss m sum' x → Placing (s ∷ ss) m sum x
unfolding placed sum_of
placing_cons s ss m sum sum' x e w (inl h) = inl (h.0, rw (e, h.1))
placing_cons s ss m sum sum' x e w (inr f) =
    inr (record {
      j = suc f.j;
      below = suc-le-suc f.below;
      there = f.there;
      none = none;
      is = omega (arith, f.is);
    })
  where
    none : (k : ℕ) → k < suc f.j → section_at (s ∷ ss) k ≡ mark m → ⊥
    none zero l d = not_mark s m e d
    none (suc k) l d = f.none k (omega arith) d

-- every entry that was 0
placing : (ss : List Section) (sum : ℕ) (table : List ℕ) (m : ℕ) → m < length table → entry table m ≡ 0 → Placing ss m sum (entry (place_from ss sum table) m)
unfolding place_from placed sum_of
placing [] sum table m l z = inl (z, refl)
placing (mark a ∷ ss) sum table m l z = go (eqb m a) refl (λ t k y. placing ss sum t m k y)
  where
    here : m ≡ a → entry (place_from ss sum (place_mark table a sum)) m ≡ sum + 1
    here d =
        let o : entry (set table m (sum + 1)) m ≡ sum + 1 = get_or-set_same table m (sum + 1) 0 l in
        rw (← d, eq-eqb (entry table m) 0 z) (place_kept ss sum (set table m (sum + 1)) m (λ n. omega arith) ∙ o)

    aside : (q : Bool) → (m ≡ a → ⊥) → entry (cond q (set table a (sum + 1)) table) m ≡ 0
    aside true n = get_or-set_other table a m (sum + 1) 0 n ∙ z
    aside false n = z

    long : (q : Bool) → m < length (cond q (set table a (sum + 1)) table)
    long true = omega (arith, length-set table a (sum + 1))
    long false = l

    go : (q : Bool) → eqb m a ≡ q → ((t : List ℕ) → m < length t → entry t m ≡ 0 → Placing ss m sum (entry (place_from ss sum t) m)) → Placing (mark a ∷ ss) m sum (entry (place_from ss sum (place_mark table a sum)) m)
    go true e rest =
        inr (record {
          j = 0;
          below = omega arith;
          there = ap mark (sym (eqb-true m a e));
          none = λ k h. absurd (omega arith);
          is = omega (arith, here (eqb-true m a e));
        })
    go false e rest =
        let q : Bool = eqb (entry table a) 0 in
        placing_cons (mark a) ss m sum sum _ e (omega arith) (rest (cond q (set table a (sum + 1)) table) (long q) (aside q (eqb-false m a e)))
placing (ops bs ∷ ss) sum table m l z = placing_cons (ops bs) ss m sum (sum + length bs) _ refl refl (placing ss (sum + length bs) table m l z)
placing (bytes bs ∷ ss) sum table m l z = placing_cons (bytes bs) ss m sum (sum + length bs) _ refl refl (placing ss (sum + length bs) table m l z)
placing (reference r ∷ ss) sum table m l z = placing_cons (reference r) ss m sum (sum + least_size r) _ refl refl (placing ss (sum + least_size r) table m l z)

-- in the whole table
first_placing : (n : ℕ) (ss : List Section) (m : ℕ) → m < n → Placing ss m 0 (entry (first_sums n ss) m)
unfolding first_sums
first_placing n ss m l = placing ss 0 (replicate n 0) m (omega (arith, length-replicate {A = ℕ} n 0)) (get_or-replicate n m 0 0 l)

-- ---- 8, 17 and 18

-- an entry is 0 exactly where the mark is never placed
entry_unplaced : (n : ℕ) (ss : List Section) (m : ℕ) → m < n → eqb (entry (first_sums n ss) m) 0 ≡ not (placed ss m)
entry_unplaced n ss m l = go (first_placing n ss m l)
  where
    go : Placing ss m 0 (entry (first_sums n ss) m) → eqb (entry (first_sums n ss) m) 0 ≡ not (placed ss m)
    go (inl h) = eq-eqb _ 0 h.0 ∙ sym (ap not h.1)
    go (inr f) = ne_eqb _ 0 (λ (z : entry (first_sums n ss) m ≡ 0). omega (arith, f.is)) ∙ sym (ap not ((placed_law ss m).1 (f.j, f.below, f.there)))

-- two tests that agree below n agree on a reference whose marks are below n
some_same : (n : ℕ) (f g : ℕ → Bool) (mr : MarkReference) → ((m : ℕ) → m < n → f m ≡ g m) → some_mark (leb n) mr ≡ false → some_mark f mr ≡ some_mark g mr
some_same n f g (Direct m) same h = same m.0 (leb-false n m.0 h)
some_same n f g (Delta s) same h =
    let q = or-false (leb n s.start.0) (leb n s.end.0) h in
    rw (same s.start.0 (leb-false n s.start.0 q.0), same s.end.0 (leb-false n s.end.0 q.1))

-- so on a section
pub names_same : (n : ℕ) (f g : ℕ → Bool) (s : Section) → ((m : ℕ) → m < n → f m ≡ g m) → names_some (leb n) s ≡ false → names_some f s ≡ names_some g s
names_same n f g (mark m) same h = refl
names_same n f g (ops bs) same h = refl
names_same n f g (bytes bs) same h = refl
names_same n f g (reference r) same h = some_same n f g r.mark_ref same h

module _ (n : ℕ) (ss : List Section) (in_table : Never ss (short_at n ss)) where
  -- and on each section, where 7 never holds
  named_same : (f g : ℕ → Bool) → ((m : ℕ) → m < n → f m ≡ g m) → (i : ℕ) → i < length ss → names_some f (section_at ss i) ≡ names_some g (section_at ss i)
  unfolding short_at
  named_same f g same i l =
      names_same n f g (section_at ss i) same (or-false (places_some (leb n) (section_at ss i)) (names_some (leb n) (section_at ss i)) (in_table i l)).1

  -- where every mark below n is placed, none of them is said
  pub none_unplaced : ((m : ℕ) → m < n → placed ss m ≡ true) → Never ss (unplaced_at ss)
  unfolding unplaced_at
  none_unplaced all i l = named_same (λ m. not (placed ss m)) (λ m. false) (λ m k. ap not (all m k)) i l ∙ none (section_at ss i)
    where
      none : (s : Section) → names_some (λ m. false) s ≡ false
      none (mark m) = refl
      none (ops bs) = refl
      none (bytes bs) = refl
      none (reference r) = none-mark r.mark_ref
        where
          none-mark : (mr : MarkReference) → some_mark (λ m. false) mr ≡ false
          none-mark (Direct m) = refl
          none-mark (Delta s) = refl

-- a mark's entry is 0
abbrev pub zero_at : List ℕ → ℕ → Bool
zero_at table m = eqb (entry table m) 0

-- an entry with a property, where the library's search finds one
some_entry : (test : ℕ → Bool) (table : List ℕ) → list_any test table ≡ true → (m : ℕ) × (m < length table) × (test (entry table m) ≡ true)
some_entry test [] h = absurd (true≢false (sym h))
some_entry test (x ∷ table) h = go (test x) refl h (λ k. some_entry test table k)
  where
    go : (q : Bool) → test x ≡ q → (q || list_any test table) ≡ true
        → (list_any test table ≡ true → (m : ℕ) × (m < length table) × (test (entry table m) ≡ true))
        → (m : ℕ) × (m < length (x ∷ table)) × (test (entry (x ∷ table) m) ≡ true)
    go true e k rest = (0, omega arith, e)
    go false e k rest = let r = rest k in (suc r.0, suc-le-suc r.1, r.2)

-- the library's search for a 0
pub none_zero : (table : List ℕ) (found : Bool) → found ≡ list_any (λ x. eqb x 0) table → not found ≡ all_placed table
unfolding all_placed
none_zero table found is = ap not (is ∙ go (list_any (λ x. eqb x 0) table) refl (some_below (length table) (zero_at table)) refl)
  where
    go : (a : Bool) → list_any (λ x. eqb x 0) table ≡ a → (b : Bool) → some_below (length table) (zero_at table) ≡ b → a ≡ b
    go true d true e = refl
    go false d false e = refl
    go true d false e =
        let r = some_entry (λ x. eqb x 0) table d in
        absurd (true≢false (sym r.2 ∙ none_below (length table) (zero_at table) r.0 e r.1))
    go false d true e =
        let r = (some_below_lem (length table) (zero_at table)).0 e in
        absurd (true≢false (sym (list_any_at (λ x. eqb x 0) table r.0 0 r.1 r.2) ∙ d))

module _ (n : ℕ) (ss : List Section) (table : List ℕ) (is : table ≡ first_sums n ss) (in_table : Never ss (short_at n ss)) where
  -- an entry of the table
  zero_unplaced : (m : ℕ) → m < n → zero_at table m ≡ not (placed ss m)
  zero_unplaced m l = ap (λ (x : List ℕ). zero_at x m) is ∙ entry_unplaced n ss m l

  -- one of the three of one section, as the code tests it
  pub unplaced_test : (i : ℕ) (x : StoredSection) → Turn ss i x → unplaced_words table x ≡ unplaced_at ss i
  unfolding unplaced_at
  unplaced_test i x t = unplaced_words_lem table t.words ∙ named_same n ss in_table (zero_at table) (λ m. not (placed ss m)) zero_unplaced i t.below

  -- an entry that isn't 0 is of a mark that is placed
  pub entry_placed : (m : ℕ) → m < n → not (zero_at table m) ≡ placed ss m
  entry_placed m l = ap not (zero_unplaced m l) ∙ not-not (placed ss m)

  -- where no entry is 0, it is never said
  pub all_placed_lem : length table ≡ n → all_placed table ≡ true → Never ss (unplaced_at ss)
  unfolding all_placed
  all_placed_lem long h = none_unplaced n ss in_table all
    where
      all : (m : ℕ) → m < n → placed ss m ≡ true
      all m l = not-false _ (sym (zero_unplaced m l) ∙ none_below (length table) (zero_at table) m (not-true _ h) (omega arith))

-- ---- 9

-- 9 of a mark at i whose first placing is at j
apart_mark : (ss : List Section) (i m x : ℕ) → i < length ss → section_at ss i ≡ mark m → FirstAt ss m 0 x → not (eqb x (least_before ss i + 1)) ≡ apart_at ss i
apart_mark ss i m x l e f = go (eqb x (least_before ss i + 1)) refl
  where
    before : f.j ≤ i
    before = leb-case (leb f.j i) refl
      where
        leb-case : (q : Bool) → leb f.j i ≡ q → f.j ≤ i
        leb-case true h = leb-true f.j i h
        leb-case false h = absurd (f.none i (leb-false f.j i h) e)

    apart : (x ≡ least_before ss i + 1 → ⊥) → ApartBySums ss i
    apart d =
        let mono : least_before ss f.j ≤ least_before ss i = sum_mono (width_by least_size) ss f.j i before in
        let other : f.j ≡ i → ⊥ = λ q. d (omega (arith, f.is, ap (least_before ss) q)) in
        (m, f.j, e, omega (arith, before, other), f.there, omega (arith, f.is, d))

    together : x ≡ least_before ss i + 1 → ApartBySums ss i → ⊥
    together d (a, j, at, k, aj, sums) =
        let same : m ≡ a = let h : mark m ≡ mark a = sym e ∙ at in cc in
        nearer (leb f.j j) refl (ap mark (sym same))
      where
        nearer : (q : Bool) → leb f.j j ≡ q → mark a ≡ mark m → ⊥
        nearer true h s = omega (arith, sum_mono (width_by least_size) ss f.j j (leb-true f.j j h), f.is)
        nearer false h s = f.none j (leb-false f.j j h) (aj ∙ s)

    go : (q : Bool) → eqb x (least_before ss i + 1) ≡ q → not q ≡ apart_at ss i
    go true h = is_false (apart_at ss i) refl
      where
        is_false : (b : Bool) → apart_at ss i ≡ b → false ≡ apart_at ss i
        is_false true k = absurd (together (eqb-true x (least_before ss i + 1) h) ((apart_sums ss i l).0 k))
        is_false false k = sym k
    go false h = sym ((apart_sums ss i l).1 (apart (eqb-false x (least_before ss i + 1) h)))

-- 9 is never said of another section
pub apart_none : (ss : List Section) (i : ℕ) → NotMark (section_at ss i) → apart_at ss i ≡ false
unfolding apart_at
apart_none ss i n = go (section_at ss i) n
  where
    go : (s : Section) → NotMark s → places_some (λ m. some_below i (λ j. places_some (eqb m) (section_at ss j) && bytes_between ss j i)) s ≡ false
    go (mark m) o = absurd o
    go (ops bs) o = refl
    go (bytes bs) o = refl
    go (reference r) o = refl

-- 9 of a mark, by its entry
pub apart_test : (n : ℕ) (ss : List Section) (i m : ℕ) → i < length ss → section_at ss i ≡ mark m → m < n
    → not (eqb (entry (first_sums n ss) m) (least_before ss i + 1)) ≡ apart_at ss i
apart_test n ss i m l e h = go (first_placing n ss m h)
  where
    go : Placing ss m 0 (entry (first_sums n ss) m) → not (eqb (entry (first_sums n ss) m) (least_before ss i + 1)) ≡ apart_at ss i
    go (inl z) = absurd (true≢false (sym ((placed_law ss m).1 (i, l, e)) ∙ z.1))
    go (inr f) = apart_mark ss i m (entry (first_sums n ss) m) l e f
