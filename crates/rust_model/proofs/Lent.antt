-- The settling doesn't depend on the table's length: two tables that have an entry for every placed mark are settled alike. So the Rust's
-- table, as long as its allocator makes it, and a lent one come to the same. Assumes nothing.
use Prim.Native.Nat.{ℕ, zero, suc, ◌+◌, ◌-◌, ◌<◌}
use mathlib.Core.Path.{◌≡◌, refl, sym, ap, ◌∙◌, subst}
use mathlib.Core.Bool.{Bool, true, false, cond, not, ◌||◌, true≢false}
use mathlib.Core.List.{List, [], ◌∷◌}
use lib.Dec.{eqb}
use lib.ListN.{length, set, replicate, length-set, length-replicate}
use borrow.Author.Tests.{eqb-true, eqb-false, not-false}
use Rattle.units.specs.Reference.{least_size, size, too_narrow}
use Rattle.units.specs.Replies.{max_passes}
use Rattle.units.specs.declared.MarkReference.{MarkReference}
use Rattle.units.specs.declared.MarkReference.TheVariants.{Direct, Delta}
use Rattle.records.specs.Sections.{Section, mark, ops, bytes, reference}
use Rattle.layout.specs.Passes.{entry, value_by, start_from, start, Walked, through, left_at, unlike, walk_from, pass, Settling, settled, narrow_at, unsettled, ended, passes, settle}
use Rattle.layout.specs.Conditions.{section_at, places_some, some_mark, names_some, placed, Never, unplaced_at}
use Rattle.slices.proofs.Tests.{or-false}
use Rattle.layout.proofs.Walks.{All, set_put, set_unlike, zeros}
use Rattle.layout.proofs.Premises.{all_at}
use Rattle.layout.proofs.Apart.{placed_law}

-- ---- tables alike

module _ (P : ℕ → Bool) where
  -- an entry in both, and the same
  pub record AlikeAt (t u : List ℕ) (m : ℕ) : Type 0 where
    pub first : m < length t
    pub second : m < length u
    pub same : entry t m ≡ entry u m

  -- at every mark that counts
  abbrev pub Alike : List ℕ → List ℕ → Type 0
  Alike t u = (m : ℕ) → P m ≡ true → AlikeAt t u m

  -- a section places and names marks that count
  abbrev pub Uses : Section → Type 0
  Uses s = (places_some (λ m. not (P m)) s ≡ false) × (names_some (λ m. not (P m)) s ≡ false)

  -- an entry set in both
  alike_set : (t u : List ℕ) (m s : ℕ) → P m ≡ true → Alike t u → Alike (set t m s) (set u m s)
  alike_set t u m s p h a q = go (eqb a m) refl
    where
      go : (b : Bool) → eqb a m ≡ b → AlikeAt (set t m s) (set u m s) a
      go true e =
          let is : a ≡ m = eqb-true a m e in
          record {
            first = rw length-set (h a q).first;
            second = rw length-set (h a q).second;
            same = rw is ((set_put t m s (h m p).first).0 ∙ sym (set_put u m s (h m p).second).0);
          }
      go false e =
          record {
            first = rw length-set (h a q).first;
            second = rw length-set (h a q).second;
            same = (set_put t m s (h m p).first).1 a (eqb-false a m e) ∙ (h a q).same ∙ sym ((set_put u m s (h m p).second).1 a (eqb-false a m e));
          }

  -- a reference's value
  pub value_alike : (t u : List ℕ) (r : MarkReference) → some_mark (λ m. not (P m)) r ≡ false → Alike t u → value_by (entry t) r ≡ value_by (entry u) r
  value_alike t u (Direct m) k h = (h m.0 (not-false (P m.0) k)).same
  value_alike t u (Delta d) k h =
      let q = or-false (not (P d.start.0)) (not (P d.end.0)) k in
      let a = (h d.start.0 (not-false (P d.start.0) q.0)).same in
      let b = (h d.end.0 (not-false (P d.end.0) q.1)).same in
      ap (λ (x : ℕ). x - entry t d.start.0) b ∙ ap (λ (x : ℕ). entry u d.end.0 - x) a

  -- ---- the start

  start_alike : (ss : List Section) (sum : ℕ) (t u : List ℕ) → All Uses ss → Alike t u → Alike (start_from ss sum t) (start_from ss sum u)
  unfolding start_from
  start_alike [] sum t u k h = h
  start_alike (mark m ∷ ss) sum t u k h = start_alike ss sum (set t m sum) (set u m sum) k.1 (alike_set t u m sum (not-false (P m) k.0.0) h)
  start_alike (ops x ∷ ss) sum t u k h = start_alike ss (sum + length x) t u k.1 h
  start_alike (bytes x ∷ ss) sum t u k h = start_alike ss (sum + length x) t u k.1 h
  start_alike (reference r ∷ ss) sum t u k h = start_alike ss (sum + least_size r) t u k.1 h

  -- ---- a walk

  abbrev SameWalk : Walked → Walked → Type 0
  SameWalk (through s m t) (through s' m' u) = (s ≡ s') × (m ≡ m') × Alike t u
  SameWalk (through s m t) (left_at j) = ⊥
  SameWalk (left_at i) (through s m u) = ⊥
  SameWalk (left_at i) (left_at j) = i ≡ j

  -- at a mark
  mark_alike : (m : ℕ) (ss : List Section) (i sum : ℕ) (moved : Bool) (t u : List ℕ) → P m ≡ true → Alike t u
      → SameWalk (walk_from ss (suc i) sum (moved || unlike t m sum) (set t m sum)) (walk_from ss (suc i) sum (moved || unlike t m sum) (set u m sum))
      → SameWalk (walk_from (mark m ∷ ss) i sum moved t) (walk_from (mark m ∷ ss) i sum moved u)
  unfolding walk_from
  mark_alike m ss i sum moved t u p h next =
      let e : unlike t m sum ≡ unlike u m sum = ap (λ (x : ℕ). not (eqb x sum)) (h m p).same in
      let a = subst (λ (x : List ℕ). SameWalk (walk_from ss (suc i) sum (moved || unlike t m sum) x) (walk_from ss (suc i) sum (moved || unlike t m sum) (set u m sum))) (sym (set_unlike t m sum)) next in
      let b = subst (λ (x : Bool). SameWalk (walk_from ss (suc i) sum (moved || unlike t m sum) (cond (unlike t m sum) (set t m sum) t)) (walk_from ss (suc i) sum (moved || x) (set u m sum))) e a in
      subst (λ (x : List ℕ). SameWalk (walk_from ss (suc i) sum (moved || unlike t m sum) (cond (unlike t m sum) (set t m sum) t)) (walk_from ss (suc i) sum (moved || unlike u m sum) x)) (sym (set_unlike u m sum)) b

  walk_alike : (ss : List Section) (i sum : ℕ) (moved : Bool) (t u : List ℕ) → All Uses ss → Alike t u → SameWalk (walk_from ss i sum moved t) (walk_from ss i sum moved u)
  unfolding walk_from
  walk_alike [] i sum moved t u k h = (refl, refl, h)
  walk_alike (mark m ∷ ss) i sum moved t u k h =
      let p : P m ≡ true = not-false (P m) k.0.0 in
      mark_alike m ss i sum moved t u p h (walk_alike ss (suc i) sum (moved || unlike t m sum) (set t m sum) (set u m sum) k.1 (alike_set t u m sum p h))
  walk_alike (ops x ∷ ss) i sum moved t u k h = walk_alike ss (suc i) (sum + length x) moved t u k.1 h
  walk_alike (bytes x ∷ ss) i sum moved t u k h = walk_alike ss (suc i) (sum + length x) moved t u k.1 h
  walk_alike (reference r ∷ ss) i sum moved t u k h =
      let v : ℕ = value_by (entry t) r.mark_ref in
      subst
      (λ (x : ℕ). SameWalk
      (cond (too_narrow r v) (left_at i) (walk_from ss (suc i) (sum + size r v) moved t))
      (cond (too_narrow r x) (left_at i) (walk_from ss (suc i) (sum + size r x) moved u)))
      (value_alike t u r.mark_ref k.0.1 h)
      (go (too_narrow r v) _ _ (walk_alike ss (suc i) (sum + size r v) moved t u k.1 h))
    where
      go : (q : Bool) (a b : Walked) → SameWalk a b → SameWalk (cond q (left_at i) a) (cond q (left_at i) b)
      go true a b w = refl
      go false a b w = w

  -- ---- the passes

  abbrev pub SameSettling : Settling → Settling → Type 0
  SameSettling (settled t e k) (settled u e' k') = (e ≡ e') × (k ≡ k') × Alike t u
  SameSettling (settled t e k) (narrow_at j k') = ⊥
  SameSettling (settled t e k) unsettled = ⊥
  SameSettling (narrow_at i k) (settled u e' k') = ⊥
  SameSettling (narrow_at i k) (narrow_at j k') = (i ≡ j) × (k ≡ k')
  SameSettling (narrow_at i k) unsettled = ⊥
  SameSettling unsettled (settled u e' k') = ⊥
  SameSettling unsettled (narrow_at j k') = ⊥
  SameSettling unsettled unsettled = Unit {0}

  passes_alike : (left k : ℕ) (ss : List Section) (t u : List ℕ) → All Uses ss → Alike t u → SameSettling (passes left k ss t) (passes left k ss u)
  unfolding passes pass
  passes_alike zero k ss t u c h = tt
  passes_alike (suc left) k ss t u c h =
      go (walk_from ss 0 0 false t) (walk_from ss 0 0 false u) (walk_alike ss 0 0 false t u c h) (λ t' u' h'. passes_alike left (suc k) ss t' u' c h')
    where
      go : (a b : Walked) → SameWalk a b → ((t' u' : List ℕ) → Alike t' u' → SameSettling (passes left (suc k) ss t') (passes left (suc k) ss u'))
          → SameSettling (ended k (λ next. passes left (suc k) ss next) a) (ended k (λ next. passes left (suc k) ss next) b)
      go (through s false t') (through s' false u') w next = (w.0, refl, w.2)
      go (through s true t') (through s' true u') w next = next t' u' w.2
      go (through s false t') (through s' true u') w next = absurd (true≢false (sym w.1))
      go (through s true t') (through s' false u') w next = absurd (true≢false w.1)
      go (through s m t') (left_at j) w next = absurd w
      go (left_at i) (through s m u') w next = absurd w
      go (left_at i) (left_at j) w next = (w, refl)

-- ---- the settling

-- every section uses placed marks alone, where none that is named is unplaced
pub uses_placed : (ss : List Section) → Never ss (unplaced_at ss) → All (Uses (placed ss)) ss
unfolding unplaced_at
uses_placed ss h = all_at (Uses (placed ss)) ss (λ i l. (here i l (section_at ss i) refl, h i l))
  where
    here : (i : ℕ) → i < length ss → (s : Section) → section_at ss i ≡ s → places_some (λ m. not (placed ss m)) s ≡ false
    here i l (mark m) e = ap not ((placed_law ss m).1 (i, l, e))
    here i l (ops x) e = refl
    here i l (bytes x) e = refl
    here i l (reference r) e = refl

-- tables of zeros are alike where both are long enough
zeros_alike : (P : ℕ → Bool) (n n' : ℕ) → ((m : ℕ) → P m ≡ true → m < n) → ((m : ℕ) → P m ≡ true → m < n') → Alike P (replicate n 0) (replicate n' 0)
zeros_alike P n n' a b m p =
    record {
      first = rw (length-replicate {A = ℕ} n 0) (a m p);
      second = rw (length-replicate {A = ℕ} n' 0) (b m p);
      same = zeros n m ∙ sym (zeros n' m);
    }

-- the settling by two lengths, each above every placed mark
pub settle_alike : (n n' : ℕ) (ss : List Section) → Never ss (unplaced_at ss) → ((m : ℕ) → placed ss m ≡ true → m < n)
    → ((m : ℕ) → placed ss m ≡ true → m < n') → SameSettling (placed ss) (settle n ss) (settle n' ss)
unfolding settle start
settle_alike n n' ss h a b =
    let c = uses_placed ss h in
    passes_alike (placed ss) max_passes 1 ss _ _ c (start_alike (placed ss) ss 0 _ _ c (zeros_alike (placed ss) n n' a b))
