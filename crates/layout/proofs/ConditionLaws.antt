-- The tests for 7, 8 with 17 and 18, 9 and 12 by positions in a list of sections. Assumes nothing.
use Prim.Native.Nat.{ℕ, zero, suc, ◌+◌, ◌-◌, ◌≤◌, ◌<◌, suc-le-suc}
use native.Mathlib.Omega.{arith}
use mathlib.Core.Path.{◌≡◌, refl, sym, ◌∙◌, ap, subst}
use mathlib.Core.Bool.{Bool, true, false, cond, not, ◌||◌, false≢true, true≢false}
use mathlib.Core.Logic.{◌↔◌, ◌⊎◌, inl, inr}
use mathlib.Core.List.{List, [], ◌∷◌}
use lib.Dec.{leb}
use lib.ListN.{length, take}
use lib.Seq.{slice, length-slice, get_or-drop, get_or-take}
use borrow.Author.Tests.{lt-ltb, ltb-true, le-leb, leb-true, not-true}
use Rattle.units.specs.declared.MarkReference.{MarkReference}
use Rattle.units.specs.declared.MarkReference.TheVariants.{Direct, Delta}
use Rattle.units.specs.declared.AsmReference.{AsmReference}
use Rattle.records.specs.Sections.{Section, mark, ops, bytes, reference}
use Rattle.layout.specs.Passes.{entry}
use Rattle.layout.specs.Conditions.{section_at, IsFirst, places_some, some_mark, names_some, refers, placed, short_at, unplaced_at, has_bytes, some_bytes, bytes_between, apart_at, backward_by, backward_at}
use Rattle.layout.specs.Conditions.{Missing, direct_mark, delta_start, delta_end, missing_of, missing_in, missing_at}
use Rattle.layout.specs.ConditionLaws.{Places, Misses, FirstMisses, MarkOf, Names, HasBytes, BytesBetween, EndsBefore, ConditionLaws}
use Rattle.layout.proofs.Apart.{placed_law, Parted, apart_parted}

-- one of two tests holds
or_there : (a b : Bool) → (a || b) ≡ true → (a ≡ true) ⊎ (b ≡ true)
or_there true b h = inl refl
or_there false b h = inr h

or_back : (a b : Bool) → (a ≡ true) ⊎ (b ≡ true) → (a || b) ≡ true
or_back true b h = refl
or_back false b (inl h) = absurd (false≢true h)
or_back false b (inr h) = h

-- ---- a section's marks

module _ (test : ℕ → Bool) where
  -- some mark of a reference
  some_mark_lem : (r : MarkReference) → (some_mark test r ≡ true) ↔ ((m : ℕ) × MarkOf r m × (test m ≡ true))
  some_mark_lem (Direct a) = (λ h. (a.0, refl, h), λ (m, e, h). rw e h)
  some_mark_lem (Delta d) = (λ h. there (or_there (test d.start.0) (test d.end.0) h), λ (m, e, h). or_back (test d.start.0) (test d.end.0) (back m e h))
    where
      there : (test d.start.0 ≡ true) ⊎ (test d.end.0 ≡ true) → (m : ℕ) × MarkOf (Delta d) m × (test m ≡ true)
      there (inl h) = (d.start.0, inl refl, h)
      there (inr h) = (d.end.0, inr refl, h)

      back : (m : ℕ) → MarkOf (Delta d) m → test m ≡ true → (test d.start.0 ≡ true) ⊎ (test d.end.0 ≡ true)
      back m (inl e) h = inl (rw e h)
      back m (inr e) h = inr (rw e h)

  -- a section that places one
  places_some_lem : (s : Section) → (places_some test s ≡ true) ↔ ((m : ℕ) × (s ≡ mark m) × (test m ≡ true))
  places_some_lem s = (there s, λ (m, e, h). rw e h)
    where
      there : (x : Section) → places_some test x ≡ true → (m : ℕ) × (x ≡ mark m) × (test m ≡ true)
      there (mark m) h = (m, refl, h)
      there (ops bs) h = absurd (false≢true h)
      there (bytes bs) h = absurd (false≢true h)
      there (reference r) h = absurd (false≢true h)

  -- or names one
  names_some_lem : (s : Section) → (names_some test s ≡ true) ↔ ((m : ℕ) × (r : AsmReference) × (s ≡ reference r) × MarkOf r.mark_ref m × (test m ≡ true))
  names_some_lem s = (there s, λ (m, r, e, of, h). rw e ((some_mark_lem r.mark_ref).1 (m, of, h)))
    where
      there : (x : Section) → names_some test x ≡ true → (m : ℕ) × (r : AsmReference) × (x ≡ reference r) × MarkOf r.mark_ref m × (test m ≡ true)
      there (mark m) h = absurd (false≢true h)
      there (ops bs) h = absurd (false≢true h)
      there (bytes bs) h = absurd (false≢true h)
      there (reference r) h = let q = (some_mark_lem r.mark_ref).0 h in (q.0, r, refl, q.1, q.2)

-- ---- 7; 8, 17 and 18

module _ (ss : List Section) where
  -- 7
  short_place : (n i : ℕ) → i < length ss → (short_at n ss i ≡ true) ↔ ((m : ℕ) × (Places ss i m ⊎ Names ss i m) × (n ≤ m))
  unfolding short_at
  short_place n i l = (λ h. there (or_there placing naming h), λ (m, at, h). or_back placing naming (back m at h))
    where
      placing : Bool
      placing = places_some (leb n) (section_at ss i)

      naming : Bool
      naming = names_some (leb n) (section_at ss i)

      there : (placing ≡ true) ⊎ (naming ≡ true) → (m : ℕ) × (Places ss i m ⊎ Names ss i m) × (n ≤ m)
      there (inl h) = let q = (places_some_lem (leb n) (section_at ss i)).0 h in (q.0, inl (l, q.1), leb-true n q.0 q.2)
      there (inr h) = let q = (names_some_lem (leb n) (section_at ss i)).0 h in (q.0, inr (l, q.1, q.2, q.3), leb-true n q.0 q.4)

      back : (m : ℕ) → Places ss i m ⊎ Names ss i m → n ≤ m → (placing ≡ true) ⊎ (naming ≡ true)
      back m (inl (k, e)) h = inl ((places_some_lem (leb n) (section_at ss i)).1 (m, e, le-leb n m h))
      back m (inr (k, r, e, of)) h = inr ((names_some_lem (leb n) (section_at ss i)).1 (m, r, e, of, le-leb n m h))

  -- a mark is absent exactly when no section places it
  absent_law : (m : ℕ) → (not (placed ss m) ≡ true) ↔ ((j : ℕ) → Places ss j m → ⊥)
  absent_law m = (λ h j at. there (placed ss m) h ((placed_law ss m).1 (j, at.0, at.1)), λ h. back (placed ss m) refl h)
    where
      there : (b : Bool) → not b ≡ true → b ≡ true → ⊥
      there true h e = false≢true h
      there false h e = false≢true e

      back : (b : Bool) → placed ss m ≡ b → ((j : ℕ) → Places ss j m → ⊥) → not b ≡ true
      back true e h = let q = (placed_law ss m).0 e in absurd (h q.0 (q.1, q.2))
      back false e h = refl

  -- 8, 17 and 18
  unplaced_place : (i : ℕ) → i < length ss → (unplaced_at ss i ≡ true) ↔ ((m : ℕ) × Names ss i m × ((j : ℕ) → Places ss j m → ⊥))
  unfolding unplaced_at
  unplaced_place i l = (there, back)
    where
      there : names_some (λ m. not (placed ss m)) (section_at ss i) ≡ true → (m : ℕ) × Names ss i m × ((j : ℕ) → Places ss j m → ⊥)
      there h =
          let q = (names_some_lem (λ m. not (placed ss m)) (section_at ss i)).0 h in
          (q.0, (l, q.1, q.2, q.3), (absent_law q.0).0 q.4)

      back : (m : ℕ) × Names ss i m × ((j : ℕ) → Places ss j m → ⊥) → names_some (λ m. not (placed ss m)) (section_at ss i) ≡ true
      back (m, (k, r, e, of), h) = (names_some_lem (λ m. not (placed ss m)) (section_at ss i)).1 (m, r, e, of, (absent_law m).1 h)

  -- which of the three
  missing_place : (x : Missing) (i : ℕ) → ((unplaced_at ss i ≡ true) × (missing_at ss i ≡ x)) ↔ Misses ss i x
  unfolding unplaced_at missing_at
  missing_place x i = (λ (h, k). subst (Misses ss i) k (there (section_at ss i) refl h), back x)
    where
      there : (s : Section) → section_at ss i ≡ s → names_some (λ m. not (placed ss m)) s ≡ true → Misses ss i (missing_in (placed ss) s)
      there (mark m) e h = absurd (false≢true h)
      there (ops bs) e h = absurd (false≢true h)
      there (bytes bs) e h = absurd (false≢true h)
      there (reference r) e h = go r.mark_ref refl h
        where
          go : (mr : MarkReference) → r.mark_ref ≡ mr → some_mark (λ m. not (placed ss m)) mr ≡ true → Misses ss i (missing_of (placed ss) mr)
          go (Direct m) f h = (m, (r, e, f), (absent_law m.0).0 h)
          go (Delta d) f h = ends (placed ss d.start.0) refl h
            where
              ends : (b : Bool) → placed ss d.start.0 ≡ b → (not b || not (placed ss d.end.0)) ≡ true → Misses ss i (cond b delta_end delta_start)
              ends true q h = let at = (placed_law ss d.start.0).0 q in (d, (r, e, f), (at.0, (at.1, at.2)), (absent_law d.end.0).0 h)
              ends false q h = (d, (r, e, f), (absent_law d.start.0).0 (ap not q))

      back : (x : Missing) → Misses ss i x
          → (names_some (λ m. not (placed ss m)) (section_at ss i) ≡ true) × (missing_in (placed ss) (section_at ss i) ≡ x)
      back direct_mark (m, (r, e, f), h) = rw (e, f) ((absent_law m.0).1 h, refl)
      back delta_start (d, (r, e, f), h) = rw (e, f, not-true (placed ss d.start.0) ((absent_law d.start.0).1 h)) (refl, refl)
      back delta_end (d, (r, e, f), (j, at), h) = rw (e, f, (placed_law ss d.start.0).1 (j, at.0, at.1)) ((absent_law d.end.0).1 h, refl)

  -- the first section with any of them
  first_missing : (x : Missing) (i : ℕ) → (IsFirst ss (unplaced_at ss) i × (missing_at ss i ≡ x)) ↔ FirstMisses ss i x
  first_missing x i = (
    λ (h, e). (h.0, (missing_place x i).0 (h.1, e), λ j l y m. true≢false (sym ((missing_place y j).1 m).0 ∙ h.2 j l)),
    λ (l, m, none). let q = (missing_place x i).1 m in ((l, q.0, λ j k. not-here j (unplaced_at ss j) refl (none j k)), q.1),
  )
    where
      not-here : (j : ℕ) (b : Bool) → unplaced_at ss j ≡ b → ((y : Missing) → Misses ss j y → ⊥) → b ≡ false
      not-here j true e none = absurd (none (missing_at ss j) ((missing_place (missing_at ss j) j).0 (e, refl)))
      not-here j false e none = refl

-- ---- 9

-- a section has bytes
pub bytes_law : (s : Section) → (has_bytes s ≡ true) ↔ HasBytes s
bytes_law (mark m) = (λ h. absurd (false≢true h), λ h. absurd h)
bytes_law (ops bs) = (ltb-true 0 (length bs), lt-ltb 0 (length bs))
bytes_law (bytes bs) = (ltb-true 0 (length bs), lt-ltb 0 (length bs))
bytes_law (reference r) = (λ h. tt, λ h. refl)

-- one of a list has
some_there : (ss : List Section) → some_bytes ss ≡ true → (k : ℕ) × (k < length ss) × HasBytes (section_at ss k)
unfolding some_bytes
some_there [] h = absurd (false≢true h)
some_there (s ∷ ss) h = go (or_there (has_bytes s) (some_bytes ss) h) (some_there ss)
  where
    go : (has_bytes s ≡ true) ⊎ (some_bytes ss ≡ true) → (some_bytes ss ≡ true → (k : ℕ) × (k < length ss) × HasBytes (section_at ss k))
        → (k : ℕ) × (k < length (s ∷ ss)) × HasBytes (section_at (s ∷ ss) k)
    go (inl e) rest = (0, omega arith, (bytes_law s).0 e)
    go (inr e) rest = let q = rest e in (suc q.0, suc-le-suc q.1, q.2)

some_back : (ss : List Section) (k : ℕ) → k < length ss → HasBytes (section_at ss k) → some_bytes ss ≡ true
unfolding some_bytes
some_back [] k l h = absurd (omega arith)
some_back (s ∷ ss) zero l h = or_back (has_bytes s) (some_bytes ss) (inl ((bytes_law s).1 h))
some_back (s ∷ ss) (suc k) l h = or_back (has_bytes s) (some_bytes ss) (inr (some_back ss k (omega arith) h))

module _ (ss : List Section) (j i : ℕ) (l : i ≤ length ss) where
  -- a section between, by its position there
  between_at : (k : ℕ) → suc j + k < i → section_at (slice (suc j) i ss) k ≡ section_at ss (suc j + k)
  between_at k h = get_or-drop (suc j) (take i ss) k (mark 0) ∙ get_or-take i ss (suc j + k) (mark 0) h

  -- bytes stand between
  between_law : (bytes_between ss j i ≡ true) ↔ BytesBetween ss j i
  between_law = (λ h. there (some_there (slice (suc j) i ss) h), back)
    where
      there : (k : ℕ) × (k < length (slice (suc j) i ss)) × HasBytes (section_at (slice (suc j) i ss) k) → BytesBetween ss j i
      there (k, h, b) =
          let within : suc j + k < i = omega (arith, length-slice (suc j) i ss l) in
          (suc j + k, omega arith, within, subst HasBytes (between_at k within) b)

      back : BytesBetween ss j i → bytes_between ss j i ≡ true
      back (k, a, b, h) =
          let d : ℕ = k - suc j in
          let e : suc j + d ≡ k = omega arith in
          let same : section_at (slice (suc j) i ss) d ≡ section_at ss k = between_at d (omega arith) ∙ ap (section_at ss) e in
          some_back (slice (suc j) i ss) d (omega (arith, length-slice (suc j) i ss l)) (subst HasBytes (sym same) h)

-- 9
apart_place : (ss : List Section) (i : ℕ) → i < length ss
    → (apart_at ss i ≡ true) ↔ ((m : ℕ) × (j : ℕ) × Places ss i m × Places ss j m × (j < i) × BytesBetween ss j i)
apart_place ss i l = (λ h. there ((apart_parted ss i).0 h), λ h. (apart_parted ss i).1 (back h))
  where
    there : Parted ss i → (m : ℕ) × (j : ℕ) × Places ss i m × Places ss j m × (j < i) × BytesBetween ss j i
    there (m, j, e, k, at, h) = (m, j, (l, e), (omega arith, at), k, (between_law ss j i (omega arith)).0 h)

    back : (m : ℕ) × (j : ℕ) × Places ss i m × Places ss j m × (j < i) × BytesBetween ss j i → Parted ss i
    back (m, j, (a, e), (b, at), k, h) = (m, j, e, k, at, (between_law ss j i (omega arith)).1 h)

-- ---- 12

-- 12
backward_place : (table : List ℕ) (ss : List Section) (i : ℕ) → (backward_at table ss i ≡ true) ↔ EndsBefore table ss i
unfolding backward_at
backward_place table ss i = (there (section_at ss i) refl, back)
  where
    there : (x : Section) → section_at ss i ≡ x → refers (backward_by table) x ≡ true → EndsBefore table ss i
    there (mark m) e h = absurd (false≢true h)
    there (ops bs) e h = absurd (false≢true h)
    there (bytes bs) e h = absurd (false≢true h)
    there (reference r) e h = go r.mark_ref refl h
      where
        go : (x : MarkReference) → r.mark_ref ≡ x → backward_by table x ≡ true → EndsBefore table ss i
        go (Direct a) f g = absurd (false≢true g)
        go (Delta d) f g = (r, d, e, f, ltb-true (entry table d.end.0) (entry table d.start.0) g)

    back : EndsBefore table ss i → refers (backward_by table) (section_at ss i) ≡ true
    back (r, d, e, f, h) = rw (e, f) (lt-ltb (entry table d.end.0) (entry table d.start.0) h)

-- all of them
pub condition_laws : (ss : List Section) → ConditionLaws ss
condition_laws ss = record {
  placed_iff = λ m. (λ h. let q = (placed_law ss m).0 h in (q.0, (q.1, q.2)), λ (i, (l, e)). (placed_law ss m).1 (i, l, e));
  short_iff = short_place ss;
  unplaced_iff = unplaced_place ss;
  missing_iff = λ x i l. missing_place ss x i;
  first_missing_iff = first_missing ss;
  apart_iff = apart_place ss;
  backward_iff = λ table i l. backward_place table ss i;
}
