-- One turn of the walks over a store: where a section's marks are in the map, and what 7, 16 and 10 say of the section whose words were
-- read. Assumes nothing.
use Prim.Native.Nat.{ℕ, ◌+◌, ◌*◌, ◌<◌}
use native.Mathlib.Omega.{arith}
use mathlib.Core.Path.{◌≡◌, refl, sym, ◌∙◌, ap, subst}
use mathlib.Core.Bool.{Bool, true, false, not, ◌||◌, true≢false}
use mathlib.Core.List.{List}
use lib.ListN.{length}
use borrow.Author.Tests.{eq-eqb, ne_eqb}
use Rattle.std.proofs.Common.{Option, Some, None}
use Rattle.records.specs.declared.record.AsmSection.{AsmSection}
use Rattle.units.proofs.Forms.{size_found, narrow_found}
use Rattle.records.specs.Record.{read_section}
use Rattle.records.specs.Damage.{unreadable}
use Rattle.records.specs.Store.{store_of, words_per_section, words_at}
use Rattle.records.specs.Sections.{Section, mark, ops, bytes, reference}
use Rattle.undamaged.specs.declared.store.UndamagedStore.{UndamagedStore}
use Rattle.records.specs.declared.record.StoredSection.{StoredSection}
use Rattle.undamaged.proofs.Soundness.{undamaged_iff}
use Rattle.undamaged.proofs.Reading.{Reads, is_damaged_lem, is_mark, is_ops_lem, is_data, is_direct, is_delta_lem, reads}
use Rattle.layout.specs.Passes.{entry, value_by, size_by, unlike}
use Rattle.layout.specs.Conditions.{section_at, places_some, short_at, backward_at}
use Rattle.settling.specs.SectionWalk.{MarksIn}
use Rattle.settling.proofs.SectionWords.{size_section, NotMark}
use Rattle.settling.proofs.Sections.{sum_next}
use Rattle.settling.proofs.StartTable.{SoFar}
use Rattle.settling.proofs.StartTable.{so_next as next_or}
use Rattle.tables.specs.MarkMap.{Covers}
use Rattle.tables.specs.TableTests.{sum_before, differs_at, narrow_by, too_narrow_at, wrong_at}
use Rattle.tables.specs.TableWalk.{earlier, stops_at}

-- ---- marks

-- the marks of words that can be read are mark numbers
max_in : (x : StoredSection) → unreadable (read_section x) ≡ false → MarksIn 1048576 x
max_in x u = go (reads x) u
  where
    go : {v : Option AsmSection} → Reads x.kind x.first x.second v → unreadable v ≡ false → MarksIn 1048576 x
    go is_damaged_lem n = absurd (true≢false n)
    go (is_mark f m) n = record { placed = λ _. omega arith; first = λ h. absurd (omega arith); second = λ h. absurd (omega arith) }
    go (is_ops_lem f l) n = record { placed = λ h. absurd (omega arith); first = λ h. absurd (omega arith); second = λ h. absurd (omega arith) }
    go (is_data f l) n = record { placed = λ h. absurd (omega arith); first = λ h. absurd (omega arith); second = λ h. absurd (omega arith) }
    go (is_direct f m s p g) n = record { placed = λ h. absurd (omega arith); first = λ _. omega arith; second = λ h. absurd (omega arith) }
    go (is_delta_lem l m o s p g) n = record { placed = λ h. absurd (omega arith); first = λ _. omega arith; second = λ _. omega arith }

-- so those of section i of an undamaged store
pub turn_max : (store : UndamagedStore) (i : ℕ) (x : StoredSection) → i < store.counts.sections
    → (i < store.counts.sections → x ≡ words_at words_per_section store.words.now i) → MarksIn 1048576 x
turn_max store i x l e =
    subst (MarksIn 1048576) (sym (e l)) (max_in _ (((undamaged_iff words_per_section (store_of store.counts store.bytes.now store.words.now)).0 store.undamaged).readable i l))

-- the marks that a table of length n has entries for are in a map of so many bytes that covers them
pub marks_covered : (n room : ℕ) (x : StoredSection) → Covers n room → MarksIn n x → MarksIn 1048576 x → MarksIn (8 * room) x
marks_covered n room x h a b =
    record { placed = λ e. omega (arith, a.placed e, b.placed e); first = λ e. omega (arith, a.first e, b.first e); second = λ e. omega (arith, a.second e, b.second e) }

-- ---- the first of the numbers before i that a test holds of, with one number more

pub so_next : (test : ℕ → Bool) (i : ℕ) (found found' : Option ℕ) (q : Bool) → SoFar test i found → test i ≡ q → found' ≡ earlier found i q → SoFar test (i + 1) found'
so_next test i (Some j) found' q h e d = next_or test i (Some j) found' q h e d
so_next test i None found' true h e d = next_or test i None found' true h e d
so_next test i None found' false h e d = next_or test i None found' false h e d

-- ---- 7, 16 and 10 of section i, the sum of sizes before it being what the walk has

module _ (table : List ℕ) (ss : List Section) (i : ℕ) where
  pub stops_short : short_at (length table) ss i ≡ true → stops_at table ss i ≡ true
  stops_short h = rw h

  -- a mark
  differs_mark : (m : ℕ) → section_at ss i ≡ mark m → wrong_at table ss i ≡ (unlike table m (sum_before table ss i) || false)
  unfolding differs_at too_narrow_at
  differs_mark m e = rw e

  or-false : (b : Bool) → (b || false) ≡ b
  or-false true = refl
  or-false false = refl

  pub stops_mark : (m : ℕ) → section_at ss i ≡ mark m → (entry table m ≡ sum_before table ss i → ⊥) → stops_at table ss i ≡ true
  stops_mark m e d =
      ap (λ (b : Bool). short_at (length table) ss i || b) (differs_mark m e ∙ or-false _ ∙ ap not (ne_eqb _ _ d)) ∙ or-true (short_at (length table) ss i)
    where
      or-true : (b : Bool) → (b || true) ≡ true
      or-true true = refl
      or-true false = refl

  pub passes_mark : (m : ℕ) → short_at (length table) ss i ≡ false → section_at ss i ≡ mark m → entry table m ≡ sum_before table ss i → stops_at table ss i ≡ false
  passes_mark m s e d = rw s (differs_mark m e ∙ or-false _ ∙ ap not (eq-eqb _ _ d))

  -- so it can only be a 16
  pub mark_wrong : (m : ℕ) → section_at ss i ≡ mark m → wrong_at table ss i ≡ true → differs_at table ss i ≡ true
  unfolding too_narrow_at
  mark_wrong m e h = sym (or-false (differs_at table ss i)) ∙ ap (λ (b : Bool). differs_at table ss i || b) (sym none) ∙ h
    where
      none : narrow_by table (section_at ss i) ≡ false
      none = ap (narrow_by table) e

  -- another section
  pub other_wrong : NotMark (section_at ss i) → wrong_at table ss i ≡ narrow_by table (section_at ss i)
  unfolding differs_at too_narrow_at
  other_wrong n = go (section_at ss i) n
    where
      go : (x : Section) → NotMark x → (places_some (λ m. unlike table m (sum_before table ss i)) x || narrow_by table x) ≡ narrow_by table x
      go (mark m) o = absurd o
      go (ops bs) o = refl
      go (bytes bs) o = refl
      go (reference r) o = refl

  pub passes_other : (n : ℕ) → short_at (length table) ss i ≡ false → NotMark (section_at ss i) → size_section (entry table) (section_at ss i) ≡ Some n → stops_at table ss i ≡ false
  passes_other n s o e = rw s (other_wrong o ∙ go (section_at ss i) e)
    where
      go : (x : Section) → size_section (entry table) x ≡ Some n → narrow_by table x ≡ false
      go (mark m) k = refl
      go (ops bs) k = refl
      go (bytes bs) k = refl
      go (reference r) k = (size_found r (value_by (entry table) r.mark_ref) n k).0

  pub stops_other : short_at (length table) ss i ≡ false → NotMark (section_at ss i) → size_section (entry table) (section_at ss i) ≡ None → stops_at table ss i ≡ true
  stops_other s o e = rw s (other_wrong o ∙ go (section_at ss i) e)
    where
      go : (x : Section) → size_section (entry table) x ≡ None → narrow_by table x ≡ true
      go (mark m) k = let z : ◌≡◌ {A = ℕ} 0 1 = cc in absurd (omega arith)
      go (ops bs) k = let z : ◌≡◌ {A = ℕ} 0 1 = cc in absurd (omega arith)
      go (bytes bs) k = let z : ◌≡◌ {A = ℕ} 0 1 = cc in absurd (omega arith)
      go (reference r) k = narrow_found r (value_by (entry table) r.mark_ref) k

  -- ---- the sum with one section more

  pub sum_mark : (m : ℕ) → i < length ss → section_at ss i ≡ mark m → sum_before table ss i ≡ sum_before table ss (i + 1)
  sum_mark m l e = let z : size_by (entry table) (section_at ss i) ≡ 0 = ap (size_by (entry table)) e in omega (arith, sum_next (size_by (entry table)) ss i l)

  pub sum_other : (n : ℕ) → i < length ss → size_section (entry table) (section_at ss i) ≡ Some n → sum_before table ss i + n ≡ sum_before table ss (i + 1)
  sum_other n l e = omega (arith, sum_next (size_by (entry table)) ss i l, go (section_at ss i) e)
    where
      go : (x : Section) → size_section (entry table) x ≡ Some n → size_by (entry table) x ≡ n
      go (mark m) k = let z : 0 ≡ n = cc in z
      go (ops bs) k = let z : length bs ≡ n = cc in z
      go (bytes bs) k = let z : length bs ≡ n = cc in z
      go (reference r) k = sym (size_found r (value_by (entry table) r.mark_ref) n k).1

  -- a mark is never backward
  pub mark_forward : (m : ℕ) → section_at ss i ≡ mark m → backward_at table ss i ≡ false
  unfolding backward_at
  mark_forward m e = rw e
