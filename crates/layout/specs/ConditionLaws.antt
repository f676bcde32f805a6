-- Document 01, 'Replies', and document 02, request 5: what the tests for 7, 8 with 17 and 18, 9 and 12 (Conditions) say, by positions in a
-- list of sections and with no search. That they say it is `condition_laws` of proofs/ConditionLaws. Assumes nothing.
use Rattle.std.specs.Prelude.{ℕ, ◌≤◌, ◌<◌, ◌≡◌, true, ◌↔◌, ◌⊎◌, List, length}
use Rattle.units.specs.declared.Span.{Span}
use Rattle.units.specs.declared.MarkId.{MarkId}
use Rattle.units.specs.declared.MarkReference.{MarkReference}
use Rattle.units.specs.declared.MarkReference.TheVariants.{Direct, Delta}
use Rattle.units.specs.declared.AsmReference.{AsmReference}
use Rattle.records.specs.Sections.{Section, mark, ops, bytes, reference}
use Rattle.layout.specs.Passes.{entry}
use Rattle.layout.specs.Conditions.{section_at, IsFirst, placed, short_at, unplaced_at, apart_at, backward_at}
use Rattle.layout.specs.Conditions.{Missing, direct_mark, delta_start, delta_end, missing_at}

-- 'A mark is placed by each Mark section with its number': section i places m
abbrev pub Places : List Section → ℕ → ℕ → Type 0
Places ss i m = (i < length ss) × (section_at ss i ≡ mark m)

-- m is the mark of a direct reference, or one of the two of a delta
abbrev pub MarkOf : MarkReference → ℕ → Type 0
MarkOf (Direct a) m = a.0 ≡ m
MarkOf (Delta d) m = (d.start.0 ≡ m) ⊎ (d.end.0 ≡ m)

-- 'and named by each reference to it': section i names m
abbrev pub Names : List Section → ℕ → ℕ → Type 0
Names ss i m = (i < length ss) × (r : AsmReference) × (section_at ss i ≡ reference r) × MarkOf r.mark_ref m

-- m is 'never placed'
abbrev pub NeverPlaced : List Section → ℕ → Type 0
NeverPlaced ss m = (j : ℕ) → Places ss j m → ⊥

-- section i is a reference to this: a mark, or the two of a delta
abbrev pub RefersBy : List Section → ℕ → MarkReference → Type 0
RefersBy ss i x = (r : AsmReference) × (section_at ss i ≡ reference r) × (r.mark_ref ≡ x)

-- document 02, request 5: section i misses this mark
abbrev pub Misses : List Section → ℕ → Missing → Type 0
-- 8: 'a direct reference's mark only'
Misses ss i direct_mark = (m : MarkId) × RefersBy ss i (Direct m) × NeverPlaced ss m.0
-- 17: 'a delta's start unplaced', be its end placed or not: 'If both ends are absent the start is reported'
Misses ss i delta_start = (d : Span MarkId) × RefersBy ss i (Delta d) × NeverPlaced ss d.start.0
-- 18: 'a delta's end unplaced', its start placed
Misses ss i delta_end =
    (d : Span MarkId) × RefersBy ss i (Delta d) × ((j : ℕ) × Places ss j d.start.0) × NeverPlaced ss d.end.0

-- 'the first section winning': section i misses this mark, and no earlier one misses any
abbrev pub FirstMisses : List Section → ℕ → Missing → Type 0
FirstMisses ss i x = (i < length ss) × Misses ss i x × ((j : ℕ) → j < i → (y : Missing) → Misses ss j y → ⊥)

-- 'a reference, or an Ops or Data section that isn't empty'
abbrev pub HasBytes : Section → Type 0
HasBytes (mark m) = ⊥
HasBytes (ops bs) = 0 < length bs
HasBytes (bytes bs) = 0 < length bs
HasBytes (reference r) = Unit {0}

-- 'Bytes stand between two placings', at j and i
abbrev pub BytesBetween : List Section → ℕ → ℕ → Type 0
BytesBetween ss j i = (k : ℕ) × (j < k) × (k < i) × HasBytes (section_at ss k)

-- section i is a delta with its end below its start by the table
abbrev pub EndsBefore : List ℕ → List Section → ℕ → Type 0
EndsBefore table ss i =
    (r : AsmReference) × (d : Span MarkId) × (section_at ss i ≡ reference r) × (r.mark_ref ≡ Delta d)
    × (entry table d.end.0 < entry table d.start.0)

-- when each test passes, of section i of a list
pub record ConditionLaws (ss : List Section) : Type 0 where
  pub placed_iff : (m : ℕ) → (placed ss m ≡ true) ↔ ((i : ℕ) × Places ss i m)
  -- 7: 'a mark placed or named is not below the table's length', n
  pub short_iff : (n i : ℕ) → i < length ss → (short_at n ss i ≡ true) ↔ ((m : ℕ) × (Places ss i m ⊎ Names ss i m) × (n ≤ m))
  -- 8, 17 and 18: 'a named mark is never placed'
  pub unplaced_iff : (i : ℕ) → i < length ss → (unplaced_at ss i ≡ true) ↔ ((m : ℕ) × Names ss i m × NeverPlaced ss m)
  -- which of the three it is
  pub missing_iff : (x : Missing) (i : ℕ) → i < length ss → ((unplaced_at ss i ≡ true) × (missing_at ss i ≡ x)) ↔ Misses ss i x
  -- and that it is the first
  pub first_missing_iff : (x : Missing) (i : ℕ) → (IsFirst ss (unplaced_at ss) i × (missing_at ss i ≡ x)) ↔ FirstMisses ss i x
  -- 9: 'a mark's placing has bytes between it and an earlier one'
  pub apart_iff : (i : ℕ) → i < length ss
      → (apart_at ss i ≡ true) ↔ ((m : ℕ) × (j : ℕ) × Places ss i m × Places ss j m × (j < i) × BytesBetween ss j i)
  -- 12: 'a settled delta has its end below its start'
  pub backward_iff : (table : List ℕ) (i : ℕ) → i < length ss → (backward_at table ss i ≡ true) ↔ EndsBefore table ss i
