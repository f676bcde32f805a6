-- Document 01, module 3 and 'Replies': the conditions for 7, 8 (and, of document 02, request 5, for 17 and 18), 9 and 12 by the first
-- section that .., those for 10, 11 and settled by the pass that .., and the premise of demand 3. Readings 22 to 25, 79 and 80 of
-- docs/DECISIONS.md. Assumes nothing.
use Rattle.std.specs.Prelude.{ℕ, zero, suc, ◌+◌, ◌*◌, ◌^◌, ◌≤◌, ◌<◌, ◌≡◌, Bool, true, false, cond, not, ◌&&◌, ◌||◌, List, [], ◌∷◌, leb, ltb, eqb, length, get_or, None, Option, Some}
use Rattle.std.proofs.Math.Seq.{slice}
use Rattle.units.specs.declared.RefSize.{RefSize}
use Rattle.units.specs.Replies.{max_passes}
use Rattle.units.specs.declared.AsmReference.{AsmReference}
use Rattle.units.specs.declared.MarkReference.{MarkReference}
use Rattle.units.specs.declared.MarkReference.TheVariants.{Direct, Delta}
use Rattle.records.specs.Sections.{Section, mark, ops, bytes, reference}
use Rattle.slices.specs.First.{least_from}
use Rattle.layout.specs.Passes.{entry, start, Walked, through, left_at, pass, Settling, settled, narrow_at, unsettled}

-- section i of a list (i is below its length wherever this counts)
abbrev pub section_at : List Section → ℕ → Section
section_at ss i = get_or ss i (mark 0)

-- the first section of a list with a property of its index; the length if there is none
abbrev pub first : List Section → (ℕ → Bool) → ℕ
first ss test = least_from test (length ss) 0

-- section i is the first with a property
abbrev pub IsFirst : List Section → (ℕ → Bool) → ℕ → Type 0
IsFirst ss test i = (i < length ss) × (test i ≡ true) × ((j : ℕ) → j < i → test j ≡ false)

-- no section has a property
abbrev pub Never : List Section → (ℕ → Bool) → Type 0
Never ss test = (i : ℕ) → i < length ss → test i ≡ false

-- a number below n with a property
abbrev pub some_below : ℕ → (ℕ → Bool) → Bool
some_below n test = ltb (least_from test n 0) n

-- a section that places a mark with a property
abbrev pub places_some : (ℕ → Bool) → Section → Bool
places_some test (mark m) = test m
places_some test (ops bs) = false
places_some test (bytes bs) = false
places_some test (reference r) = false

-- one of the marks of a reference has a property
abbrev pub some_mark : (ℕ → Bool) → MarkReference → Bool
some_mark test (Direct m) = test m.0
some_mark test (Delta s) = test s.start.0 || test s.end.0

-- a reference with a property of what it refers to
abbrev pub refers : (MarkReference → Bool) → Section → Bool
refers test (mark m) = false
refers test (ops bs) = false
refers test (bytes bs) = false
refers test (reference r) = test r.mark_ref

-- a section that names a mark with a property: a mark is 'named by each reference to it'
abbrev pub names_some : (ℕ → Bool) → Section → Bool
names_some test = refers (some_mark test)

-- 'A mark is placed by each Mark section with its number'
unfoldable pub placed : List Section → ℕ → Bool
placed [] m = false
placed (s ∷ ss) m = places_some (eqb m) s || placed ss m

-- 7: 'a mark placed or named is not below the table's length'
unfoldable pub short_at : ℕ → List Section → ℕ → Bool
short_at n ss i = places_some (leb n) (section_at ss i) || names_some (leb n) (section_at ss i)

-- the section of a 7
unfoldable pub first_short : ℕ → List Section → ℕ
first_short n ss = first ss (short_at n ss)

-- 8, 17 and 18: 'a named mark is never placed'
unfoldable pub unplaced_at : List Section → ℕ → Bool
unplaced_at ss i = names_some (λ m. not (placed ss m)) (section_at ss i)

-- the section of an 8, 17 or 18: 'both in 8's position, the first section winning'
unfoldable pub first_unplaced : List Section → ℕ
first_unplaced ss = first ss (unplaced_at ss)

-- document 02, request 5: which mark a section misses, 'a direct reference's mark', 'a delta's start' or 'a delta's end'
pub data Missing : Type 0 where
  direct_mark : Missing
  delta_start : Missing
  delta_end : Missing

-- of a reference with an unplaced mark: 'If both ends are absent the start is reported'
abbrev pub missing_of : (ℕ → Bool) → MarkReference → Missing
missing_of is_placed (Direct m) = direct_mark
missing_of is_placed (Delta s) = cond (is_placed s.start.0) delta_end delta_start

-- of a section with one (of another it says nothing)
abbrev pub missing_in : (ℕ → Bool) → Section → Missing
missing_in is_placed (mark m) = direct_mark
missing_in is_placed (ops bs) = direct_mark
missing_in is_placed (bytes bs) = direct_mark
missing_in is_placed (reference r) = missing_of is_placed r.mark_ref

-- of section i
unfoldable pub missing_at : List Section → ℕ → Missing
missing_at ss i = missing_in (placed ss) (section_at ss i)

-- 'a reference, or an Ops or Data section that isn't empty'
abbrev pub has_bytes : Section → Bool
has_bytes (mark m) = false
has_bytes (ops bs) = ltb 0 (length bs)
has_bytes (bytes bs) = ltb 0 (length bs)
has_bytes (reference r) = true

-- one of the sections has bytes
unfoldable pub some_bytes : List Section → Bool
some_bytes [] = false
some_bytes (s ∷ ss) = has_bytes s || some_bytes ss

-- 'Bytes stand between two placings': in the sections after j and before i
abbrev pub bytes_between : List Section → ℕ → ℕ → Bool
bytes_between ss j i = some_bytes (slice (suc j) i ss)

-- 9: 'a mark's placing has bytes between it and an earlier one'
unfoldable pub apart_at : List Section → ℕ → Bool
apart_at ss i = places_some (λ m. some_below i (λ j. places_some (eqb m) (section_at ss j) && bytes_between ss j i)) (section_at ss i)

-- the section of a 9
unfoldable pub first_apart : List Section → ℕ
first_apart ss = first ss (apart_at ss)

-- 12: 'a settled delta has its end below its start'
abbrev pub backward_by : List ℕ → MarkReference → Bool
backward_by table (Direct m) = false
backward_by table (Delta s) = ltb (entry table s.end.0) (entry table s.start.0)

-- section i is such a delta
unfoldable pub backward_at : List ℕ → List Section → ℕ → Bool
backward_at table ss i = refers (backward_by table) (section_at ss i)

-- the section of a 12
unfoldable pub first_backward : List ℕ → List Section → ℕ
first_backward table ss = first ss (backward_at table ss)

-- so many passes, each of which moved a mark, lead from one table to another
unfoldable pub Moving : List Section → ℕ → List ℕ → List ℕ → Type 0
Moving ss zero table table' = table' ≡ table
Moving ss (suc k) table table' = (sum : ℕ) × (next : List ℕ) × (pass ss table ≡ through sum true next) × Moving ss k next table'

-- pass k, after k - 1 that moved a mark and one of the passes allowed, goes as said
abbrev pub PassGoes : ℕ → List Section → ℕ → Walked → Type 0
PassGoes n ss k walk =
    (before : ℕ) × (table : List ℕ) × (k ≡ before + 1) × (k ≤ max_passes) × Moving ss before (start n ss) table × (pass ss table ≡ walk)

-- what each answer of the settling means
abbrev pub Means : ℕ → List Section → Settling → Type 0
-- 'The first pass without a move is the last'
Means n ss (settled table sum k) = PassGoes n ss k (through sum false table)
-- 10: 'the walk found it', at section i in pass k
Means n ss (narrow_at i k) = PassGoes n ss k (left_at i)
-- 11: 'the 1,024th pass moved a mark'
Means n ss unsettled = (table : List ℕ) × Moving ss max_passes (start n ss) table

-- a sum over the sections
unfoldable pub sum_of : (Section → ℕ) → List Section → ℕ
sum_of f [] = 0
sum_of f (s ∷ ss) = f s + sum_of f ss

-- the bytes that a section stores
abbrev pub stored_in : Section → ℕ
stored_in (mark m) = 0
stored_in (ops bs) = length bs
stored_in (bytes bs) = length bs
stored_in (reference r) = 0

-- a number for each reference
abbrev pub per_reference : (AsmReference → ℕ) → Section → ℕ
per_reference f (mark m) = 0
per_reference f (ops bs) = 0
per_reference f (bytes bs) = 0
per_reference f (reference r) = f r

-- 1 for an unsized reference that counts
abbrev pub one_if_unsized : Bool → Option RefSize → ℕ
one_if_unsized counts (Some s) = 0
one_if_unsized counts None = cond counts 1 0

-- the stored bytes of a list
abbrev pub stored_bytes : List Section → ℕ
stored_bytes ss = sum_of stored_in ss

-- how many references it has
abbrev pub references : List Section → ℕ
references ss = sum_of (per_reference (λ r. 1)) ss

-- A: 'unsized pushed references'
abbrev pub unsized_pushed_count : List Section → ℕ
unsized_pushed_count ss = sum_of (per_reference (λ r. one_if_unsized r.pushed r.set_size)) ss

-- B: 'unsized raw'
abbrev pub unsized_raw_count : List Section → ℕ
unsized_raw_count ss = sum_of (per_reference (λ r. one_if_unsized (not r.pushed) r.set_size)) ss

-- 4 × A + 3 × B
abbrev pub pass_bound : List Section → ℕ
pass_bound ss = 4 * unsized_pushed_count ss + 3 * unsized_raw_count ss

-- a delta
abbrev pub is_delta : MarkReference → Bool
is_delta (Direct m) = false
is_delta (Delta s) = true

-- section i is a delta
unfoldable pub delta_at : List Section → ℕ → Bool
delta_at ss i = refers is_delta (section_at ss i)

-- the premise of demand 3, over a list of sections and a table of length n
pub record Premise (n : ℕ) (ss : List Section) : Type 0 where
  -- 'the table is longer than the largest mark number placed or named' (module 4)
  pub in_table : Never ss (short_at n ss)
  -- 'every reference be direct'
  pub direct : Never ss (delta_at ss)
  -- 'and its mark placed'
  pub marks_placed : Never ss (unplaced_at ss)
  -- 'no mark have bytes between its placings'
  pub together : Never ss (apart_at ss)
  -- '4 × A + 3 × B be at most 1,023'
  pub few : pass_bound ss ≤ 1023
  -- met by every undamaged store: what is stored and five bytes for each reference are below 2^32
  pub small : stored_bytes ss + 5 * references ss < 2 ^ 32
