-- Document 02, request 3: the condition of each answer of a table's tests, by positions in the list of sections. 'Each number comes in its
-- stated condition and in no other': that it is given exactly then is `table_law` (over sections) and `test_law` (over a store) of
-- proofs/TableLaws. Assumes nothing.
use Rattle.std.specs.Prelude.{ℕ, ◌<◌, ◌≡◌, true, List, length}
use Rattle.units.specs.Replies as number
use Rattle.units.specs.Reply.{Reply, accepted, refused}
use Rattle.units.specs.Reference as width
use Rattle.units.specs.declared.AsmReference.{AsmReference}
use Rattle.records.specs.Store.{Store}
use Rattle.records.specs.Sections.{Section, reference, decode}
use Rattle.undamaged.specs.View.{Undamaged, DamagedAt}
use Rattle.layout.specs.Layout.{in_all, GivesEnough}
use Rattle.layout.specs.Passes.{entry, value_by, size_by}
use Rattle.layout.specs.Conditions.{section_at, IsFirst, Never, short_at, unplaced_at, missing_at, apart_at, backward_at, sum_of}
use Rattle.layout.specs.ConditionLaws.{Places}
use Rattle.layout.specs.Shortest.{settled_layout}
use Rattle.layout.specs.Answer.{Laid, Sound}
use Rattle.tables.specs.TableTests.{sum_before, short_table, unplaced, placed_apart, differs, too_narrow, backward}
use Rattle.tables.specs.TableTests.{TableAnswer, accepts, refuses, table_reply}

-- 16: section i places a mark whose entry isn't 'the sum of sizes by that table before it'
abbrev pub Differs : List ℕ → List Section → ℕ → Type 0
Differs table ss i = (m : ℕ) × Places ss i m × (entry table m ≡ sum_before table ss i → ⊥)

-- 10: section i is a reference too narrow for its value by the table
abbrev pub Narrow : List ℕ → List Section → ℕ → Type 0
Narrow table ss i =
    (i < length ss) × (r : AsmReference) × (section_at ss i ≡ reference r)
    × (width.too_narrow r (value_by (entry table) r.mark_ref) ≡ true)

-- neither before section i
abbrev pub RightBefore : List ℕ → List Section → ℕ → Type 0
RightBefore table ss i = (j : ℕ) → j < i → (Differs table ss j → ⊥) × (Narrow table ss j → ⊥)

-- 'accepts it only if every placed mark's entry equals the sum of sizes by that table before it'
abbrev pub Agrees : List ℕ → List Section → Type 0
Agrees table ss = (i m : ℕ) → Places ss i m → entry table m ≡ sum_before table ss i

-- the condition of each answer over a list of sections
abbrev pub TableSays : List ℕ → List Section → TableAnswer → Type 0
-- accepted, with the sum of sizes: 7, 8, 17, 18, 9, 16, 10 and 12 don't hold
TableSays table ss (accepts size) =
    Sound (length table) ss × Agrees table ss × ((i : ℕ) → Narrow table ss i → ⊥) × Never ss (backward_at table ss)
    × (size ≡ sum_of (size_by (entry table)) ss)
-- 7; 8, 17 and 18; 9: as of settling
TableSays table ss (refuses (short_table i)) = IsFirst ss (short_at (length table) ss) i
TableSays table ss (refuses (unplaced x i)) =
    Never ss (short_at (length table) ss) × IsFirst ss (unplaced_at ss) i × (missing_at ss i ≡ x)
TableSays table ss (refuses (placed_apart i)) =
    Never ss (short_at (length table) ss) × Never ss (unplaced_at ss) × IsFirst ss (apart_at ss) i
-- 16 and 10: 'the earlier section winning'
TableSays table ss (refuses (differs i)) = Sound (length table) ss × Differs table ss i × RightBefore table ss i
TableSays table ss (refuses (too_narrow i)) = Sound (length table) ss × Narrow table ss i × RightBefore table ss i
-- 12, by this table
TableSays table ss (refuses (backward i)) =
    Sound (length table) ss × Agrees table ss × ((j : ℕ) → Narrow table ss j → ⊥) × IsFirst ss (backward_at table ss) i

-- ---- of a store

-- what the tests of a store and a table can answer
pub data TestAnswer : Type 0 where
  -- 6: the section
  damaged : ℕ → TestAnswer
  -- what its sections answer
  by_sections : TableAnswer → TestAnswer

-- each as a reply
abbrev pub test_reply : TestAnswer → Reply Laid
test_reply (damaged i) = refused number.damaged i 0
test_reply (by_sections a) = table_reply a

-- the condition of each
abbrev pub TestSays : ℕ → Store → List ℕ → TestAnswer → Type 0
-- 6: a bad count, and the section is 0; or the first section that breaks a rule
TestSays w st table (damaged i) = DamagedAt w st i
-- the others over the sections of an undamaged store
TestSays w st table (by_sections a) = Undamaged w st × TableSays table (decode w st) a

-- a table that is accepted is a layout that gives enough bytes, and the length answered is its length in all. That it is the least isn't
-- said: for pushed ref 0, 253 data bytes, mark 0 the tables 255 and 256 are both accepted (hand/proofs/TableExamples).
abbrev pub AcceptsEnough : ℕ → Store → List ℕ → Reply Laid → Type 0
AcceptsEnough w st table reply =
    (laid : Laid) → reply ≡ accepted laid
    → GivesEnough (decode w st) (settled_layout table (decode w st)) × (laid.length ≡ in_all (settled_layout table (decode w st)))
