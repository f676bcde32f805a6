-- Document 02, request 3: what a write tests of a store and 'a lent offset table from anyone', all but the room for the code (13). 7, 8, 17,
-- 18 and 9 are settling's (layout/specs/Conditions), and so is 12, by this table; 16 and 10 are found in one walk. Readings 65 to 67 of
-- docs/DECISIONS.md. Assumes nothing.
use Rattle.std.specs.Prelude.{ℕ, Bool, false, cond, ◌||◌, List, ltb, length, take}
use Rattle.units.specs.Replies as number
use Rattle.units.specs.Replies.{RefusalNumbers}
use Rattle.units.specs.Reply.{Reply, accepted, refused, numbers_reply}
use Rattle.units.specs.Reference as width
use Rattle.records.specs.Store.{Store}
use Rattle.records.specs.Sections.{Section, mark, ops, bytes, reference, decode}
use Rattle.records.specs.Damage.{whole_soundness}
use Rattle.records.specs.Damage.{Soundness}
use Rattle.records.specs.Damage.{Sound, Damaged}
use Rattle.layout.specs.Passes.{entry, value_by, size_by, unlike}
use Rattle.layout.specs.Conditions.{section_at, first, places_some, sum_of, first_short, first_unplaced, first_apart, first_backward}
use Rattle.layout.specs.Conditions.{Missing, missing_at}
use Rattle.layout.specs.Answer.{Laid, missing_number}

-- ---- one walk for 16 and 10

-- 'the sum of sizes by that table before it', section i
abbrev pub sum_before : List ℕ → List Section → ℕ → ℕ
sum_before table ss i = sum_of (size_by (entry table)) (take i ss)

-- 16, 'an entry that differs': section i places a mark whose entry isn't the sum before it
unfoldable pub differs_at : List ℕ → List Section → ℕ → Bool
differs_at table ss i = places_some (λ m. unlike table m (sum_before table ss i)) (section_at ss i)

-- a reference too narrow for its value by the table; a delta whose end is below its start reads 0 here, as in a pass
abbrev pub narrow_by : List ℕ → Section → Bool
narrow_by table (mark m) = false
narrow_by table (ops bs) = false
narrow_by table (bytes bs) = false
narrow_by table (reference r) = width.too_narrow r (value_by (entry table) r.mark_ref)

-- 10: section i is one
unfoldable pub too_narrow_at : List ℕ → List Section → ℕ → Bool
too_narrow_at table ss i = narrow_by table (section_at ss i)

-- either of them
abbrev pub wrong_at : List ℕ → List Section → ℕ → Bool
wrong_at table ss i = differs_at table ss i || too_narrow_at table ss i

-- 'it shares one walk with 10, the earlier section winning': the first section with either, the count of sections if there is none
unfoldable pub first_wrong : List ℕ → List Section → ℕ
first_wrong table ss = first ss (wrong_at table ss)

-- ---- the tests in their order

-- why a table isn't accepted for a list of sections: the section
pub data TableRefusal : Type 0 where
  short_table : ℕ → TableRefusal
  -- 8, 17 or 18: which mark the section misses, and the section
  unplaced : Missing → ℕ → TableRefusal
  placed_apart : ℕ → TableRefusal
  differs : ℕ → TableRefusal
  too_narrow : ℕ → TableRefusal
  backward : ℕ → TableRefusal

-- what the tests of a list answer
pub data TableAnswer : Type 0 where
  -- the length in all
  accepts : ℕ → TableAnswer
  refuses : TableRefusal → TableAnswer

-- the refusal of a first section, if there is one, or what comes next
abbrev pub or_else : List Section → ℕ → (ℕ → TableRefusal) → TableAnswer → TableAnswer
or_else ss i refusal next = cond (ltb i (length ss)) (refuses (refusal i)) next

-- 8, 17 or 18, of the first section with an unplaced mark
abbrev pub missed : List Section → ℕ → TableRefusal
missed ss i = unplaced (missing_at ss i) i

-- 16 or 10, of the section that the walk found
abbrev pub wrong : List ℕ → List Section → ℕ → TableRefusal
wrong table ss i = cond (differs_at table ss i) (differs i) (too_narrow i)

-- 7; 8, 17 or 18; 9; '16 .. after 9; it shares one walk with 10 ..; then 12'
unfoldable pub table_answer : List ℕ → List Section → TableAnswer
table_answer table ss =
    or_else ss (first_short (length table) ss) short_table
    (or_else ss (first_unplaced ss) (missed ss)
    (or_else ss (first_apart ss) placed_apart
    (or_else ss (first_wrong table ss) (wrong table ss)
    (or_else ss (first_backward table ss) backward (accepts (sum_of (size_by (entry table)) ss))))))

-- ---- of a store, in the paper's numbers

-- the number and section of each refusal; 'the write reports 0 passes'
abbrev pub table_numbers : TableRefusal → RefusalNumbers
table_numbers (short_table i) = number.numbers_at number.short_table i 0
table_numbers (unplaced x i) = number.numbers_at (missing_number x) i 0
table_numbers (placed_apart i) = number.numbers_at number.placed_apart i 0
table_numbers (differs i) = number.numbers_at number.entry_differs i 0
table_numbers (too_narrow i) = number.numbers_at number.too_narrow i 0
table_numbers (backward i) = number.numbers_at number.backward i 0

-- the answer as a reply: the length and 0 passes, or a refusal
abbrev pub table_reply : TableAnswer → Reply Laid
table_reply (accepts size) = accepted (record { length = size; passes = 0 })
table_reply (refuses r) = numbers_reply (table_numbers r)

-- 6 at the section that the test found, or what the sections answer
abbrev pub tested : Soundness → TableAnswer → Reply Laid
tested (Damaged i) a = refused number.damaged i 0
tested Sound a = table_reply a

-- the tests of a store, w words a section, and a table
unfoldable pub table_test : ℕ → Store → List ℕ → Reply Laid
table_test w st table = tested (whole_soundness w st) (table_answer table (decode w st))
