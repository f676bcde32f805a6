-- Document 01, 'Replies', and document 02, request 5: the answer of settling, refusals 7 to 12 in their order, with 17 and 18 in the place
-- of 8. 6 is tested before, 13 after. Assumes nothing.
use Rattle.std.specs.Prelude.{ℕ, ◌≡◌, cond, List, ltb, length, replicate}
use Rattle.units.specs.Replies as number
use Rattle.units.specs.Reply.{Reply, accepted, refused, numbers_reply}
use Rattle.units.specs.Replies.{RefusalNumbers}
use Rattle.records.specs.Sections.{Section}
use Rattle.layout.specs.Passes as settling
use Rattle.layout.specs.Conditions.{IsFirst, Never, short_at, first_short, unplaced_at, first_unplaced, apart_at, first_apart}
use Rattle.layout.specs.Conditions.{Missing, direct_mark, delta_start, delta_end, missing_at, backward_at, first_backward, Means}

-- why sections have no layout: 7 to 12, 17, 18
pub data LayoutRefusal : Type 0 where
  -- 7: the section
  short_table : ℕ → LayoutRefusal
  -- 8, 17 or 18: the mark that the section misses, and the section
  unplaced : Missing → ℕ → LayoutRefusal
  -- 9: the section
  placed_apart : ℕ → LayoutRefusal
  -- 10 and 12: the section, the passes made
  too_narrow : ℕ → ℕ → LayoutRefusal
  unsettled : LayoutRefusal
  backward : ℕ → ℕ → LayoutRefusal

-- what settling answers
pub data Answer : Type 0 where
  -- the table, the length in all, the passes made
  laid_out : List ℕ → ℕ → ℕ → Answer
  no_layout : LayoutRefusal → Answer

-- the refusal of a first section, if there is one, or what comes next
abbrev pub or_else : List Section → ℕ → (ℕ → LayoutRefusal) → Answer → Answer
or_else ss i refusal next = cond (ltb i (length ss)) (no_layout (refusal i)) next

-- 10, 11, 12
abbrev pub settling_answer : List Section → settling.Settling → Answer
settling_answer ss (settling.settled table sum k) = or_else ss (first_backward table ss) (λ i. backward i k) (laid_out table sum k)
settling_answer ss (settling.narrow_at i k) = no_layout (too_narrow i k)
settling_answer ss settling.unsettled = no_layout unsettled

-- 8, 17 or 18, of the first section with an unplaced mark
abbrev pub missed : List Section → ℕ → LayoutRefusal
missed ss i = unplaced (missing_at ss i) i

-- 7; 8, 17 or 18; 9; then the settling
unfoldable pub answer : ℕ → List Section → Answer
answer n ss =
    or_else ss (first_short n ss) short_table
    (or_else ss (first_unplaced ss) (missed ss)
    (or_else ss (first_apart ss) placed_apart (settling_answer ss (settling.settle n ss))))

-- 7, 8, 17, 18 and 9 don't hold
abbrev pub Sound : ℕ → List Section → Type 0
Sound n ss = Never ss (short_at n ss) × Never ss (unplaced_at ss) × Never ss (apart_at ss)

-- 'Each number comes in its stated condition and in no other': the condition of each answer. That it is given exactly then is `answer_law`
-- of proofs/Answers.
abbrev pub Says : ℕ → List Section → Answer → Type 0
Says n ss (laid_out table sum k) = Sound n ss × Means n ss (settling.settled table sum k) × Never ss (backward_at table ss)
Says n ss (no_layout (short_table i)) = IsFirst ss (short_at n ss) i
Says n ss (no_layout (unplaced x i)) = Never ss (short_at n ss) × IsFirst ss (unplaced_at ss) i × (missing_at ss i ≡ x)
Says n ss (no_layout (placed_apart i)) = Never ss (short_at n ss) × Never ss (unplaced_at ss) × IsFirst ss (apart_at ss) i
Says n ss (no_layout (too_narrow i k)) = Sound n ss × Means n ss (settling.narrow_at i k)
Says n ss (no_layout unsettled) = Sound n ss × Means n ss settling.unsettled
Says n ss (no_layout (backward i k)) =
    (table : List ℕ) × (sum : ℕ) × Sound n ss × Means n ss (settling.settled table sum k) × IsFirst ss (backward_at table ss) i

-- ---- in the paper's numbers

-- 8, 17 or 18 by the mark that is missing
abbrev pub missing_number : Missing → ℕ
missing_number direct_mark = number.unplaced
missing_number delta_start = number.start_unplaced
missing_number delta_end = number.end_unplaced

-- the number, section and passes of each refusal
abbrev pub layout_numbers : LayoutRefusal → RefusalNumbers
layout_numbers (short_table i) = number.numbers_at number.short_table i 0
layout_numbers (unplaced x i) = number.numbers_at (missing_number x) i 0
layout_numbers (placed_apart i) = number.numbers_at number.placed_apart i 0
layout_numbers (too_narrow i k) = number.numbers_at number.too_narrow i k
layout_numbers unsettled = number.numbers_at number.unsettled 0 number.max_passes
layout_numbers (backward i k) = number.numbers_at number.backward i k

-- 'The answer is length and passes.'
pub record Laid : Type 0 where
  pub length : ℕ
  pub passes : ℕ

-- the answer as a reply
abbrev pub answer_reply : Answer → Reply Laid
answer_reply (laid_out table length passes) = accepted (record { length = length; passes = passes })
answer_reply (no_layout r) = numbers_reply (layout_numbers r)

-- length and passes are answered
abbrev pub IsLaid : Reply Laid → Type 0
IsLaid reply = (laid : Laid) × (reply ≡ accepted laid)

-- number 10
abbrev pub IsTooNarrow : Reply Laid → Type 0
IsTooNarrow reply = (section : ℕ) × (passes : ℕ) × (reply ≡ refused number.too_narrow section passes)

-- the table afterwards, of length n: refused, it is all 0
abbrev pub answer_table : ℕ → Answer → List ℕ
answer_table n (laid_out table length passes) = table
answer_table n (no_layout r) = replicate n 0
