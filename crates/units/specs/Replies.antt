-- Document 01, 'Replies', and document 02, requests 3 (16) and 5 (17, 18): the number, section and passes of each refusal.
-- Contracts of the calls speak of an answer through these definitions. Assumes nothing.
use Rattle.std.specs.Prelude.{ℕ}
use Rattle.units.specs.declared.reply.Refusal.{Refusal}
use Rattle.units.specs.declared.reply.Refusal.TheVariants.{BadDepth, BadWord, LargeMark, BytesFull, SectionsFull}
use Rattle.units.specs.declared.reply.Refusal.TheVariants.{Damaged, ShortTable, Unplaced, PlacedApart, TooNarrow}
use Rattle.units.specs.declared.reply.Refusal.TheVariants.{Unsettled, Backward, ResultFull, ListingFull, EntryDiffers}
use Rattle.units.specs.declared.reply.Refusal.TheVariants.{StartUnplaced, EndUnplaced}

-- the numbers of the table of replies, by its names
abbrev pub bad_depth : ℕ
bad_depth = 1

abbrev pub bad_word : ℕ
bad_word = 2

abbrev pub large_mark : ℕ
large_mark = 3

abbrev pub bytes_full : ℕ
bytes_full = 4

abbrev pub sections_full : ℕ
sections_full = 5

abbrev pub damaged : ℕ
damaged = 6

abbrev pub short_table : ℕ
short_table = 7

-- since document 02, request 5, 'a direct reference's mark only'
abbrev pub unplaced : ℕ
unplaced = 8

abbrev pub placed_apart : ℕ
placed_apart = 9

abbrev pub too_narrow : ℕ
too_narrow = 10

abbrev pub unsettled : ℕ
unsettled = 11

abbrev pub backward : ℕ
backward = 12

abbrev pub result_full : ℕ
result_full = 13

abbrev pub listing_full : ℕ
listing_full = 14

-- document 02, request 3: 'an entry that differs'
abbrev pub entry_differs : ℕ
entry_differs = 16

-- document 02, request 5: 'a delta's start unplaced'
abbrev pub start_unplaced : ℕ
start_unplaced = 17

-- 'a delta's end unplaced'
abbrev pub end_unplaced : ℕ
end_unplaced = 18

-- the passes allowed; those made when number 11 is given
abbrev pub max_passes : ℕ
max_passes = 1024

-- what 'a refusal gives': 'its number, the first section concerned .. and passes made'
pub record RefusalNumbers : Type 0 where
  pub number : ℕ
  pub section : ℕ
  pub passes : ℕ

-- number n, section i, passes k
abbrev pub numbers_at : ℕ → ℕ → ℕ → RefusalNumbers
numbers_at n i k = record { number = n; section = i; passes = k }

-- the one definition of the number, section and passes that each refusal stands for
abbrev pub refusal_numbers : Refusal → RefusalNumbers
refusal_numbers BadDepth = numbers_at bad_depth 0 0
refusal_numbers BadWord = numbers_at bad_word 0 0
refusal_numbers LargeMark = numbers_at large_mark 0 0
refusal_numbers BytesFull = numbers_at bytes_full 0 0
refusal_numbers SectionsFull = numbers_at sections_full 0 0
refusal_numbers (Damaged i) = numbers_at damaged i 0
refusal_numbers (ShortTable i) = numbers_at short_table i 0
refusal_numbers (Unplaced i) = numbers_at unplaced i 0
refusal_numbers (PlacedApart i) = numbers_at placed_apart i 0
refusal_numbers (TooNarrow i k) = numbers_at too_narrow i k
refusal_numbers Unsettled = numbers_at unsettled 0 max_passes
refusal_numbers (Backward i k) = numbers_at backward i k
refusal_numbers (ResultFull k) = numbers_at result_full 0 k
refusal_numbers ListingFull = numbers_at listing_full 0 0
refusal_numbers (EntryDiffers i) = numbers_at entry_differs i 0
refusal_numbers (StartUnplaced i) = numbers_at start_unplaced i 0
refusal_numbers (EndUnplaced i) = numbers_at end_unplaced i 0
