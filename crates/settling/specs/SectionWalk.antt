-- What the functions inside settling go by, and those of `tables` and of the writer of code: the store that they are lent, a section by its
-- three words, the table of first placings, and the passes' reply. proofs/ has that each is what layout/specs says of the decoded sections.
-- Assumes nothing.
use Rattle.std.specs.Prelude.{Result, Ok, Err, Option, Some, None, ℕ, ◌+◌, ◌-◌, ◌≤◌, ◌<◌, ◌≡◌, Bool, false, cond, not, ◌&&◌, ◌||◌, List, [], ◌∷◌, leb, ltb, eqb, length, set, replicate}
use Rattle.units.specs.Reference.{least_size}
use Rattle.units.specs.Form.{least_by_form, size_by_form}
use Rattle.units.specs.declared.reply.LaidOut.{LaidOut}
use Rattle.units.specs.declared.reply.Refusal.{Refusal}
use Rattle.records.specs.Record.{mark_kind, data_kind, direct_kind, form_of}
use Rattle.records.specs.Store.{store_of, words_per_section}
use Rattle.records.specs.Sections.{Section, mark, ops, bytes, reference, decode}
use Rattle.records.specs.declared.Assembler.{Assembler}
use Rattle.records.specs.declared.record.StoredSection.{StoredSection}
use Rattle.undamaged.specs.View.{Undamaged}
use Rattle.undamaged.specs.declared.store.UndamagedStore.{UndamagedStore}
use Rattle.layout.specs.Passes.{entry, start, Walked, through, left_at, Settling, settled, narrow_at, unsettled, settle}
use Rattle.layout.specs.Conditions.{IsFirst, Never, some_below, short_at, Missing, direct_mark, delta_start, delta_end, delta_at, apart_at}
use Rattle.layout.specs.Answer.{Answer, settling_answer}
use Rattle.settling.specs.declared.passes.Pass.{Pass}
use Rattle.settling.specs.declared.table.Placings.{Placings}

-- ---- the store

-- the sections of a store
abbrev pub sections_of : Assembler → List ℕ → List ℕ → List Section
sections_of store held words = decode words_per_section (store_of store held words)

-- those of a store that was found undamaged
abbrev pub sections_in : UndamagedStore → List Section
sections_in store = sections_of store.counts store.bytes.now store.words.now

-- a table of length n has an entry for each mark placed or named
abbrev pub MarksFit : List Section → ℕ → Type 0
MarksFit ss n = Never ss (short_at n ss)

-- the store is undamaged
abbrev pub Whole : Assembler → List ℕ → List ℕ → Type 0
Whole store held words = Undamaged words_per_section (store_of store held words)

-- the store is undamaged, and a table of length n has an entry for each mark placed or named
pub record Fitting (store : Assembler) (held words : List ℕ) (n : ℕ) : Type 0 where
  pub whole : Whole store held words
  pub in_table : Never (sections_of store held words) (short_at n (sections_of store held words))

-- ---- the searches

-- what a search answers: the first section with a property, or that none has it
abbrev pub Found : List Section → (ℕ → Bool) → Option ℕ → Type 0
Found ss test (Some i) = IsFirst ss test i
Found ss test None = Never ss test

-- ---- one section by its three words: in an undamaged store a kind below Direct that isn't a mark is Ops or Data, one above it a delta

-- 7: a mark at or past n. The first word is a mark but in Ops and Data, the second in a delta only.
unfoldable pub short_words : ℕ → StoredSection → Bool
short_words n x =
    leb n x.first && (eqb x.kind mark_kind || ltb data_kind x.kind) || leb n x.second && ltb direct_kind x.kind

-- the marks of a section that 7 doesn't hold of are in a table of length n
pub record MarksIn (n : ℕ) (x : StoredSection) : Type 0 where
  pub placed : x.kind ≡ mark_kind → x.first < n
  pub first : direct_kind ≤ x.kind → x.first < n
  pub second : direct_kind < x.kind → x.second < n

-- 8, 17 or 18, by a table that is 0 at the unplaced marks
unfoldable pub unplaced_words : List ℕ → StoredSection → Bool
unplaced_words table x =
    leb direct_kind x.kind && (eqb (entry table x.first) 0 || ltb direct_kind x.kind && eqb (entry table x.second) 0)

-- which mark a reference misses, by its kind and, of a delta, by whether its start is placed
unfoldable pub missing_words : Bool → StoredSection → Missing
missing_words startPlaced x = cond (eqb x.kind direct_kind) direct_mark (cond startPlaced delta_end delta_start)

-- 8, 17 or 18 at section i
abbrev pub missing_refusal : Missing → ℕ → Refusal
missing_refusal direct_mark i = Refusal.Unplaced i
missing_refusal delta_start i = Refusal.StartUnplaced i
missing_refusal delta_end i = Refusal.EndUnplaced i

-- 12
unfoldable pub backward_words : List ℕ → StoredSection → Bool
backward_words table x = ltb direct_kind x.kind && ltb (entry table x.second) (entry table x.first)

-- a reference's value; an end below its start reads 0
unfoldable pub value_words : List ℕ → StoredSection → ℕ
value_words table x = cond (eqb x.kind direct_kind) (entry table x.first) (entry table x.second - entry table x.first)

-- the least size of a section that isn't a mark
unfoldable pub least_words : StoredSection → ℕ
least_words x = cond (ltb x.kind direct_kind) (x.second - x.first) (least_by_form (form_of x))

-- its size by a table, or too narrow
unfoldable pub size_words : List ℕ → StoredSection → Option ℕ
size_words table x = cond (ltb x.kind direct_kind) (Some (x.second - x.first)) (size_by_form (form_of x) (value_words table x))

-- ---- the table of first placings: 0 at the unplaced marks, else one more than the sum of least sizes before the first placing

-- a mark placed, the sum before it given
abbrev pub place_mark : List ℕ → ℕ → ℕ → List ℕ
place_mark table m sum = cond (eqb (entry table m) 0) (set table m (sum + 1)) table

-- the sections that are left, the sum and the table as they are then
unfoldable pub place_from : List Section → ℕ → List ℕ → List ℕ
place_from [] sum table = table
place_from (mark m ∷ ss) sum table = place_from ss sum (place_mark table m sum)
place_from (ops bs ∷ ss) sum table = place_from ss (sum + length bs) table
place_from (bytes bs ∷ ss) sum table = place_from ss (sum + length bs) table
place_from (reference r ∷ ss) sum table = place_from ss (sum + least_size r) table

-- that of a list, of length n
unfoldable pub first_sums : ℕ → List Section → List ℕ
first_sums n ss = place_from ss 0 (replicate n 0)

-- no entry is 0
unfoldable pub all_placed : List ℕ → Bool
all_placed table = not (some_below (length table) (λ m. eqb (entry table m) 0))

-- every entry that isn't 0 less 1: the start table, where no mark is placed apart
unfoldable pub less_one : List ℕ → List ℕ
less_one [] = []
less_one (x ∷ xs) = (x - 1) ∷ less_one xs

-- what the walk of the placings leaves where it goes through, by a table of length n
pub record Placed (n : ℕ) (ss : List Section) (found : Placings) (table : List ℕ) : Type 0 where
  pub in_table : MarksFit ss n
  pub apart : Found ss (apart_at ss) found.apart
  pub sums : table ≡ first_sums n ss
  pub started : found.apart ≡ None → less_one table ≡ start n ss
  -- no delta met: 'every reference be direct'
  pub direct : found.has_delta ≡ false → Never ss (delta_at ss)

-- ---- the passes

-- what a list answers where 7, 8, 17, 18 and 9 don't hold
abbrev pub settled_answer : ℕ → List Section → Answer
settled_answer n ss = settling_answer ss (settle n ss)

-- what a pass leaves, by what the code answers and the table afterwards
abbrev pub walked : Result Pass ℕ → List ℕ → Walked
walked (Ok p) table = through p.length p.moved table
walked (Err i) table = left_at i

-- what the passes answer, 12 left out
abbrev pub passes_reply : Settling → Result LaidOut Refusal
passes_reply (settled table sum k) = Ok (record { length = sum; passes = k })
passes_reply (narrow_at i k) = Err (Refusal.TooNarrow i k)
passes_reply unsettled = Err Refusal.Unsettled

-- the table after them, of length n: refused, it is all 0
abbrev pub passes_table : ℕ → Settling → List ℕ
passes_table n (settled table sum k) = table
passes_table n (narrow_at i k) = replicate n 0
passes_table n unsettled = replicate n 0
