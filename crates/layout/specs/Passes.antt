-- Document 01, module 3: least sizes, the start table, one pass, the passes, and the settling of a list of sections.
-- A table is a list of offsets, one for each mark number below its length. Assumes nothing.
use Rattle.std.specs.Prelude.{ℕ, zero, suc, ◌+◌, ◌-◌, Bool, true, false, cond, not, ◌||◌, List, [], ◌∷◌, eqb, length, get_or, set, replicate}
use Rattle.units.specs.Reference.{least_size, size, too_narrow}
use Rattle.units.specs.Replies.{max_passes}
use Rattle.units.specs.declared.MarkReference.{MarkReference}
use Rattle.units.specs.declared.MarkReference.TheVariants.{Direct, Delta}
use Rattle.records.specs.Sections.{Section, mark, ops, bytes, reference}

-- a mark's entry
abbrev pub entry : List ℕ → ℕ → ℕ
entry table m = get_or table m 0

-- a reference's value by offsets. 'A delta whose end is below its start reads 0 here': 3 - 5 is 0.
abbrev pub value_by : (ℕ → ℕ) → MarkReference → ℕ
value_by offset (Direct m) = offset m.0
value_by offset (Delta s) = offset s.end.0 - offset s.start.0

-- a section's size by offsets
abbrev pub size_by : (ℕ → ℕ) → Section → ℕ
size_by offset (mark m) = 0
size_by offset (ops bs) = length bs
size_by offset (bytes bs) = length bs
size_by offset (reference r) = size r (value_by offset r.mark_ref)

-- 'Least sizes: Ops and Data their length, marks 0, sized references their size, unsized 1.' 'The table starts at 0, each placed mark
-- then at the sum of least sizes before it.'
unfoldable pub start_from : List Section → ℕ → List ℕ → List ℕ
start_from [] sum table = table
start_from (mark m ∷ ss) sum table = start_from ss sum (set table m sum)
start_from (ops bs ∷ ss) sum table = start_from ss (sum + length bs) table
start_from (bytes bs ∷ ss) sum table = start_from ss (sum + length bs) table
start_from (reference r ∷ ss) sum table = start_from ss (sum + least_size r) table

-- the start table, of length n
unfoldable pub start : ℕ → List Section → List ℕ
start n ss = start_from ss 0 (replicate n 0)

-- how a walk ends
pub data Walked : Type 0 where
  -- at the end of the sections: the sum of sizes, whether a mark was moved, the table
  through : ℕ → Bool → List ℕ → Walked
  -- 'At a too narrow reference the walk is left there with that section's index.'
  left_at : ℕ → Walked

-- an entry unlike the sum
abbrev pub unlike : List ℕ → ℕ → ℕ → Bool
unlike table m sum = not (eqb (entry table m) sum)

-- the walk over the sections from index i on, the sum, whether a mark was moved and the table as they are then. 'At a mark, an entry
-- unlike the sum is set to it and counts as a move; otherwise the section's size by the table as it is then is added.'
unfoldable pub walk_from : List Section → ℕ → ℕ → Bool → List ℕ → Walked
walk_from [] i sum moved table = through sum moved table
walk_from (mark m ∷ ss) i sum moved table =
    walk_from ss (suc i) sum (moved || unlike table m sum) (cond (unlike table m sum) (set table m sum) table)
walk_from (ops bs ∷ ss) i sum moved table = walk_from ss (suc i) (sum + length bs) moved table
walk_from (bytes bs ∷ ss) i sum moved table = walk_from ss (suc i) (sum + length bs) moved table
walk_from (reference r ∷ ss) i sum moved table =
    cond (too_narrow r (value_by (entry table) r.mark_ref))
    (left_at i)
    (walk_from ss (suc i) (sum + size r (value_by (entry table) r.mark_ref)) moved table)

-- 'A pass walks the sections from sum 0.'
unfoldable pub pass : List Section → List ℕ → Walked
pass ss table = walk_from ss 0 0 false table

-- what settling comes to
pub data Settling : Type 0 where
  -- the table, the length in all, the passes made
  settled : List ℕ → ℕ → ℕ → Settling
  -- the section of a too narrow reference, the pass that found it
  narrow_at : ℕ → ℕ → Settling
  -- the last pass allowed moved a mark
  unsettled : Settling

-- what pass k comes to: 'The first pass without a move is the last', otherwise the passes that are left go on from its table
abbrev pub ended : ℕ → (List ℕ → Settling) → Walked → Settling
ended k next (left_at i) = narrow_at i k
ended k next (through sum false table) = settled table sum k
ended k next (through sum true table) = next table

-- the passes from pass k on, `left` of them allowed
unfoldable pub passes : ℕ → ℕ → List Section → List ℕ → Settling
passes zero k ss table = unsettled
passes (suc left) k ss table = ended k (λ next. passes left (suc k) ss next) (pass ss table)

-- '1,024 passes are allowed', 'the first being 1'. The settling of a list by a table of length n.
unfoldable pub settle : ℕ → List Section → Settling
settle n ss = passes max_passes 1 ss (start n ss)
