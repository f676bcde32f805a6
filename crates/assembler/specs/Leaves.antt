-- Demand 1 and document 01, module 4: what assembly leaves in the lent table and result, refused or not; and what a write (document 02,
-- request 3) leaves in the result. Assumes nothing.
use Rattle.std.specs.Prelude.{ℕ, ◌+◌, ◌≡◌, false, List, length, take, drop, replicate}
use Rattle.records.specs.Sections.{Section}
use Rattle.slices.specs.Over.{over}
use Rattle.layout.specs.Passes.{entry}
use Rattle.layout.specs.Conditions.{placed}

-- refused: 'leaves .. result .. unchanged', 'leaves the offset table all 0' (the store is lent to read only)
abbrev pub LeftRefused : ℕ → List ℕ → List ℕ → List ℕ → Type 0
LeftRefused n result table' result' = (table' ≡ replicate n 0) × (result' ≡ result)

-- written: 'Unplaced entries of the table are 0; result bytes before the position and after the code don't change'
pub record LeftWritten (ss : List Section) (n : ℕ) (result : List ℕ) (position size : ℕ) (table' result' : List ℕ) : Type 0 where
  pub table_length : length table' ≡ n
  pub unplaced_zero : (m : ℕ) → placed ss m ≡ false → entry table' m ≡ 0
  pub result_length : length result' ≡ length result
  pub before : take position result' ≡ take position result
  pub after : drop (position + size) result' ≡ drop (position + size) result

-- a write, written: 0 passes, the code over the result, its bytes before the position and after the code unchanged. (Refused, the result
-- is unchanged; the table is lent to read only.)
pub record LeftByWrite (code result : List ℕ) (position size passes : ℕ) (result' : List ℕ) : Type 0 where
  pub no_passes : passes ≡ 0
  pub code_length : length code ≡ size
  pub code_over : result' ≡ over result position code
  pub result_length : length result' ≡ length result
  pub before : take position result' ≡ take position result
  pub after : drop (position + size) result' ≡ drop (position + size) result
