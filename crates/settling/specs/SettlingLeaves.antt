-- Document 01, module 4, and document 02, request 3: what settling leaves in the lent table, refused or not. Its proof is in
-- proofs/SettlingLeaves. Assumes nothing.
use Rattle.std.specs.Prelude.{ℕ, ◌≡◌, false, List, length, replicate}
use Rattle.units.specs.Reply.{Reply, accepted, refused}
use Rattle.records.specs.Sections.{Section}
use Rattle.layout.specs.Passes.{entry}
use Rattle.layout.specs.Conditions.{placed}
use Rattle.layout.specs.Answer.{Laid}

-- laid out: 'Unplaced entries of the table are 0'
pub record LeftLaid (ss : List Section) (n : ℕ) (table' : List ℕ) : Type 0 where
  pub table_length : length table' ≡ n
  pub unplaced_zero : (m : ℕ) → placed ss m ≡ false → entry table' m ≡ 0

-- of an answer and a table
pub record LeftBySettling (ss : List Section) (n : ℕ) (reply : Reply Laid) (table' : List ℕ) : Type 0 where
  -- 'refused leaves its table all 0'
  pub if_refused : (number i k : ℕ) → reply ≡ refused number i k → table' ≡ replicate n 0
  pub if_laid : (laid : Laid) → reply ≡ accepted laid → LeftLaid ss n table'
