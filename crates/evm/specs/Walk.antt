-- The walk of instructions over a run of code: each instruction starts where the one before it ends, by its length in YellowPaper.
-- The run may end inside an immediate. Assumes nothing.
use Rattle.std.specs.Prelude.{ℕ, zero, suc, List, [], ◌∷◌, length, take, drop}
use Rattle.evm.specs.YellowPaper.{push_size, instruction_length}

-- an instruction as it stands in a run: its opcode, and those of its bytes of immediate that the run has
pub record Placed : Type 0 where
  pub opcode : ℕ
  pub immediate : List ℕ

-- the first instructions of a run, at most `fuel` of them
unfoldable pub walk_from : ℕ → List ℕ → List Placed
walk_from zero code = []
walk_from (suc fuel) [] = []
walk_from (suc fuel) (op ∷ rest) =
    record { opcode = op; immediate = take (push_size op) rest } ∷ walk_from fuel (drop (instruction_length op) (op ∷ rest))

-- the instructions of a run: each takes a byte or more, so the run's length is fuel enough
unfoldable pub walk : List ℕ → List Placed
walk code = walk_from (length code) code
