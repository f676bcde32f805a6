-- Text put into a slice from a place on, which takes what fits into it; and the instructions of a run of code, as the functions of ops.rt
-- and the laws of their walk have them. Assumes nothing.
use Rattle.std.specs.Prelude.{ℕ, ◌+◌, ◌-◌, ◌^◌, min, ◌≡◌, List, length, get_or, take, drop}
use Rattle.std.proofs.lemmas.List.Edits.{sets}
use Rattle.std.proofs.Math.Seq.{slice}
use Rattle.evm.specs.YellowPaper.{push_size}
use Rattle.evm.specs.Walk.{Placed}
use Rattle.lines.specs.Lines.{immediate_text}

-- the place `count` bytes on from `at`, as far as the machine's numbers go
abbrev pub place_after : ℕ → ℕ → ℕ
place_after at count = min (at + count) (2 ^ 64 - 1)

-- `added` was put into the text from `at` on, and `next` is the place after it
pub record Put (before : List ℕ) (at : ℕ) (added : List ℕ) (next : ℕ) (after : List ℕ) : Type 0 where
  pub count : next ≡ place_after at (length added)
  pub text : after ≡ sets before at added

-- ---- instructions

-- the first instruction of a run of code
abbrev pub first_placed : List ℕ → Placed
first_placed code = record { opcode = get_or code 0 0; immediate = take (push_size (get_or code 0 0)) (drop 1 code) }

-- the immediate of a push of so many bytes that starts at `start`, in a run of code that ends at `end`
abbrev pub immediate_at : List ℕ → ℕ → ℕ → ℕ → List ℕ
immediate_at bs size start end = immediate_text size (take size (slice start end bs))

-- the instruction at i of bytes, in a run of code that ends at `end`
abbrev pub placed_at : List ℕ → ℕ → ℕ → Placed
placed_at bs i end = record { opcode = get_or bs i 0; immediate = take (push_size (get_or bs i 0)) (slice (i + 1) end bs) }
