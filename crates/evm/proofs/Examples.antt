-- The definitions of YellowPaper, computed on small codes. The first three are the test cases of EIP-3855. Assumes nothing.
use mathlib.Core.Path.{◌≡◌, refl}
use mathlib.Core.List.{[], ◌∷◌}
use mathlib.Core.Option.{none, some, bind}
use lib.ListN.{replicate}
use Rattle.evm.specs.YellowPaper.{is_push, is_dup, is_swap, push_size, instruction_length, instruction, immediate, halts, exchanged, step, run_from, run, state_at, steps}

-- what each code leaves of a stack
pub examples :
    -- '5F: successful execution, stack consist of a single item, set to zero'
    (run (0x5f ∷ []) [] ≡ some (0 ∷ []))
    -- '5F5F..5F (1024 times): successful execution, stack consists of 1024 items, all set to zero'
    × (run (replicate 1024 0x5f) [] ≡ some (replicate 1024 0))
    -- '5F5F..5F (1025 times): execution aborts due to out of stack'
    × (run (replicate 1025 0x5f) [] ≡ none)
    -- PUSH2 0x0102, then PUSH1 3
    × (run (0x61 ∷ 0x01 ∷ 0x02 ∷ 0x60 ∷ 0x03 ∷ []) [] ≡ some (3 ∷ 258 ∷ []))
    -- PUSH3 whose immediate passes the code's end: the missing byte is 0
    × (run (0x62 ∷ 0x01 ∷ 0x02 ∷ []) [] ≡ some (66048 ∷ []))
    -- DUP1, DUP3, and DUP3 with too few items
    × (run (0x80 ∷ []) (7 ∷ 8 ∷ 9 ∷ []) ≡ some (7 ∷ 7 ∷ 8 ∷ 9 ∷ []))
    × (run (0x82 ∷ []) (7 ∷ 8 ∷ 9 ∷ []) ≡ some (9 ∷ 7 ∷ 8 ∷ 9 ∷ []))
    × (run (0x82 ∷ []) (7 ∷ 8 ∷ []) ≡ none)
    -- SWAP1, SWAP2, and SWAP2 with too few items
    × (run (0x90 ∷ []) (7 ∷ 8 ∷ 9 ∷ []) ≡ some (8 ∷ 7 ∷ 9 ∷ []))
    × (run (0x91 ∷ []) (7 ∷ 8 ∷ 9 ∷ []) ≡ some (9 ∷ 8 ∷ 7 ∷ []))
    × (run (0x91 ∷ []) (7 ∷ 8 ∷ []) ≡ none)
    -- ADD isn't described
    × (run (0x01 ∷ []) (7 ∷ 8 ∷ []) ≡ none)
    -- the two instructions behind an ADD, PUSH1 3 and DUP1; a third isn't described
    × (steps 2 (0x01 ∷ 0x60 ∷ 0x03 ∷ 0x80 ∷ 0x00 ∷ []) (state_at 1 []) ≡ some (state_at 4 (3 ∷ 3 ∷ [])))
    × (steps 3 (0x01 ∷ 0x60 ∷ 0x03 ∷ 0x80 ∷ 0x00 ∷ []) (state_at 1 []) ≡ none)
unfolding is_push is_dup is_swap push_size instruction_length instruction immediate halts exchanged step run_from run steps bind
examples = (refl, refl, refl, refl, refl, refl, refl, refl, refl, refl, refl, refl, refl, refl)
