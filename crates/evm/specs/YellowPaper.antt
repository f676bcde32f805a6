-- The stack instructions of the Yellow Paper, Shanghai version (sections 9.1, 9.4 and 9.5, appendix H.2), with PUSH0 of EIP-3855: what
-- PUSH, DUP and SWAP do to a stack. The paper's signs are named beside our names; what it says is in our words, and nothing is quoted.
-- Code is a list of bytes; a stack is a list of numbers, top first. No other opcode is described in this file, and gas is left out.
-- Imports nothing of ours. Assumes nothing.
use Rattle.std.specs.Prelude.{ℕ, zero, suc, ◌+◌, ◌*◌, ◌-◌, Bool, cond, ◌&&◌, ◌||◌, List, ◌∷◌, length, get_or, set, leb, ltb}
use Rattle.std.proofs.Math.Option.{Option, none, some, bind}

-- 9.1: the most items that a stack has
abbrev pub max_stack : ℕ
max_stack = 1024

-- ---- opcodes (appendix H.2)

-- op is one of the opcodes from `first` to `last`
abbrev pub among : ℕ → ℕ → ℕ → Bool
among first last op = leb first op && leb op last

-- PUSH0 is 0x5f (EIP-3855), PUSH1 to PUSH32 are 0x60 to 0x7f
unfoldable pub is_push : ℕ → Bool
is_push op = among 0x5f 0x7f op

-- DUP1 to DUP16 are 0x80 to 0x8f
unfoldable pub is_dup : ℕ → Bool
is_dup op = among 0x80 0x8f op

-- SWAP1 to SWAP16 are 0x90 to 0x9f
unfoldable pub is_swap : ℕ → Bool
is_swap op = among 0x90 0x9f op

-- the bytes after the opcode that belong to it: 0 for PUSH0, which has no immediate (EIP-3855), n for PUSHn, 0 for every other
unfoldable pub push_size : ℕ → ℕ
push_size op = cond (is_push op) (op - 0x5f) 0

-- the bytes of the instruction in all. 9.4.3: the next instruction's position, N(i, w) for the instruction w at i, is past the immediate
-- of PUSH1 to PUSH32, i + (w - PUSH1) + 2, and i + 1 for every other
unfoldable pub instruction_length : ℕ → ℕ
instruction_length op = 1 + push_size op

-- the instructions, as far as they are described here
pub data Instruction : Type 0 where
  -- PUSHn, DUPn, SWAPn
  push : ℕ → Instruction
  dup : ℕ → Instruction
  swap : ℕ → Instruction
  -- any that this file doesn't describe
  other : Instruction

-- the instruction of an opcode
unfoldable pub instruction : ℕ → Instruction
instruction op =
    cond (is_push op) (push (push_size op))
    (cond (is_dup op) (dup (op - 0x80 + 1))
    (cond (is_swap op) (swap (op - 0x90 + 1))
    other))

-- ---- code

-- c(x): the code's byte at x, 0 past the code's end
abbrev pub code_byte : List ℕ → ℕ → ℕ
code_byte code x = get_or code x 0

-- the n bytes of code from x on as a number, big-endian: the last one is the lowest
unfoldable pub immediate : List ℕ → ℕ → ℕ → ℕ
immediate code x zero = 0
immediate code x (suc n) = immediate code x n * 256 + code_byte code (x + n)

-- ---- one step

-- δ: the items that an instruction removes
abbrev pub removed : Instruction → ℕ
removed (push n) = 0
removed (dup n) = n
removed (swap n) = n + 1
removed other = 0

-- α: the items that it adds
abbrev pub added : Instruction → ℕ
added (push n) = 1
added (dup n) = n + 1
added (swap n) = n + 1
added other = 0

-- 9.4.2, exceptional halting: fewer than δ items, or more than 1,024 after δ are removed and α added
unfoldable pub halts : Instruction → List ℕ → Bool
halts i stack = ltb (length stack) (removed i) || ltb max_stack (length stack - removed i + added i)

-- a stack with the items i and j exchanged
unfoldable pub exchanged : ℕ → ℕ → List ℕ → List ℕ
exchanged i j stack = set (set stack i (get_or stack j 0)) j (get_or stack i 0)

-- the stack after the instruction at `at`, which doesn't halt. By appendix H.2, for each n: PUSHn puts the n bytes after the opcode on
-- the stack; DUPn puts a copy of item n - 1 there; SWAPn exchanges the items 0 and n. `none` for those that aren't described here
abbrev pub effect : Instruction → List ℕ → ℕ → List ℕ → Option (List ℕ)
effect (push n) code at stack = some (immediate code (at + 1) n ∷ stack)
effect (dup n) code at stack = some (get_or stack (n - 1) 0 ∷ stack)
effect (swap n) code at stack = some (exchanged 0 n stack)
effect other code at stack = none

-- the instruction that starts at offset `at` of the code, carried out: the stack after it, `none` if it halts or isn't described here
unfoldable pub step : List ℕ → ℕ → List ℕ → Option (List ℕ)
step code at stack =
    cond (halts (instruction (code_byte code at)) stack) none
    (effect (instruction (code_byte code at)) code at stack)

-- ---- straight through

-- from offset `at` to the code's end, in at most `fuel` instructions
unfoldable pub run_from : ℕ → List ℕ → ℕ → List ℕ → Option (List ℕ)
run_from zero code at stack = cond (leb (length code) at) (some stack) none
run_from (suc fuel) code at stack =
    cond (leb (length code) at) (some stack)
    (bind (step code at stack) (λ after. run_from fuel code (at + instruction_length (code_byte code at)) after))

-- from the first instruction to the code's end, where the machine stops: each takes a byte or more, so the code's length is fuel enough
unfoldable pub run : List ℕ → List ℕ → Option (List ℕ)
run code stack = run_from (length code) code 0 stack

-- ---- one instruction after another

-- of the machine state: the program counter and the stack
pub record State : Type 0 where
  pub pc : ℕ
  pub stack : List ℕ

-- the state with this program counter and this stack
abbrev pub state_at : ℕ → List ℕ → State
state_at pc stack = record { pc = pc; stack = stack }

-- n instructions from a state on, each where the one before it ends: the state after them, `none` if one halts or isn't described here
unfoldable pub steps : ℕ → List ℕ → State → Option State
steps zero code μ = some μ
steps (suc n) code μ =
    bind (step code μ.pc μ.stack)
    (λ after. steps n code (state_at (μ.pc + instruction_length (code_byte code μ.pc)) after))
