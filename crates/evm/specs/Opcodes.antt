-- Opcode numbers, and document 01, module 5: `op::push_size` of op.rs (source document 002), for every byte. Assumes nothing.
use Rattle.std.specs.Prelude.{ℕ, ◌+◌, ◌-◌, cond, None, Option, Some}
use Rattle.evm.specs.YellowPaper.{among}

-- `op::push_size`: PUSH1 to PUSH32 have their bytes of immediate, PUSH0 and every other byte is no push
unfoldable pub op_push_size : ℕ → Option ℕ
op_push_size op = cond (among 0x60 0x7f op) (Some (op - 0x60 + 1)) None

-- the bytes of immediate that a push size stands for
abbrev pub immediate_bytes : Option ℕ → ℕ
immediate_bytes None = 0
immediate_bytes (Some n) = n

-- SWAP1 is hex 90, SWAP2 to SWAP16 follow it
abbrev pub swap_op : ℕ → ℕ
swap_op depth = 0x8f + depth

-- DUP1 (depth 0) is hex 80, DUP2 to DUP16 follow it
abbrev pub dup_op : ℕ → ℕ
dup_op depth = 0x80 + depth

-- PUSH0 is hex 5f, PUSH1 to PUSH32 follow it
abbrev pub push_op : ℕ → ℕ
push_op size = 0x5f + size
