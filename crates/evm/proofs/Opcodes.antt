-- Laws of the push sizes: one for each way that the code goes, and that they are the Yellow Paper's for every byte. Assumes nothing.
use Rattle.std.specs.Prelude.{None, Option, Some}
use Prim.Native.Nat.{ℕ, ◌+◌, ◌-◌, ◌≤◌, ◌<◌}
use native.Mathlib.Omega.{arith}
use mathlib.Core.Path.{◌≡◌, refl, sym, ap, ◌∙◌}
use mathlib.Core.Bool.{Bool, true, false, cond, and-false}
use lib.Dec.{leb}
use borrow.Author.Tests.{le-leb, lt-leb, leb-true, leb-false}
use Rattle.evm.specs.YellowPaper.{among, is_push, push_size, instruction_length}
use Rattle.evm.proofs.Steps.{push_size_le}
use Rattle.evm.specs.Opcodes.{op_push_size, immediate_bytes}

-- the arm of the pushes with an immediate
pub push_sized : (op : ℕ) → 0x60 ≤ op → op ≤ 0x7f → Some (op - 0x60 + 1) ≡ op_push_size op
unfolding op_push_size
push_sized op l h = rw (le-leb 0x60 op l, le-leb op 0x7f h)

-- the arm below them, and the one above
pub push_below : (op : ℕ) → op < 0x60 → None ≡ op_push_size op
unfolding op_push_size
push_below op h = rw (lt-leb 0x60 op h)

pub push_above : (op : ℕ) → 0x7f < op → None ≡ op_push_size op
unfolding op_push_size
push_above op h = rw (lt-leb op 0x7f h, and-false (leb 0x60 op))

-- the Yellow Paper's size of the same opcodes
paper_sized : (op : ℕ) → 0x60 ≤ op → op ≤ 0x7f → push_size op ≡ op - 0x60 + 1
unfolding push_size is_push
paper_sized op l h = rw (le-leb 0x5f op (omega arith), le-leb op 0x7f h) (omega arith)

paper_below : (op : ℕ) → op < 0x60 → push_size op ≡ 0
unfolding push_size
paper_below op h = go (is_push op) refl
  where
    go : (b : Bool) → is_push op ≡ b → push_size op ≡ 0
    go true e = rw e (omega arith)
    go false e = rw e

paper_above : (op : ℕ) → 0x7f < op → push_size op ≡ 0
unfolding push_size is_push
paper_above op h = rw (lt-leb op 0x7f h, and-false (leb 0x5f op))

-- for every byte, op.rs's push size is the bytes of immediate that the Yellow Paper gives the opcode
pub push_size_agrees : (op : ℕ) → immediate_bytes (op_push_size op) ≡ push_size op
push_size_agrees op = go (leb 0x60 op) (leb op 0x7f) refl refl
  where
    go : (a b : Bool) → leb 0x60 op ≡ a → leb op 0x7f ≡ b → immediate_bytes (op_push_size op) ≡ push_size op
    go true true l h = ap immediate_bytes (sym (push_sized op (leb-true 0x60 op l) (leb-true op 0x7f h))) ∙ sym (paper_sized op (leb-true 0x60 op l) (leb-true op 0x7f h))
    go true false l h = ap immediate_bytes (sym (push_above op (leb-false op 0x7f h))) ∙ sym (paper_above op (leb-false op 0x7f h))
    go false b l h = ap immediate_bytes (sym (push_below op (leb-false 0x60 op l))) ∙ sym (paper_below op (leb-false 0x60 op l))

-- and one more is the instruction's length
pub length_agrees : (op : ℕ) → 1 + immediate_bytes (op_push_size op) ≡ instruction_length op
unfolding instruction_length
length_agrees op = rw (push_size_agrees op)

-- the arms of the instruction's length: t is what the push size s was matched as
pub length_from : (op : ℕ) (s t : Option ℕ) → s ≡ op_push_size op → s ≡ t → 1 + immediate_bytes t ≡ instruction_length op
length_from op s t e f = ap (λ (x : Option ℕ). 1 + immediate_bytes x) (sym f ∙ e) ∙ length_agrees op

-- a push has an immediate, of the Yellow Paper's size
pub push_bytes : (op n : ℕ) → op_push_size op ≡ Some n → (push_size op ≡ n) × (0 < n)
unfolding op_push_size
push_bytes op n e = (sym (push_size_agrees op) ∙ ap immediate_bytes e, go (among 0x60 0x7f op) e)
  where
    go : (b : Bool) → cond b (Some (op - 0x60 + 1)) None ≡ Some n → 0 < n
    go true f = omega (arith, ap immediate_bytes f)
    go false f = let z : ◌≡◌ {A = ℕ} 0 1 = cc in absurd (omega arith)

-- what is no push has none
pub push_none : (op : ℕ) → op_push_size op ≡ None → push_size op ≡ 0
push_none op e = sym (push_size_agrees op) ∙ ap immediate_bytes e

-- what is no push has none
push_size_none : (op : ℕ) → is_push op ≡ false → push_size op ≡ 0
unfolding push_size
push_size_none op e = rw e

-- no opcode has more than 32 bytes of immediate
pub push_size_most : (op : ℕ) → push_size op ≤ 32
push_size_most op = go (is_push op) refl
  where
    go : (b : Bool) → is_push op ≡ b → push_size op ≤ 32
    go true e = push_size_le op e
    go false e = omega (arith, push_size_none op e)

-- an instruction has at least its opcode, and at most 32 bytes more
pub length_bounds : (op : ℕ) → (0 < instruction_length op) × (instruction_length op ≤ 33)
unfolding instruction_length
length_bounds op = (omega arith, omega (arith, push_size_most op))
