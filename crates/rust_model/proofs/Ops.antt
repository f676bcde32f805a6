-- The Rust's lines of an Ops section are the listing's: it goes by an index, the walk by what remains. Assumes nothing.
use Rattle.std.specs.Prelude.{None, Some, Option}
use Prim.Native.Nat.{ℕ, zero, suc, ◌+◌, ◌-◌, ◌≤◌, ◌<◌}
use native.Mathlib.Omega.{arith}
use mathlib.Core.Path.{◌≡◌, refl, sym, ap, ◌∙◌}
use mathlib.Core.Bool.{Bool, true, false, cond}
use mathlib.Core.List.{List, [], ◌++◌, append_assoc, append-nil}
use lib.Dec.{ltb}
use lib.ListN.{length, get_or, take}
use lib.Seq.{slice, take-length}
use borrow.Author.Tests.{ltb-true, ltb-false, lt-ltb, le-ltb}
use Rattle.evm.specs.YellowPaper.{push_size, instruction_length}
use Rattle.evm.specs.Opcodes.{op_push_size}
use Rattle.evm.proofs.Opcodes.{push_bytes, push_none}
use Rattle.opcodes.specs.Text.{as_bytes}
use Rattle.opcodes.specs.Names.{op_name}
use Rattle.lines.specs.Lines.{hex, immediate_text, instruction_line, ops_lines}
use Rattle.lines.proofs.Turns.{immediate_cut, immediate_whole, immediate_none, ops_more, ops_none}
use Rattle.rust_model.specs.Display as rust
use Rattle.rust_model.proofs.Text.{hex_same}

-- ---- the push size

push_size_same : (op : ℕ) → rust.push_size op ≡ op_push_size op
unfolding rust.push_size op_push_size
push_size_same op = refl

-- ---- one instruction at i

-- the rest of the section, from j on
abbrev rest_lines : List ℕ → ℕ → List ℕ
rest_lines ops j = ops_lines (slice j (length ops) ops)

-- the Rust's line of a push, its parts bracketed as ours
push_line_lem : (ops : List ℕ) (op n s e : ℕ)
    → rust.push_line ops op n s e
    ≡ as_bytes "  " ++ op_name op ++ (as_bytes " 0x" ++ hex (slice s e ops) ++ cond (ltb (e - s) n) (as_bytes " (truncated)") []) ++ as_bytes "\n"
unfolding rust.push_line
push_line_lem ops op n s e = rw (hex_same (slice s e ops)) (simp append_assoc)

module _ (ops : List ℕ) (i : ℕ) (h : i < length ops) where
  -- the text of its immediate
  abbrev operand : List ℕ
  operand = immediate_text (push_size (get_or ops i 0)) (take (push_size (get_or ops i 0)) (slice (i + 1) (length ops) ops))

  -- our line of it, and the rest
  line_more : rest_lines ops i ≡ as_bytes "  " ++ op_name (get_or ops i 0) ++ operand ++ as_bytes "\n" ++ rest_lines ops (i + (1 + push_size (get_or ops i 0)))
  unfolding instruction_line instruction_length
  line_more = ops_more ops i (length ops) h (omega arith)

  -- without an immediate
  line_none : push_size (get_or ops i 0) ≡ 0
      → as_bytes "  " ++ op_name (get_or ops i 0) ++ as_bytes "\n" ++ rest_lines ops (i + 1) ≡ rest_lines ops i
  line_none e =
      let t : operand ≡ [] = sym (immediate_none (push_size (get_or ops i 0)) (take (push_size (get_or ops i 0)) (slice (i + 1) (length ops) ops)) e) in
      sym (line_more ∙ rw (t, e, append-nil))

  module _ (n : ℕ) (e : push_size (get_or ops i 0) ≡ n) (z : 0 < n) where
    -- the section ends within the immediate
    line_cut : length ops - (i + 1) < n
        → rust.push_line ops (get_or ops i 0) n (i + 1) (length ops) ++ rest_lines ops (length ops) ≡ rest_lines ops i
    line_cut l =
        let t : operand ≡ as_bytes " 0x" ++ hex (slice (i + 1) (length ops) ops) ++ as_bytes " (truncated)"
        = rw e (sym (immediate_cut ops n (i + 1) (length ops) z (omega arith) (omega arith) l)) in
        let a : rest_lines ops (length ops) ≡ [] = ops_none ops (length ops) (length ops) (omega arith) (omega arith) in
        let b : rest_lines ops (i + (1 + n)) ≡ [] = ops_none ops (i + (1 + n)) (length ops) (omega arith) (omega arith) in
        rw (push_line_lem ops (get_or ops i 0) n (i + 1) (length ops), lt-ltb (length ops - (i + 1)) n l, a) (sym (line_more ∙ rw (t, e, b)))

    -- the immediate is whole
    line_whole : n ≤ length ops - (i + 1)
        → rust.push_line ops (get_or ops i 0) n (i + 1) (i + 1 + n) ++ rest_lines ops (i + 1 + n) ≡ rest_lines ops i
    line_whole l =
        let t : operand ≡ as_bytes " 0x" ++ hex (slice (i + 1) (i + 1 + n) ops)
        = rw e (sym (immediate_whole ops n (i + 1) (length ops) z (omega arith) (omega arith) l)) in
        let a : i + (1 + n) ≡ i + 1 + n = omega arith in
        let c : ltb (i + 1 + n - (i + 1)) n ≡ false = le-ltb (i + 1 + n - (i + 1)) n (omega arith) in
        rw (push_line_lem ops (get_or ops i 0) n (i + 1) (i + 1 + n), c, append-nil) (sym (line_more ∙ rw (t, e, a)))

    -- either way: the Rust's line, and the rest from where its immediate ends
    line_some : rust.push_line ops (get_or ops i 0) n (i + 1) (rust.imm_end ops i n) ++ rest_lines ops (rust.imm_end ops i n) ≡ rest_lines ops i
    line_some = go (ltb (length ops - (i + 1)) n) refl
      where
        go : (b : Bool) → ltb (length ops - (i + 1)) n ≡ b
            → rust.push_line ops (get_or ops i 0) n (i + 1) (rust.imm_end ops i n) ++ rest_lines ops (rust.imm_end ops i n) ≡ rest_lines ops i
        go true t =
            let l : length ops - (i + 1) < n = ltb-true (length ops - (i + 1)) n t in
            let m : rust.imm_end ops i n ≡ length ops = omega arith in
            rw m (line_cut l)
        go false t =
            let l : n ≤ length ops - (i + 1) = ltb-false (length ops - (i + 1)) n t in
            let m : rust.imm_end ops i n ≡ i + 1 + n = omega arith in
            rw m (line_whole l)

-- ---- the loop

-- one turn of it; `next` is the loop from an index on
turn : (ops : List ℕ) (i : ℕ) → i < length ops → (next : ℕ → List ℕ) → ((j : ℕ) → i < j → next j ≡ rest_lines ops j)
    → (o : Option ℕ) → o ≡ op_push_size (get_or ops i 0) → rust.fmt_op ops i (get_or ops i 0) o next ≡ rest_lines ops i
turn ops i h next f None e = rw (f (i + 1) (omega arith)) (line_none ops i h (push_none (get_or ops i 0) (sym e)))
turn ops i h next f (Some n) e =
    let p : (push_size (get_or ops i 0) ≡ n) × (0 < n) = push_bytes (get_or ops i 0) n (sym e) in
    rw (f (rust.imm_end ops i n) (omega arith)) (line_some ops i h n p.0 p.1)

-- from i on, with fuel for what remains
fmt_ops_from_lem : (fuel : ℕ) (ops : List ℕ) (i : ℕ) → length ops ≤ fuel + i → rust.fmt_ops_from fuel ops i ≡ rest_lines ops i
unfolding rust.fmt_ops_from
fmt_ops_from_lem zero ops i h = sym (ops_none ops i (length ops) (omega arith) (omega arith))
fmt_ops_from_lem (suc fuel) ops i h = go (ltb i (length ops)) refl (λ j l. fmt_ops_from_lem fuel ops j (omega arith))
  where
    go : (b : Bool) → ltb i (length ops) ≡ b → ((j : ℕ) → i < j → rust.fmt_ops_from fuel ops j ≡ rest_lines ops j)
        → cond b (rust.fmt_op ops i (get_or ops i 0) (rust.push_size (get_or ops i 0)) (rust.fmt_ops_from fuel ops)) [] ≡ rest_lines ops i
    go true t next = turn ops i (ltb-true i (length ops) t) (rust.fmt_ops_from fuel ops) next (rust.push_size (get_or ops i 0)) (push_size_same (get_or ops i 0))
    go false t next = sym (ops_none ops i (length ops) (ltb-false i (length ops) t) (omega arith))

-- the lines of an Ops section
pub ops_same : (ops : List ℕ) → rust.fmt_ops ops ≡ ops_lines ops
unfolding rust.fmt_ops
ops_same ops = fmt_ops_from_lem (length ops) ops 0 (omega arith) ∙ ap ops_lines (take-length ops)
