-- How long a listing can be: no more than 2 ^ 30 for a section, so that its length is far below 2 ^ 64. Assumes nothing.
use Rattle.std.specs.Prelude.{None, Option, Some}
use Prim.Native.Nat.{ℕ, zero, suc, ◌+◌, ◌*◌, ◌≤◌, ◌^◌}
use native.Mathlib.Omega.{arith}
use mathlib.Core.Path.{ap, ◌∙◌}
use mathlib.Core.Bool.{Bool, true, false, cond}
use mathlib.Core.List.{List, [], ◌∷◌, ◌++◌}
use lib.ListN.{length, take, drop, length-append, length-take, length-drop}
use lib.Seq.{slice}
use lib.Dec.{ltb, eqb}
use Rattle.units.specs.declared.RefSize.{RefSize}
use Rattle.records.specs.declared.record.AsmSection.{AsmSection}
use Rattle.evm.specs.YellowPaper.{push_size, instruction_length}
use Rattle.evm.specs.Walk.{Placed, walk_from, walk}
use Rattle.evm.proofs.Walks.{next_drop}
use Rattle.opcodes.specs.Text.{as_bytes}
use Rattle.opcodes.proofs.Naming.{name_fits}
use Rattle.units.specs.declared.RefSize.TheVariants.{S1, S2, S3, S4}
use Rattle.units.specs.declared.MarkReference.{MarkReference}
use Rattle.units.specs.declared.MarkReference.TheVariants.{Direct, Delta}
use Rattle.units.specs.declared.AsmReference.{AsmReference}
use Rattle.records.specs.Record.{max_mark}
use Rattle.records.specs.Store.{max_bytes}
use Rattle.records.specs.Sections.{section_read}
use Rattle.records.specs.declared.record.AsmSection.TheVariants.{Mark, Ops, Data, MarkRef}
use Rattle.undamaged.specs.Section.{span_bytes, SmallMarks, ReadIn}
use Rattle.lines.specs.Lines.{hex, mark_name, mark_line, data_line, cut_text, immediate_text, instruction_line, instruction_lines, ops_lines, push_text, delta_text, marks_text, size_text, reference_line}
use Rattle.listing.specs.Listing.{section_text}
use Rattle.lines.proofs.Digits.{decimal_length}
use Rattle.lines.proofs.Turns.{hex_length}

-- ---- marks and data

name_length : (n : ℕ) → length (mark_name n) ≤ 6 + n
unfolding mark_name as_bytes
name_length n = omega (arith, decimal_length n)

mark_length : (n : ℕ) → length (mark_line n) ≤ 8 + n
unfolding mark_line as_bytes
mark_length n = rw length-append (omega (arith, name_length n))

data_length : (bs : List ℕ) → length (data_line bs) ≤ 20 + 3 * length bs
unfolding data_line as_bytes
data_length bs = simp length-append (omega (arith, hex_length bs, decimal_length (length bs)))

-- ---- ops

cut_length : (n m : ℕ) → length (cut_text n m) ≤ 12
unfolding cut_text as_bytes
cut_length n m = go (ltb m n)
  where
    go : (b : Bool) → length (cond b (as_bytes " (truncated)") []) ≤ 12
    go true = omega arith
    go false = omega arith

immediate_length : (n : ℕ) (x : List ℕ) → length (immediate_text n x) ≤ 15 + 2 * length x
unfolding immediate_text as_bytes
immediate_length n x = go (eqb n 0)
  where
    go : (b : Bool) → length (cond b [] (as_bytes " 0x" ++ hex x ++ cut_text n (length x))) ≤ 15 + 2 * length x
    go true = omega arith
    go false = simp length-append (omega (arith, hex_length x, cut_length n (length x)))

line_length : (p : Placed) → length (instruction_line p) ≤ 32 + 2 * length p.immediate
unfolding instruction_line as_bytes
line_length p = simp length-append (omega (arith, name_fits p.opcode, immediate_length (push_size p.opcode) p.immediate))

lines_length : (fuel : ℕ) (code : List ℕ) → length (instruction_lines (walk_from fuel code)) ≤ 34 * length code
unfolding instruction_lines walk_from
lines_length zero code = omega arith
lines_length (suc fuel) [] = omega arith
lines_length (suc fuel) (op ∷ rest) =
    let p : Placed = record { opcode = op; immediate = take (push_size op) rest } in
    let next : List ℕ = drop (instruction_length op) (op ∷ rest) in
    let a = length-append (instruction_line p) (instruction_lines (walk_from fuel next)) in
    let b = line_length p in
    let c = length-take (push_size op) rest in
    let d = ap length (next_drop op rest) ∙ length-drop (push_size op) rest in
    let e = lines_length fuel next in
    omega arith

ops_length : (code : List ℕ) → length (ops_lines code) ≤ 34 * length code
unfolding ops_lines walk
ops_length code = lines_length (length code) code

-- ---- references

push_length : (p : Bool) → length (push_text p) ≤ 7
unfolding as_bytes
push_length true = omega arith
push_length false = omega arith

delta_length : (a b : ℕ) → length (as_bytes "(" ++ mark_name a ++ as_bytes " - " ++ mark_name b ++ as_bytes ")") ≤ 17 + a + b
unfolding as_bytes
delta_length a b = simp length-append (omega (arith, name_length a, name_length b))

marks_length : (m : MarkReference) → SmallMarks m → length (marks_text m) ≤ 17 + 2 * max_mark
unfolding delta_text
marks_length (Direct m) h = omega (arith, name_length m.0)
marks_length (Delta d) h = omega (arith, delta_length d.end.0 d.start.0, h.0, h.1)

size_length : (s : Option RefSize) → length (size_text s) ≤ 6
unfolding as_bytes
size_length None = omega arith
size_length (Some S1) = omega (arith, decimal_length 1)
size_length (Some S2) = omega (arith, decimal_length 2)
size_length (Some S3) = omega (arith, decimal_length 3)
size_length (Some S4) = omega (arith, decimal_length 4)

reference_length : (r : AsmReference) → SmallMarks r.mark_ref → length (reference_line r) ≤ 31 + 2 * max_mark
unfolding reference_line as_bytes
reference_length r h =
    simp length-append (omega (arith, push_length r.pushed, marks_length r.mark_ref h, size_length r.set_size))

-- ---- a section

-- a part is no longer than its end
part_length : (a b : ℕ) (bs : List ℕ) → length (slice a b bs) ≤ b
part_length a b bs = omega (arith, length-drop a (take b bs), length-take b bs)

pub section_length : (n : ℕ) (bs : List ℕ) (v : Option AsmSection) → n ≤ max_bytes → ReadIn n v → length (section_text (section_read bs v)) ≤ 2 ^ 30
section_length n bs None l h = absurd h
section_length n bs (Some (Mark m)) l h = omega (arith, mark_length m.0)
section_length n bs (Some (Ops s)) l h = omega (arith, ops_length (span_bytes bs s), part_length s.start.0 s.end.0 bs, h.1)
section_length n bs (Some (Data s)) l h = omega (arith, data_length (span_bytes bs s), part_length s.start.0 s.end.0 bs, h.1)
section_length n bs (Some (MarkRef r)) l h = omega (arith, reference_length r h)
