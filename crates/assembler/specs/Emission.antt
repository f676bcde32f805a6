-- Document 01, module 4: the bytes of each section by a table of offsets, and the code of a list of sections. Reads nothing of passes.
-- Assumes nothing.
use Rattle.std.specs.Prelude.{ℕ, Bool, true, false, cond, List, [], ◌∷◌, ◌++◌, map, length}
use Rattle.units.specs.Numbers.{big_endian}
use Rattle.units.specs.Reference.{byte_count, is_push_zero}
use Rattle.units.specs.declared.AsmReference.{AsmReference}
use Rattle.records.specs.Sections.{Section, mark, ops, bytes, reference}
use Rattle.evm.specs.Opcodes.{push_op}
use Rattle.layout.specs.Layout.{Layout}
use Rattle.layout.specs.Passes.{entry, value_by}

-- '(if pushed) hex 5f plus its byte count'
abbrev pub opcode : Bool → ℕ → List ℕ
opcode true n = push_op n ∷ []
opcode false n = []

-- 'a reference is 5f if pushed, unsized and 0, else (if pushed) hex 5f plus its byte count, then the value, highest byte first'
unfoldable pub reference_bytes : AsmReference → ℕ → List ℕ
reference_bytes r v =
    cond (is_push_zero r.set_size r.pushed v) (0x5f ∷ [])
    (opcode r.pushed (byte_count r.set_size v) ++ big_endian (byte_count r.set_size v) v)

-- 'Ops and Data are copied'; the bytes of a section by offsets
abbrev pub section_bytes : (ℕ → ℕ) → Section → List ℕ
section_bytes offset (mark m) = []
section_bytes offset (ops bs) = bs
section_bytes offset (bytes bs) = bs
section_bytes offset (reference r) = reference_bytes r (value_by offset r.mark_ref)

-- the bytes of each section of a list
abbrev pub parts : (ℕ → ℕ) → List Section → List (List ℕ)
parts offset ss = map (section_bytes offset) ss

-- lists of bytes in a row
unfoldable pub in_a_row : List (List ℕ) → List ℕ
in_a_row [] = []
in_a_row (p ∷ ps) = p ++ in_a_row ps

-- the code of a list of sections
abbrev pub code_of : (ℕ → ℕ) → List Section → List ℕ
code_of offset ss = in_a_row (parts offset ss)

-- 'The layout of written code has the table's entries as offsets and the bytes written for each section as widths'
abbrev pub written_layout : List ℕ → List Section → Layout
written_layout table ss = record { offset = entry table; widths = map length (parts (entry table) ss) }
