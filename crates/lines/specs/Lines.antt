-- Document 01, module 5, and display.rs (source document 001): the lines of a section, by its kind. Reads nothing of any table or pass.
-- Assumes nothing.
use Rattle.std.specs.Prelude.{ℕ, ◌+◌, ◌/◌, ◌%◌, Bool, true, false, cond, List, [], ◌∷◌, ◌++◌, length, ltb, eqb, None, Option, Some}
use Rattle.units.specs.declared.Span.{Span}
use Rattle.units.specs.declared.RefSize.{RefSize}
use Rattle.units.specs.declared.MarkId.{MarkId}
use Rattle.evm.specs.YellowPaper.{push_size}
use Rattle.evm.specs.Walk.{Placed, walk}
use Rattle.opcodes.specs.Text.{as_bytes}
use Rattle.opcodes.specs.Names.{op_name}
use Rattle.units.specs.declared.MarkReference.{MarkReference}
use Rattle.units.specs.declared.MarkReference.TheVariants.{Direct, Delta}
use Rattle.units.specs.declared.AsmReference.{AsmReference}
use Rattle.units.specs.Reference.{ref_size_bytes}
use Rattle.lines.specs.Decimal.{decimal}

-- ---- hex

-- a digit, lower-case: `0` is 48, `a` is 97
unfoldable pub hex_digit : ℕ → ℕ
hex_digit d = cond (ltb d 10) (48 + d) (87 + d)

-- a byte, two digits
abbrev pub hex_byte : ℕ → List ℕ
hex_byte b = hex_digit (b / 16) ∷ hex_digit (b % 16) ∷ []

-- bytes, one after the other
unfoldable pub hex : List ℕ → List ℕ
hex [] = []
hex (b ∷ bs) = hex_byte b ++ hex bs

-- ---- marks and data

-- `.mark7`
unfoldable pub mark_name : ℕ → List ℕ
mark_name n = as_bytes ".mark" ++ decimal n

-- 'Mark: `.mark7:`'
unfoldable pub mark_line : ℕ → List ℕ
mark_line n = mark_name n ++ as_bytes ":\n"

-- 'Data: two spaces, `data 0x`, lower-case hex, then ` (2 bytes)`, that word for every count'
unfoldable pub data_line : List ℕ → List ℕ
data_line bs = as_bytes "  data 0x" ++ hex bs ++ as_bytes " (" ++ decimal (length bs) ++ as_bytes " bytes)\n"

-- ---- ops

-- ` (truncated)` where the section has fewer bytes of the immediate than the opcode asks for
unfoldable pub cut_text : ℕ → ℕ → List ℕ
cut_text size there = cond (ltb there size) (as_bytes " (truncated)") []

-- 'PUSH1 to PUSH32 add ` 0x` with the immediate, cut at the section's end and then followed by ` (truncated)`'
unfoldable pub immediate_text : ℕ → List ℕ → List ℕ
immediate_text size imm = cond (eqb size 0) [] (as_bytes " 0x" ++ hex imm ++ cut_text size (length imm))

-- 'Ops: two spaces and the name'
unfoldable pub instruction_line : Placed → List ℕ
instruction_line p = as_bytes "  " ++ op_name p.opcode ++ immediate_text (push_size p.opcode) p.immediate ++ as_bytes "\n"

-- a line for each instruction
unfoldable pub instruction_lines : List Placed → List ℕ
instruction_lines [] = []
instruction_lines (p ∷ ps) = instruction_line p ++ instruction_lines ps

-- the lines of an Ops section
unfoldable pub ops_lines : List ℕ → List ℕ
ops_lines code = instruction_lines (walk code)

-- ---- references

-- '`  PUSH ` or `  RAW `'
abbrev pub push_text : Bool → List ℕ
push_text true = as_bytes "  PUSH "
push_text false = as_bytes "  RAW "

-- '`.mark7` or `(.markEND - .markSTART)`'
unfoldable pub delta_text : Span MarkId → List ℕ
delta_text d = as_bytes "(" ++ mark_name d.end.0 ++ as_bytes " - " ++ mark_name d.start.0 ++ as_bytes ")"

abbrev pub marks_text : MarkReference → List ℕ
marks_text (Direct m) = mark_name m.0
marks_text (Delta d) = delta_text d

-- 'then `:2` if sized'
abbrev pub size_text : Option RefSize → List ℕ
size_text None = []
size_text (Some s) = as_bytes ":" ++ decimal (ref_size_bytes s)

unfoldable pub reference_line : AsmReference → List ℕ
reference_line r = push_text r.pushed ++ marks_text r.mark_ref ++ size_text r.set_size ++ as_bytes "\n"
