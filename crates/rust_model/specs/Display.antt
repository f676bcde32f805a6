-- The Rust's `write_asm`, written from display.rs and from `op::push_size` of op.rs. Only the 256 names, what bytes a text is, and
-- the datatype of references are our contracts' own. Writing to a `String` doesn't fail. Assumes nothing.
use Rattle.std.specs.Prelude.{ℕ, zero, suc, ◌+◌, ◌-◌, ◌/◌, ◌%◌, min, Bool, true, false, cond, ◌&&◌, List, [], ◌∷◌, ◌++◌, leb, ltb, length, get_or, None, Some, Option}
use Rattle.std.proofs.Math.Seq.{slice}
use Rattle.units.specs.declared.RefSize.{RefSize}
use Rattle.units.specs.declared.MarkReference.{MarkReference}
use Rattle.units.specs.declared.MarkReference.TheVariants.{Direct, Delta}
use Rattle.units.specs.declared.AsmReference.{AsmReference}
use Rattle.opcodes.specs.Text.{as_bytes}
use Rattle.opcodes.specs.Names.{op_name}
use Rattle.rust_model.specs.Run.{Run, done, and_then, range}
use Rattle.rust_model.specs.Building.{Assembler}
use Rattle.rust_model.specs.Sections.{AsmSection, Mark, Ops, Data, MarkRef, iter_sections, as_u32}

-- the digits of a number in front of those that stand already, at most `fuel` of them
unfoldable pub digits_before : ℕ → ℕ → List ℕ → List ℕ
digits_before zero v after = after
digits_before (suc fuel) v after = cond (ltb v 10) ((48 + v) ∷ after) (digits_before fuel (v / 10) ((48 + v % 10) ∷ after))

-- `{}` of a number v: it has no more than v + 1 digits
unfoldable pub displayed : ℕ → List ℕ
displayed v = digits_before (suc v) v []

-- a digit of `x`
unfoldable pub hex_digit : ℕ → ℕ
hex_digit d = cond (ltb d 10) (48 + d) (97 + (d - 10))

-- `{byte:02x}` of each byte
unfoldable pub hex_bytes : List ℕ → List ℕ
hex_bytes [] = []
hex_bytes (b ∷ bs) = hex_digit (b / 16) ∷ hex_digit (b % 16) ∷ hex_bytes bs

-- `op::push_size`: PUSH1 to PUSH32, hex 60 to 7f
unfoldable pub push_size : ℕ → Option ℕ
push_size opcode = cond (leb 0x60 opcode && leb opcode 0x7f) (Some (opcode - 0x60 + 1)) None

-- ---- `fmt_ops`

-- the line of an opcode with a push size, whose immediate is from one index to another (in order and within `ops`, so `&ops[..]`
-- doesn't panic)
unfoldable pub push_line : List ℕ → ℕ → ℕ → ℕ → ℕ → List ℕ
push_line ops opcode size immStart imm_end =
    as_bytes "  " ++ op_name opcode ++ as_bytes " 0x" ++ hex_bytes (slice immStart imm_end ops)
    ++ cond (ltb (imm_end - immStart) size) (as_bytes " (truncated)") [] ++ as_bytes "\n"

-- the end of an immediate that starts behind i: `(imm_start + push_size).min(ops.len())`
abbrev pub imm_end : List ℕ → ℕ → ℕ → ℕ
imm_end ops i size = min (i + 1 + size) (length ops)

-- the two arms of `if let Some(push_size) = op::push_size(opcode)`; `next` is the loop from an index on
abbrev pub fmt_op : List ℕ → ℕ → ℕ → Option ℕ → (ℕ → List ℕ) → List ℕ
fmt_op ops i opcode (Some size) next = push_line ops opcode size (i + 1) (imm_end ops i size) ++ next (imm_end ops i size)
fmt_op ops i opcode None next = (as_bytes "  " ++ op_name opcode ++ as_bytes "\n") ++ next (i + 1)

-- `while i < ops.len()`, at most `fuel` times: i grows each time, so the length is enough
unfoldable pub fmt_ops_from : ℕ → List ℕ → ℕ → List ℕ
fmt_ops_from zero ops i = []
fmt_ops_from (suc fuel) ops i =
    cond (ltb i (length ops)) (fmt_op ops i (get_or ops i 0) (push_size (get_or ops i 0)) (fmt_ops_from fuel ops)) []

-- `fmt_ops`
unfoldable pub fmt_ops : List ℕ → List ℕ
fmt_ops ops = fmt_ops_from (length ops) ops 0

-- ---- `fmt_mark_ref`

-- `ref_str`
abbrev pub ref_str : MarkReference → List ℕ
ref_str (Direct id) = as_bytes ".mark" ++ displayed id.0
ref_str (Delta span) = as_bytes "(.mark" ++ displayed span.end.0 ++ as_bytes " - .mark" ++ displayed span.start.0 ++ as_bytes ")"

-- `size_str`
abbrev pub size_str : Option RefSize → List ℕ
size_str None = []
size_str (Some s) = as_bytes ":" ++ displayed (as_u32 s)

-- `if asm_ref.pushed`
abbrev pub push_or_raw : Bool → List ℕ
push_or_raw true = as_bytes "  PUSH "
push_or_raw false = as_bytes "  RAW "

-- `fmt_mark_ref`
unfoldable pub fmt_mark_ref : AsmReference → List ℕ
fmt_mark_ref r = push_or_raw r.pushed ++ ref_str r.mark_ref ++ size_str r.set_size ++ as_bytes "\n"

-- ---- `write_asm`

-- the line of a mark
unfoldable pub mark_line : ℕ → List ℕ
mark_line id = as_bytes ".mark" ++ displayed id ++ as_bytes ":\n"

-- the line of data
unfoldable pub data_line : List ℕ → List ℕ
data_line bytes = as_bytes "  data 0x" ++ hex_bytes bytes ++ as_bytes " (" ++ displayed (length bytes) ++ as_bytes " bytes)\n"

-- the text of a section
abbrev pub section_text : List ℕ → AsmSection → Run (List ℕ)
section_text bytes (Mark id) = done (mark_line id)
section_text bytes (Data span) = and_then (range bytes span.start span.end) (λ bs. done (data_line bs))
section_text bytes (Ops span) = and_then (range bytes span.start span.end) (λ bs. done (fmt_ops bs))
section_text bytes (MarkRef r) = done (fmt_mark_ref r)

-- the loop over the sections, each text after the one before
unfoldable pub text_from : List ℕ → List AsmSection → Run (List ℕ)
text_from bytes [] = done []
text_from bytes (s ∷ ss) = and_then (section_text bytes s) (λ line. and_then (text_from bytes ss) (λ rest. done (line ++ rest)))

-- `write_asm`
unfoldable pub write_asm : Assembler → Run (List ℕ)
write_asm a = text_from a.bytes (iter_sections a)
