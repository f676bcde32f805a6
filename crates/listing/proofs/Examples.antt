-- The definitions of the listing, computed: the listing of document 01's line 12, and the line forms that it lacks. Assumes nothing.
use Rattle.std.specs.Prelude.{Some}
use mathlib.Core.Path.{◌≡◌, refl}
use mathlib.Core.Bool.{false}
use mathlib.Core.List.{[], ◌∷◌}
use Rattle.evm.specs.YellowPaper.{is_push, push_size, instruction_length}
use Rattle.evm.specs.Walk.{walk_from, walk}
use Rattle.opcodes.specs.Text.{as_bytes}
use Rattle.opcodes.specs.Names.{lookup, op_names, op_name}
use Rattle.units.specs.Reference.{unsized_pushed}
use Rattle.units.specs.declared.RefSize.TheVariants.{S2}
use Rattle.units.specs.declared.MarkReference.TheVariants.{Direct, Delta}
use Rattle.records.specs.Sections.{mark, ops, bytes, reference}
use Rattle.lines.specs.Decimal.{last_digits, decimal}
use Rattle.lines.specs.Lines.{hex_digit, hex, mark_name, mark_line, data_line, cut_text, immediate_text, instruction_line, instruction_lines, ops_lines, delta_text, reference_line}
use Rattle.listing.specs.Listing.{listing}

-- line 12: mark 0, op 5b, pushed ref 1, op 56, mark 1, op 5b, data aa bb, raw delta 0 to 1 size 2
pub line_12 :
    listing
    (mark 0
    ∷ ops (0x5b ∷ [])
    ∷ reference (unsized_pushed (Direct (record { 0 = 1 })))
    ∷ ops (0x56 ∷ [])
    ∷ mark 1
    ∷ ops (0x5b ∷ [])
    ∷ bytes (0xaa ∷ 0xbb ∷ [])
    ∷ reference (record { mark_ref = Delta (record { start = record { 0 = 0 }; end = record { 0 = 1 } }); set_size = Some S2; pushed = false })
    ∷ [])
    ≡ as_bytes ".mark0:\n  JUMPDEST\n  PUSH .mark1\n  JUMP\n.mark1:\n  JUMPDEST\n  data 0xaabb (2 bytes)\n  RAW (.mark1 - .mark0):2\n"
unfolding is_push push_size instruction_length walk_from walk as_bytes lookup op_names op_name last_digits decimal hex_digit hex mark_name mark_line data_line cut_text immediate_text instruction_line instruction_lines ops_lines delta_text reference_line listing
line_12 = refl

-- immediates whole, cut and absent, cut at the section's end also where Ops follow; PUSH0; an unknown byte; empty sections; `bytes` for every count
pub other_lines :
    listing
    (ops (0x61 ∷ 0x0a ∷ 0xff ∷ 0x5f ∷ 0x0c ∷ 0x61 ∷ 0x01 ∷ [])
    ∷ ops (0x60 ∷ [])
    ∷ ops []
    ∷ bytes []
    ∷ bytes (0 ∷ [])
    ∷ mark 107
    ∷ [])
    ≡ as_bytes "  PUSH2 0x0aff\n  PUSH0\n  UNKNOWN\n  PUSH2 0x01 (truncated)\n  PUSH1 0x (truncated)\n  data 0x (0 bytes)\n  data 0x00 (1 bytes)\n.mark107:\n"
unfolding is_push push_size instruction_length walk_from walk as_bytes lookup op_names op_name last_digits decimal hex_digit hex mark_name mark_line data_line cut_text immediate_text instruction_line instruction_lines ops_lines delta_text reference_line listing
other_lines = refl
