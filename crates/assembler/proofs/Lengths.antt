-- The bytes of a section are as many as its size by the same offsets, so the written layout is the settled one. Assumes nothing.
use Rattle.std.specs.Prelude.{None, Option, Some}
use Prim.Native.Nat.{ℕ, ◌+◌}
use native.Mathlib.Omega.{arith}
use mathlib.Core.Path.{◌≡◌, refl, ◌∙◌, ap, ap₂}
use mathlib.Core.Bool.{Bool, true, false, cond}
use mathlib.Core.List.{List, [], ◌∷◌, ◌++◌, map}
use lib.Dec.{eqb}
use lib.ListN.{length, length-append}
use Rattle.units.specs.declared.RefSize.{RefSize}
use Rattle.units.specs.Numbers.{held_bytes, big_endian}
use Rattle.units.specs.Reference.{ref_size_bytes, op_bytes, width, size}
use Rattle.units.specs.declared.MarkReference.{MarkReference}
use Rattle.units.specs.declared.AsmReference.{AsmReference}
use Rattle.units.proofs.BigEndian.{length_big_endian}
use Rattle.records.specs.Sections.{Section, mark, ops, bytes, reference}
use Rattle.layout.specs.Layout.{total}
use Rattle.layout.specs.Passes.{entry, value_by, size_by}
use Rattle.layout.specs.Shortest.{settled_layout}
use Rattle.assembler.specs.Emission.{opcode, reference_bytes, section_bytes, parts, in_a_row, code_of, written_layout}

-- with its opcode, if pushed, a value has so many bytes
length_value : (p : Bool) (n v : ℕ) → length (opcode p n ++ big_endian n v) ≡ n + op_bytes p
length_value true n v = omega (arith, length_big_endian n v)
length_value false n v = omega (arith, length_big_endian n v)

-- a reference's bytes are as many as its size for the value
pub length_reference : (r : AsmReference) (v : ℕ) → length (reference_bytes r v) ≡ size r v
unfolding reference_bytes size
length_reference r v = go r.mark_ref r.set_size r.pushed
  where
    test : (b : Bool) → length (cond b (0x5f ∷ []) (opcode true (held_bytes v) ++ big_endian (held_bytes v) v)) ≡ cond b 1 (held_bytes v + 1)
    test true = refl
    test false = length_value true (held_bytes v) v

    go : (m : MarkReference) (s : Option RefSize) (p : Bool) → length (reference_bytes (record { mark_ref = m; set_size = s; pushed = p }) v) ≡ width s p v
    go m (Some s) p = length_value p (ref_size_bytes s) v
    go m None true = test (eqb v 0)
    go m None false = length_big_endian (held_bytes v) v

-- a section's bytes are as many as its size
pub length_section : (offset : ℕ → ℕ) (s : Section) → length (section_bytes offset s) ≡ size_by offset s
length_section offset (mark m) = refl
length_section offset (ops bs) = refl
length_section offset (bytes bs) = refl
length_section offset (reference r) = length_reference r (value_by offset r.mark_ref)

-- so for each section of a list
pub part_lengths : (offset : ℕ → ℕ) (ss : List Section) → map length (parts offset ss) ≡ map (size_by offset) ss
part_lengths offset [] = refl
part_lengths offset (s ∷ ss) = ap₂ (λ (w : ℕ) (ws : List ℕ). w ∷ ws) (length_section offset s) (part_lengths offset ss)

-- lists in a row are as long as all of them
pub length_row : (ps : List (List ℕ)) → length (in_a_row ps) ≡ total (map length ps)
unfolding in_a_row total
length_row [] = refl
length_row (p ∷ ps) = length-append p (in_a_row ps) ∙ ap (λ (k : ℕ). length p + k) (length_row ps)

-- the code's length is the sum of the sizes
pub length_code : (offset : ℕ → ℕ) (ss : List Section) → length (code_of offset ss) ≡ total (map (size_by offset) ss)
length_code offset ss = length_row (parts offset ss) ∙ ap total (part_lengths offset ss)

-- the written layout is the settled one
pub written_settled : (table : List ℕ) (ss : List Section) → written_layout table ss ≡ settled_layout table ss
written_settled table ss = ap (λ (ws : List ℕ). record { offset = entry table; widths = ws }) (part_lengths (entry table) ss)
