-- `write_reference` is the definition: 5f alone, or the opcode and the value one after the other.
-- Assumes nothing.
use native.Mathlib.Omega.{arith}
use mathlib.Core.Path.{sym, ◌∙◌, ap, ap₂, subst}
use Prim.Native.Nat.{◌%◌, ◌≤◌}
use Rattle.units.specs.Numbers.{big_endian}
use Rattle.assembler.specs.Writing.{Fits, wrote, form_bytes}
use Rattle.assembler.proofs.Writes.{wrote_next, fits_first, fits_second, reference_zero, reference_parts, count_four}
use Rattle.assembler.proofs.emission.CodeWriter.write_reference.Goals as goal

pub write_byte-requires : goal.write_byte-requires
write_byte-requires c =
    let same = ap₂ form_bytes c.form_of-form.ensures c.value_of-value.ensures in
    subst (Fits c.args.self.now) (reference_zero _ _ same (sym c.is_push_zero.ensures ∙ c.if-is_push_zero.true)) c.requires.fits

pub returns-then-is_push_zero : goal.returns-then-is_push_zero
returns-then-is_push_zero c =
    let same = ap₂ form_bytes c.form_of-form.ensures c.value_of-value.ensures in
    c.write_byte.ensures ∙ ap (wrote c.args.self.now) (sym (reference_zero _ _ same (sym c.is_push_zero.ensures ∙ c.if-is_push_zero.true)))

pub write_opcode-requires : goal.write_opcode-requires
write_opcode-requires c =
    let same = ap₂ form_bytes c.form_of-form.ensures c.value_of-value.ensures in
    let parts = reference_parts _ _ same _ (sym c.is_push_zero.ensures ∙ c.if-is_push_zero.false) c.byte_count-count.ensures in
    let small : c.form_of-form.result % 8 ≤ 4 = rw c.form_of-form.ensures c.requires.writable_reference.size in (
      omega (arith, c.byte_count-count.ensures, count_four _ c.value_of-value.result small),
      fits_first c.args.self.now _ _ (subst (Fits c.args.self.now) parts c.requires.fits),
    )

pub write_value-requires : goal.write_value-requires
write_value-requires c =
    let same = ap₂ form_bytes c.form_of-form.ensures c.value_of-value.ensures in
    let parts = reference_parts _ _ same _ (sym c.is_push_zero.ensures ∙ c.if-is_push_zero.false) c.byte_count-count.ensures in
    let small : c.form_of-form.result % 8 ≤ 4 = rw c.form_of-form.ensures c.requires.writable_reference.size in (
      omega (arith, c.byte_count-count.ensures, count_four _ c.value_of-value.result small),
      subst (λ w. Fits w (big_endian c.byte_count-count.result c.value_of-value.result)) (sym c.write_opcode.ensures)
          (fits_second c.args.self.now _ _ (subst (Fits c.args.self.now) parts c.requires.fits)),
    )

pub returns : goal.returns
returns c =
    let same = ap₂ form_bytes c.form_of-form.ensures c.value_of-value.ensures in
    let parts = reference_parts _ _ same _ (sym c.is_push_zero.ensures ∙ c.if-is_push_zero.false) c.byte_count-count.ensures in
    let value = big_endian c.byte_count-count.result c.value_of-value.result in
    c.write_value.ensures ∙ ap (λ w. wrote w value) c.write_opcode.ensures
    ∙ wrote_next c.args.self.now _ value (subst (Fits c.args.self.now) parts c.requires.fits) ∙ ap (wrote c.args.self.now) (sym parts)
