-- The texts in a row. Assumes nothing.
use Prim.Native.Nat.{◌<◌, ◌^◌}
use native.Mathlib.Omega.{arith}
use lib.ListN.{length}
use mathlib.Core.Path.{◌∙◌}
use Rattle.std.proofs.lemmas.List.{take_rest}
use Rattle.opcodes.specs.Text.{as_bytes}
use Rattle.lines.specs.Lines.{instruction_line}
use Rattle.lines.proofs.Sinks.{added_is, then}
use Rattle.lines.proofs.text.TextSink.put_instruction.Goals as goal

pub returns : goal.returns
unfolding instruction_line as_bytes
returns c =
    let short : length c.args.self.now.text.now < 2 ^ 64 = omega arith in
    let named = then _ _ _ short c.put.ensures (added_is _ (c.as_bytes.ensures.value ∙ c.name.ensures) c.put-2.ensures) in
    let operand = rw (take_rest c.args.code.now 1) at c.put_operand.ensures in
    then _ _ _ short (then _ _ _ short named operand) c.put-3.ensures
