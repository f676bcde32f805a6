-- A turn adds the first line of what is left. An instruction is 1 to 33 bytes long. Assumes nothing.
use Prim.Native.Nat.{◌≤◌, ◌<◌, ◌^◌}
use native.Mathlib.Omega.{arith}
use lib.ListN.{length}
use mathlib.Core.Path.{ap}
use Rattle.lines.specs.Lines.{ops_lines}
use Rattle.lines.proofs.Sinks.{added_then, added_is}
use Rattle.lines.proofs.Turns.{steps, cut_end, ops_turn, ops_done}
use Rattle.lines.proofs.text.TextSink.put_ops_lines.Goals as goal

pub overflow_add-i : goal.overflow_add-i
overflow_add-i c = omega (arith, steps _ c.instruction_length-i.ensures, c.min-end.ensures, c.loop-i-test.true)

pub loop-i-smaller : goal.loop-i-smaller
loop-i-smaller c = omega (arith, steps _ c.instruction_length-i.ensures, c.loop-i-test.true)

pub loop-i-preserved : goal.loop-i-preserved
loop-i-preserved c =
    let short : length c.args.self.now.text.now < 2 ^ 64 = omega arith in
    let within : c.min-end.result ≤ length c.args.bytes.now = omega (arith, c.min-end.ensures) in
    let turned = ops_turn _ _ _ _ _ _ within _ short c.loop-i-test.true c.instruction_length-i.ensures c.loop-i.invariant.1 c.put_instruction.ensures in
    (added_then _ _ c.put_instruction.ensures, turned)

pub returns : goal.returns
returns c =
    let within : c.min-end.result ≤ length c.args.bytes.now = omega (arith, c.min-end.ensures) in
    let cut = cut_end c.args.bytes.now c.args.span.start.0 c.args.span.end.0 c.min-end.ensures in
    added_is _ (ap ops_lines cut) (ops_done _ _ _ _ _ _ within c.loop-i.invariant.0 c.loop-i-test.false c.loop-i.invariant.1)
