-- The texts in a row. Assumes nothing.
use Prim.Native.Nat.{◌<◌, ◌^◌}
use native.Mathlib.Omega.{arith}
use lib.ListN.{length}
use Rattle.opcodes.specs.Text.{as_bytes}
use Rattle.lines.specs.Lines.{mark_name}
use Rattle.lines.proofs.Sinks.{then}
use Rattle.lines.proofs.text.TextSink.put_mark_name.Goals as goal

pub returns : goal.returns
unfolding mark_name as_bytes
returns c =
    let short : length c.args.self.now.text.now < 2 ^ 64 = omega arith in
    then _ _ _ short c.put.ensures c.put_decimal.ensures
