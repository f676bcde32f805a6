-- Nothing, or the texts in a row. Assumes nothing.
use Prim.Native.Nat.{◌<◌, ◌^◌}
use native.Mathlib.Omega.{arith}
use mathlib.Core.Path.{ap}
use lib.ListN.{length}
use Rattle.opcodes.specs.Text.{as_bytes}
use Rattle.lines.specs.Decimal.{decimal}
use Rattle.lines.proofs.Sinks.{added_is, then}
use Rattle.lines.proofs.text.TextSink.put_size.Goals as goal

pub returns-in-Some : goal.returns-in-Some
unfolding as_bytes
returns-in-Some c =
    let short : length c.args.self.now.text.now < 2 ^ 64 = omega arith in
    rw c.in-Some.is (then _ _ _ short c.put.ensures (added_is _ (ap decimal c.bytes.ensures.0) c.put_decimal.ensures))
