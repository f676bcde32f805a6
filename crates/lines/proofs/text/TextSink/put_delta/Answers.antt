-- The texts in a row. Assumes nothing.
use Prim.Native.Nat.{◌<◌, ◌^◌}
use native.Mathlib.Omega.{arith}
use lib.ListN.{length}
use Rattle.opcodes.specs.Text.{as_bytes}
use Rattle.lines.specs.Lines.{delta_text}
use Rattle.lines.proofs.Sinks.{then}
use Rattle.lines.proofs.text.TextSink.put_delta.Goals as goal

pub returns : goal.returns
unfolding delta_text as_bytes
returns c =
    let short : length c.args.self.now.text.now < 2 ^ 64 = omega arith in
    let opened = then _ _ _ short c.put.ensures c.put_mark_name.ensures in
    then _ _ _ short (then _ _ _ short (then _ _ _ short opened c.put-2.ensures) c.put_mark_name-2.ensures) c.put-3.ensures
