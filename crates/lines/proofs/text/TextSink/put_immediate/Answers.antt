-- The texts in a row, cut or whole. Assumes nothing.
use Prim.Native.Nat.{◌<◌, ◌^◌}
use native.Mathlib.Omega.{arith}
use lib.ListN.{length}
use Rattle.opcodes.specs.Text.{as_bytes}
use Rattle.lines.proofs.Sinks.{added_is, then}
use Rattle.lines.proofs.Turns.{immediate_short, immediate_full}
use Rattle.lines.proofs.text.TextSink.put_immediate.Goals as goal

pub returns-then-rest-size : goal.returns-then-rest-size
unfolding as_bytes
returns-then-rest-size c =
    let short : length c.args.self.now.text.now < 2 ^ 64 = omega arith in
    added_is _ (immediate_short _ _ c.requires c.if-rest-size.true) (then _ _ _ short (then _ _ _ short c.put.ensures c.put_hex.ensures) c.put-then-rest-size.ensures)

pub returns : goal.returns
unfolding as_bytes
returns c =
    let short : length c.args.self.now.text.now < 2 ^ 64 = omega arith in
    added_is _ (immediate_full _ _ c.requires c.if-rest-size.false) (then _ _ _ short c.put.ensures c.put_hex-2.ensures)
