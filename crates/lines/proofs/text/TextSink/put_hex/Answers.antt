-- Where no byte can be stored, the digits are counted. A turn adds a byte's two digits. Assumes nothing.
use Prim.Native.Nat.{◌<◌, ◌^◌}
use native.Mathlib.Omega.{arith}
use lib.ListN.{length}
use Rattle.lines.proofs.Sinks.{added_past, added_then, walk_short}
use Rattle.lines.proofs.Turns.{hex_length, hex_two, hex_turn, hex_done}
use Rattle.lines.proofs.text.TextSink.put_hex.Goals as goal

pub returns-then-self : goal.returns-then-self
returns-then-self c = added_past _ _ c.if-self.true (omega (arith, c.place_after-self.ensures, hex_length c.args.bytes.now))

pub loop-byte-preserved : goal.loop-byte-preserved
loop-byte-preserved c =
    let short : length c.args.self.now.text.now < 2 ^ 64 = omega arith in
    let here = walk_short _ _ _ _ short c.loop-byte.invariant.1 in
    let two = hex_two _ _ here c.hex_digit.ensures c.hex_digit-in-loop-byte.ensures c.put_byte.ensures c.put_byte-in-loop-byte.ensures in
    (added_then _ _ two, hex_turn _ _ _ _ _ short c.loop-byte-test.true c.loop-byte.invariant.1 two)

pub returns : goal.returns
returns c = hex_done _ _ _ _ _ c.loop-byte.invariant.0 c.loop-byte-test.false c.loop-byte.invariant.1
