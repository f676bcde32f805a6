-- The texts in a row, of the bytes between the ends that were cut. Assumes nothing.
use Prim.Native.Nat.{◌≤◌, ◌<◌, ◌^◌}
use native.Mathlib.Omega.{arith}
use lib.ListN.{length}
use mathlib.Core.Path.{sym, ap, ◌∙◌}
use Rattle.opcodes.specs.Text.{as_bytes}
use Rattle.lines.specs.Decimal.{decimal}
use Rattle.lines.specs.Lines.{hex, data_line}
use Rattle.lines.proofs.Sinks.{added_is, then}
use Rattle.lines.proofs.Turns.{part_is, cut_part, cut_count}
use Rattle.lines.proofs.text.TextSink.put_data_line.Goals as goal

pub returns : goal.returns
unfolding data_line as_bytes
returns c =
    let short : length c.args.self.now.text.now < 2 ^ 64 = omega arith in
    let ordered : c.min-start.result ≤ c.min-end.result = omega (arith, c.min-start.ensures) in
    let part = part_is _ _ _ ordered ∙ cut_part _ _ _ c.min-end.ensures c.min-start.ensures in
    let count = cut_count _ _ _ c.min-end.ensures c.min-start.ensures in
    let named = then _ _ _ short c.put.ensures (added_is _ (ap hex part) c.put_hex.ensures) in
    let counted = then _ _ _ short (then _ _ _ short named c.put-2.ensures) (added_is _ (ap decimal (sym count)) c.put_decimal.ensures) in
    then _ _ _ short counted c.put-3.ensures
