-- The groups, and over what they wrote the span's last eight bytes.
-- Assumes nothing.
use Prim.Native.Nat.{◌-◌}
use native.Mathlib.Omega.{arith}
use mathlib.Core.Path.{◌∙◌, ap}
use lib.Seq.{slice}
use Rattle.assembler.specs.Writing.{wrote}
use Rattle.assembler.specs.declared.emission.CodeWriter.{CodeWriter}
use Rattle.assembler.proofs.Writes.{part_slice, put_back, last_eight}
use Rattle.assembler.proofs.emission.CodeWriter.write_eights.Goals as goal

pub returns : goal.returns
returns c =
    let bytes = c.args.bytes.now in
    let end = c.args.span.end.0 in
    let at = c.write_groups-at.result in
    let groups = c.write_groups-at.ensures in
    c.write_eight.ensures
    ∙ ap (wrote (put_back at end c.write_groups-at.new.self)) (part_slice (end - 8) end bytes (omega arith))
    ∙ ap (λ (writer : CodeWriter). wrote (put_back at end writer) (slice (end - 8) end bytes)) groups.written
    ∙ last_eight c.args.self.now bytes c.args.span.start.0 at end c.requires.long groups.left c.requires.span_in.1 c.requires.fits
