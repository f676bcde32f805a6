-- A turn adds the eight bytes from `at` on to those written.
-- Assumes nothing.
use Prim.Native.Nat.{◌+◌, ◌≤◌}
use native.Mathlib.Omega.{arith}
use mathlib.Core.Path.{sym, ◌∙◌, ap, subst}
use lib.Seq.{slice, length-slice}
use Rattle.assembler.specs.Writing.{Fits, wrote}
use Rattle.assembler.proofs.Writes.{part_slice, span_parts, wrote_next}
use Rattle.assembler.proofs.emission.CodeWriter.write_groups.Goals as goal

pub loop-at-preserved : goal.loop-at-preserved
loop-at-preserved c =
    let writer = c.args.self.now in
    let bytes = c.args.bytes.now in
    let start = c.args.span.start.0 in
    let at = c.loop-at.at in
    let within : at + 8 ≤ c.args.span.end.0 = omega (arith, c.loop-at-test.true) in
    let parts = span_parts bytes start at (at + 8) c.loop-at.invariant.0 (omega arith) (omega (arith, within, c.requires.span_in.1)) in
    let fits : Fits writer (slice start (at + 8) bytes) =
    omega (arith, c.requires.fits, within, length-slice start (at + 8) bytes, length-slice start c.args.span.end.0 bytes, c.requires.span_in) in
    let group = c.write_eight.ensures ∙ ap (wrote c.loop-at.self) (part_slice at (at + 8) bytes (omega arith)) in
    let first = ap (λ z. wrote z (slice at (at + 8) bytes)) c.loop-at.invariant.2 in
    let both = wrote_next writer (slice start at bytes) (slice at (at + 8) bytes) (subst (Fits writer) parts fits) in
    (omega (arith, c.loop-at.invariant.0), within, group ∙ first ∙ both ∙ ap (wrote writer) (sym parts))
