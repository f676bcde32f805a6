-- The invariant: with the code from section i on still to be written, the writer is as it is to be.
-- Assumes nothing.
use mathlib.Core.Path.{sym, ap, subst}
use Rattle.assembler.specs.Writing.{Fits, wrote}
use Rattle.assembler.proofs.Writes.{code_all, code_step, code_none, left_fits, left_next, left_done}
use Rattle.assembler.proofs.emission.CodeWriter.write_sections.Goals as goal

pub loop-i-init : goal.loop-i-init
loop-i-init c = record {
  fits = subst (Fits c.args.self.now) (code_all _ _ _) c.requires.fits;
  left = ap (wrote c.args.self.now) (sym (code_all _ _ _));
}

pub write_section-requires-clause-fits : goal.write_section-requires-clause-fits
write_section-requires-clause-fits c =
    left_fits c.loop-i.invariant _ _ (code_step _ _ _ c.loop-i.i _ c.loop-i-test.true (c.section.ensures c.loop-i-test.true))

pub loop-i-preserved : goal.loop-i-preserved
loop-i-preserved c =
    left_next c.loop-i.invariant _ _ (code_step _ _ _ c.loop-i.i _ c.loop-i-test.true (c.section.ensures c.loop-i-test.true)) c.write_section.ensures

pub returns : goal.returns
returns c = left_done c.loop-i.invariant (code_none _ _ _ c.loop-i.i c.loop-i-test.false)
