-- `main` is safe: the length that is answered is within the text. Assumes nothing.
use native.Mathlib.Omega.{arith}
use lib.ListN.{length-take}
use Rattle.show.proofs.Fits.{listed_fits}
use Rattle.show.proofs.main.Goals as goal

pub slice_bounds-text-end : goal.slice_bounds-text-end
slice_bounds-text-end c = omega (arith, c.write_asm.auto.text, listed_fits _ _ _ _ _ c.write_asm.ensures.answer c.in-Ok-write_asm.is)

pub slice_bounds-write_all-end : goal.slice_bounds-write_all-end
slice_bounds-write_all-end c =
    simp length-take (omega (arith, c.write_asm.auto.text, listed_fits _ _ _ _ _ c.write_asm.ensures.answer c.in-Ok-write_asm.is))
