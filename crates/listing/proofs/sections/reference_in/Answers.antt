-- The reference put together from the words is the one that they are read as.
-- Assumes nothing.
use Rattle.undamaged.proofs.Forms.{reference_of_lem}
use Rattle.listing.proofs.sections.reference_in.Goals as goal

pub returns : goal.returns
returns c =
    rw (c.set_size_of.ensures, c.marks_in.ensures, c.form_of-form.ensures) (reference_of_lem _ c.requires.0 c.requires.1)
