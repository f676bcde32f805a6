-- `write_section` writes the bytes of each kind of section.
-- Assumes nothing.
use mathlib.Core.Path.{sym, ap, ◌∙◌, subst}
use Rattle.assembler.specs.Writing.{Fits, wrote}
use Rattle.assembler.proofs.SectionBytes.{bytes_mark, bytes_span, bytes_reference}
use Rattle.assembler.proofs.Writes.{wrote_none}
use Rattle.assembler.proofs.emission.CodeWriter.write_section.Goals as goal

pub returns-then-section-eq-MARK : goal.returns-then-section-eq-MARK
returns-then-section-eq-MARK c =
    sym (wrote_none c.args.self.now) ∙ ap (wrote c.args.self.now) (sym (bytes_mark _ _ _ c.requires.writable c.if-section-eq-MARK.true))

pub write_span-requires : goal.write_span-requires
write_span-requires c =
    let span = bytes_span _ _ _ c.requires.writable c.if-section-eq-MARK.false c.if-section-lt-DIRECT.true in
    record { span_in = span.0; fits = subst (Fits c.args.self.now) span.1 c.requires.fits }

pub returns-then-section-lt-DIRECT : goal.returns-then-section-lt-DIRECT
returns-then-section-lt-DIRECT c =
    let span = bytes_span _ _ _ c.requires.writable c.if-section-eq-MARK.false c.if-section-lt-DIRECT.true in
    c.write_span.ensures ∙ ap (wrote c.args.self.now) (sym span.1)

pub write_reference-requires : goal.write_reference-requires
write_reference-requires c =
    let found = bytes_reference _ _ _ c.requires.writable c.if-section-lt-DIRECT.false in
    record { writable_reference = found.0; fits = subst (Fits c.args.self.now) found.1 c.requires.fits }

pub returns : goal.returns
returns c =
    c.write_reference.ensures ∙ ap (wrote c.args.self.now) (sym (bytes_reference _ _ _ c.requires.writable c.if-section-lt-DIRECT.false).1)
