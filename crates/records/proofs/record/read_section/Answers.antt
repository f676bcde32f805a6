-- An Ops or Data section is its span, none if that can't be read; the other kinds are found.
-- Assumes nothing.
use mathlib.Core.Path.{sym, ◌∙◌}
use Rattle.records.specs.declared.record.AsmSection.TheVariants.{Ops, Data}
use Rattle.records.proofs.Reading.{span_kept, span_lost, section_ops, section_data}
use Rattle.records.proofs.record.read_section.Goals as goal

pub returns-in_ok-read_span-in-1 : goal.returns-in_ok-read_span-in-1
returns-in_ok-read_span-in-1 c = section_ops _ _ c.in-1.is (span_kept _ _ Ops _ (sym c.in_ok-read_span-in-1.was ∙ c.read_span.ensures))

pub returns-in_ok-read_span-in-2 : goal.returns-in_ok-read_span-in-2
returns-in_ok-read_span-in-2 c = section_data _ _ c.in-2.is (span_kept _ _ Data _ (sym c.in_ok-read_span-in-2.was ∙ c.read_span-in-2.ensures))

pub returns-in_err-read_span-in-1 : goal.returns-in_err-read_span-in-1
returns-in_err-read_span-in-1 c = section_ops _ _ c.in-1.is (c.from_residual.ensures ∙ span_lost _ _ Ops (sym c.in_err-read_span-in-1.was ∙ c.read_span.ensures))

pub returns-in_err-read_span-in-2 : goal.returns-in_err-read_span-in-2
returns-in_err-read_span-in-2 c =
    section_data _ _ c.in-2.is (c.from_residual-in_err-read_span-in-2.ensures ∙ span_lost _ _ Data (sym c.in_err-read_span-in-2.was ∙ c.read_span-in-2.ensures))
