-- A section's text is its line's, by its kind. Assumes nothing.
use mathlib.Core.Path.{sym, ap, ◌∙◌}
use Rattle.undamaged.specs.Section.{span_bytes}
use Rattle.lines.specs.Lines.{ops_lines, data_line}
use Rattle.lines.proofs.Sinks.{added_is}
use Rattle.listing.proofs.SectionLines.{text_mark, text_ops, text_data}
use Rattle.listing.proofs.sections.add_section.Goals as goal

pub returns-in-0 : goal.returns-in-0
returns-in-0 c = added_is _ (sym (text_mark c.args.bytes.now c.args.section c.requires c.in-0.is)) c.put_mark_line.ensures

pub returns-in-1 : goal.returns-in-1
returns-in-1 c = added_is _ (ap (λ s. ops_lines (span_bytes c.args.bytes.now s)) c.span_in.ensures ∙ sym (text_ops c.args.bytes.now c.args.section c.requires c.in-1.is)) c.put_ops_lines.ensures

pub returns-in-2 : goal.returns-in-2
returns-in-2 c = added_is _ (ap (λ s. data_line (span_bytes c.args.bytes.now s)) c.span_in-in-2.ensures ∙ sym (text_data c.args.bytes.now c.args.section c.requires c.in-2.is)) c.put_data_line.ensures
