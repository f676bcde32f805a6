-- Of what can be read: the span of Ops or Data, or nothing of a mark or a reference.
-- Assumes nothing.
use mathlib.Core.Path.{sym, ◌∙◌}
use Rattle.records.proofs.Helds.{held_span, held_nothing}
use Rattle.records.proofs.damage.held_in.Goals as goal

pub returns-then-not-is_span : goal.returns-then-not-is_span
returns-then-not-is_span c = held_nothing c.args.section (sym c.is_span.ensures ∙ c.if-not-is_span.true) c.requires

pub returns : goal.returns
returns c = held_span c.args.section (sym c.is_span.ensures ∙ c.if-not-is_span.false) c.requires
