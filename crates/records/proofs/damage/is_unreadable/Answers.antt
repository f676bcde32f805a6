-- `is_unreadable` is the reading of a section, by whether it has bytes.
-- Assumes nothing.
use mathlib.Core.Path.{sym, ◌∙◌}
use Rattle.records.proofs.Unreadable.{unread_span, unread_other}
use Rattle.records.proofs.damage.is_unreadable.Goals as goal

pub returns-then-is_span : goal.returns-then-is_span
returns-then-is_span c = unread_span _ (sym c.is_span.ensures ∙ c.if-is_span.true)

pub returns : goal.returns
returns c = unread_other _ _ c.greatest_second-limit.ensures (sym c.is_span.ensures ∙ c.if-is_span.false)
