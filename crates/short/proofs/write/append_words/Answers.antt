-- The record is written where there is room, which the caller has shown.
-- Assumes nothing.
use mathlib.Core.Path.{◌∙◌}
use Rattle.records.specs.Record.{stored_section}
use Rattle.records.proofs.Writing.{record_room}
use Rattle.short.proofs.write.append_words.Goals as goal

pub returns-clause-words : goal.returns-clause-words
returns-clause-words c =
    let a = c.args in
    c.write_words.ensures ∙ record_room a.words.now _ (stored_section a.kind a.first a.second) c.requires.1
