-- The words of one section more, after a store that takes it.
-- Assumes nothing.
use mathlib.Core.Path.{refl}
use Rattle.records.specs.Record.{stored_section}
use Rattle.short.proofs.Ways.{done_as, words_put}
use Rattle.short.proofs.put_section.Goals as goal

pub returns : goal.returns
returns c =
    let a = c.args in
    done_as c.append_words.ensures.state refl c.append_words.ensures.words
    (words_put a.state a.bytes.now a.words.now (stored_section a.kind a.first a.second) (c.takes_section.ensures c.if-not-takes_section.false))
