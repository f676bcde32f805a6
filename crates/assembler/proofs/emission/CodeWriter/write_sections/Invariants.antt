-- The invariant: with the code from section i on still to be written, the writer is as it is to be.
-- Assumes nothing.
use Rattle.records.specs.Store.{store_of, words_per_section}
use Rattle.layout.specs.Passes.{entry}
use Rattle.settling.specs.SectionWalk.{sections_in}
use Rattle.assembler.specs.Emission.{code_of}
use Rattle.assembler.specs.Writing.{wrote}
use Rattle.assembler.proofs.Writes.{Left, code_from}
use Rattle.assembler.proofs.emission.CodeWriter.write_sections.Given as goal

abbrev pub invariant-loop-i : goal.invariant-loop-i
invariant-loop-i l =
    let st = store_of l.fn.store.counts l.fn.store.bytes.now l.fn.store.words.now in
    Left (wrote l.initial.self (code_of (entry l.table) (sections_in l.fn.store))) l.self (code_from words_per_section st l.table l.i)
