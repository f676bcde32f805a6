-- The invariant: no section before i is broken, and end is the end of the last Ops or Data section before i.
-- Assumes nothing.
use Rattle.records.specs.Store.{store_of, words_per_section}
use Rattle.records.proofs.Damages.{Walked}
use Rattle.records.proofs.damage.check_sections.Given as goal

abbrev pub invariant-loop-i : goal.invariant-loop-i
invariant-loop-i l = Walked words_per_section (store_of l.store l.bytes l.words) l.i l.end
