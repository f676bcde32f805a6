-- The invariant: no section before i is short. Assumes nothing.
use Rattle.slices.proofs.First.{NoneBefore}
use Rattle.layout.specs.Conditions.{short_at}
use Rattle.settling.specs.SectionWalk.{sections_in}
use Rattle.tables.proofs.search.first_short.Given as goal

abbrev pub invariant-loop-i : goal.invariant-loop-i
invariant-loop-i l = NoneBefore (short_at l.limit (sections_in l.store)) l.i
