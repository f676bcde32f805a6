-- Where every mark that the table has an entry for is in the map, no reference is to an unplaced one. Else the invariant: no section before
-- i is one. Assumes nothing.
use Rattle.slices.proofs.First.{NoneBefore}
use Rattle.layout.specs.Conditions.{unplaced_at}
use Rattle.settling.specs.SectionWalk.{sections_in}
use Rattle.tables.proofs.search.Fitting.first_unplaced.Given as goal

abbrev pub invariant-loop-i : goal.invariant-loop-i
invariant-loop-i g l = NoneBefore (unplaced_at (sections_in l.self.store)) l.i
