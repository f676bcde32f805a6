-- The invariant: no section before i is a 7, a 16 or a 10; the sum is that of the sizes before i, and in bounds; the map has the marks placed
-- before i; the first backward delta so far. Assumes nothing.
use mathlib.Core.Path.{◌≡◌}
use Rattle.slices.proofs.First.{NoneBefore}
use Rattle.layout.specs.Conditions.{backward_at}
use Rattle.settling.specs.SectionWalk.{sections_in}
use Rattle.settling.proofs.Sections.{Room}
use Rattle.tables.specs.MarkMap.{Marked}
use Rattle.tables.specs.TableTests.{sum_before}
use Rattle.tables.specs.TableWalk.{stops_at}
use Rattle.settling.proofs.StartTable.{SoFar}
use Rattle.tables.proofs.compare.compare.Given as goal

abbrev pub invariant-loop-i : goal.invariant-loop-i
invariant-loop-i g l =
    Room (sections_in l.store) l.i l.sum
    × NoneBefore (stops_at l.table (sections_in l.store)) l.i
    × (l.sum ≡ sum_before l.table (sections_in l.store) l.i)
    × Marked (sections_in l.store) l.i l.map.bits
    × SoFar (backward_at l.table (sections_in l.store)) l.i l.backward
