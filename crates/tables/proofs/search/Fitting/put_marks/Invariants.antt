-- The invariant: the map has the marks placed before i. Assumes nothing.
use Rattle.settling.specs.SectionWalk.{sections_in}
use Rattle.tables.specs.MarkMap.{Marked}
use Rattle.tables.proofs.search.Fitting.put_marks.Given as goal

abbrev pub invariant-loop-i : goal.invariant-loop-i
invariant-loop-i g l = Marked (sections_in l.self.store) l.i l.map.bits
