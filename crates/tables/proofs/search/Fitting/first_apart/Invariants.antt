-- The invariant: `run` is the last section with bytes before i, 0 if there is none, the map has the marks placed before it, and no section
-- before i is placed apart. Assumes nothing.
use Rattle.settling.specs.SectionWalk.{sections_in}
use Rattle.tables.proofs.Searches.{Searched}
use Rattle.tables.proofs.search.Fitting.first_apart.Given as goal

abbrev pub invariant-loop-i : goal.invariant-loop-i
invariant-loop-i g l = Searched (sections_in l.self.store) l.i l.run l.map.bits
