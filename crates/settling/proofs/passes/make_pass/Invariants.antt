-- The invariant: what remains of the walk comes to the whole pass from the table that it started with, and its sum is in bounds.
-- Assumes nothing.
use mathlib.Core.Path.{◌≡◌}
use lib.ListN.{drop}
use Rattle.layout.specs.Passes.{walk_from, pass}
use Rattle.settling.specs.SectionWalk.{sections_in}
use Rattle.settling.proofs.Sections.{Room}
use Rattle.settling.proofs.passes.make_pass.Given as goal

abbrev pub invariant-loop-i : goal.invariant-loop-i
invariant-loop-i l =
    Room (sections_in l.store) l.i l.length
    × (walk_from (drop l.i (sections_in l.store)) l.i l.length l.moved l.table ≡ pass (sections_in l.store) l.initial.table)
