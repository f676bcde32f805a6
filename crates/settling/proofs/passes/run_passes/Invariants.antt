-- The invariant: the passes that are left, from the table as it is, come to the whole settling. Assumes nothing.
use mathlib.Core.Path.{◌≡◌}
use Rattle.units.specs.Replies.{max_passes}
use Rattle.layout.specs.Passes.{passes}
use Rattle.settling.specs.SectionWalk.{sections_in}
use Rattle.settling.proofs.Turns.{Left}
use Rattle.settling.proofs.passes.run_passes.Given as goal

abbrev pub invariant-loop-passes : goal.invariant-loop-passes
invariant-loop-passes l = Left (sections_in l.store) l.passes l.table ≡ passes max_passes 1 (sections_in l.store) l.initial.table
