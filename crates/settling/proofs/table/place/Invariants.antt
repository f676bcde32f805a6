-- The invariant: what remains, from the table and the sum as they are, comes to the whole table of first placings; so does the start table, from
-- the table less 1, as long as no placing apart was found; the first such so far; no section before i is short, and, if none was met, none is a
-- delta. Assumes nothing.
use Rattle.std.specs.Prelude.{None}
use mathlib.Core.Path.{◌≡◌}
use mathlib.Core.Bool.{false}
use lib.ListN.{length, drop}
use Rattle.slices.proofs.First.{NoneBefore}
use Rattle.layout.specs.Passes.{start_from, start as start-table}
use Rattle.layout.specs.Conditions.{short_at, apart_at, delta_at}
use Rattle.layout.proofs.Apart.{least_before}
use Rattle.settling.specs.SectionWalk.{sections_in, place_from, first_sums, less_one}
use Rattle.settling.proofs.Turns.{Walk}
use Rattle.settling.proofs.StartTable.{SoFar}
use Rattle.settling.proofs.table.place.Given as goal

abbrev pub invariant-loop-i : goal.invariant-loop-i
invariant-loop-i l =
    Walk place_from (length l.initial.table) (sections_in l.store) (first_sums (length l.initial.table) (sections_in l.store)) l.store.counts.sections l.i l.sum l.table
    × (l.sum ≡ least_before (sections_in l.store) l.i)
    × SoFar (apart_at (sections_in l.store)) l.i l.apart
    × (l.apart ≡ None → start_from (drop l.i (sections_in l.store)) l.sum (less_one l.table) ≡ start-table (length l.initial.table) (sections_in l.store))
    × NoneBefore (short_at (length l.initial.table) (sections_in l.store)) l.i
    × (l.has_delta ≡ false → NoneBefore (delta_at (sections_in l.store)) l.i)
