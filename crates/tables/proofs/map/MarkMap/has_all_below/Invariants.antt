-- The invariant: every mark before m is in the map. Assumes nothing.
use Prim.Native.Nat.{ℕ, ◌<◌}
use mathlib.Core.Path.{◌≡◌}
use mathlib.Core.Bool.{true}
use Rattle.tables.specs.MarkMap.{in_map}
use Rattle.tables.proofs.map.MarkMap.has_all_below.Given as goal

abbrev pub invariant-loop-m : goal.invariant-loop-m
invariant-loop-m g l = (j : ℕ) → j < l.m → in_map l.self.bits j ≡ true
