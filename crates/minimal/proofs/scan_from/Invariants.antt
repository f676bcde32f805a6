-- The invariant: every byte before i is 0, and they are the bytes looked at; so it is of those passed over.
-- Assumes nothing.
use mathlib.Core.Path.{◌≡◌}
use Prim.Native.Nat.{ℕ, ◌<◌}
use lib.ListN.{get_or}
use Rattle.minimal.proofs.scan_from.Given as goal

abbrev pub invariant-loop-i : goal.invariant-loop-i
invariant-loop-i l = record { zeros : (k : ℕ) → k < l.i → get_or l.digits k 0 ≡ 0; looked : l.looked ≡ l.i }
