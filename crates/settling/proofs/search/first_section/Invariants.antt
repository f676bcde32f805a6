-- The invariant: no section before i is one. Assumes nothing.
use Prim.Native.Nat.{ℕ, ◌<◌}
use mathlib.Core.Bool.{false}
use Rattle.records.specs.Store.{words_per_section, words_at}
use Rattle.settling.proofs.search.first_section.Given as goal

abbrev pub invariant-loop-i : goal.invariant-loop-i
invariant-loop-i g l = (j : ℕ) → j < l.i → goal.F-post g l.is_one (words_at words_per_section l.store.words.now j) false
