-- The invariant: no section from i on is Ops or Data, so that the first i sections have the same last one.
-- Assumes nothing.
use mathlib.Core.Path.{◌≡◌}
use Rattle.records.specs.Damage.{spans_end}
use Rattle.records.specs.Store.{store_of, words_per_section}
use Rattle.records.proofs.damage.spans_end.Given as goal

abbrev pub invariant-loop-i : goal.invariant-loop-i
invariant-loop-i l =
    spans_end words_per_section (store_of l.fn.store l.bytes l.words) l.i
    ≡ spans_end words_per_section (store_of l.fn.store l.bytes l.words) l.fn.store.sections
