-- The invariant: adding the lines of the sections from i on gives the sink with all of them. Assumes nothing.
use Prim.Native.Nat.{◌<◌, ◌^◌}
use mathlib.Core.Path.{◌≡◌}
use Rattle.records.specs.Store.{words_per_section}
use Rattle.lines.specs.Sink.{added}
use Rattle.listing.specs.Room.{store_in, store_text}
use Rattle.listing.proofs.Every.{rest}
use Rattle.listing.proofs.sections.write_store.Given as goal

abbrev pub invariant-loop-i : goal.invariant-loop-i
invariant-loop-i l =
    (l.sink.place < 2 ^ 64)
    × (added l.sink (rest words_per_section (store_in l.store) l.i) ≡ added l.initial.sink (store_text words_per_section (store_in l.store)))
