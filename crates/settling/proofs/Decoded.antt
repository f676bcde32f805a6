-- The decoded list of an undamaged store: its bytes with five for each reference are below 2^32. Assumes nothing.
use Prim.Native.Nat.{ℕ, ◌+◌, ◌*◌, ◌^◌, ◌≤◌, ◌<◌}
use native.Mathlib.Omega.{arith}
use mathlib.Core.List.{List, [], ◌∷◌}
use lib.ListN.{length}
use Rattle.records.specs.Store.{Store}
use Rattle.records.specs.Sections.{Section, mark, ops, bytes, reference, decode}
use Rattle.layout.specs.Conditions.{sum_of, stored_bytes, references}
use Rattle.undamaged.specs.View.{Facts}
use Rattle.undamaged.proofs.Soundness.{undamaged_iff}
use Rattle.settling.proofs.Sections.{decode_count, stored_is}

-- a list has no more references than sections
references_count : (ss : List Section) → references ss ≤ length ss
unfolding sum_of
references_count [] = omega arith
references_count (mark m ∷ ss) = omega (arith, references_count ss)
references_count (ops bs ∷ ss) = omega (arith, references_count ss)
references_count (bytes bs ∷ ss) = omega (arith, references_count ss)
references_count (reference r ∷ ss) = omega (arith, references_count ss)

-- so what is stored and five bytes for each reference are below 2^32
pub stored_small : (w : ℕ) (st : Store) → Facts w st → stored_bytes (decode w st) + 5 * references (decode w st) < 2 ^ 32
stored_small w st f =
    omega (arith, stored_is w st ((undamaged_iff w st).1 f), f.bytes_limit, f.sections_limit, references_count (decode w st), decode_count w st)
