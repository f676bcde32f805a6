-- Three stores as one record, and a record where there is room for it. Assumes nothing.
use Prim.Native.Nat.{ℕ, ◌+◌, ◌*◌, ◌≤◌}
use native.Mathlib.Omega.{arith}
use native.Mathlib.Numerals.{add-one, add-two}
use mathlib.Core.Path.{◌≡◌, ◌∙◌}
use mathlib.Core.List.{List, [], ◌∷◌, append_assoc}
use lib.ListN.{length, take, drop, set}
use lib.Seq.{sets-eq}
use Rattle.slices.specs.Over.{over, over_if_room}
use Rattle.slices.proofs.Over.{has_room}
use Rattle.records.specs.Store.{record_words}
use Rattle.records.specs.declared.record.StoredSection.{StoredSection}

-- three stores are the record written over the words from i on
pub three_stores : (l : List ℕ) (i : ℕ) (r : StoredSection) → i + 3 ≤ length l
    → set (set (set l i r.kind) (i + 1) r.first) (i + 2) r.second ≡ over l i (record_words 3 r)
three_stores l i r h =
    let three : List ℕ = r.kind ∷ r.first ∷ r.second ∷ [] in
    rw (add-one i, add-two i) (sets-eq three l i h ∙ append_assoc (take i l) three (drop (i + 3) l))

-- where a section more fits, its record is written
pub record_room : (l : List ℕ) (i : ℕ) (r : StoredSection) → 3 * (i + 1) ≤ length l
    → over_if_room l (3 * i) (record_words 3 r) ≡ over l (3 * i) (record_words 3 r)
record_room l i r h =
    let fits : 3 * i + 3 ≤ length l = omega (arith, h) in
    has_room l (3 * i) (record_words 3 r) fits
