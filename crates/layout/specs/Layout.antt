-- Document 01, module 3: what a layout is, and when it gives enough bytes. Reads nothing of tables or passes; no number in it has a
-- bound beyond the paper's. Assumes nothing.
use Rattle.std.specs.Prelude.{ℕ, ◌+◌, ◌-◌, ◌^◌, ◌≤◌, ◌<◌, ◌≡◌, Bool, true, false, ◌⊎◌, List, [], ◌∷◌, length, None, Option, Some}
use Rattle.units.specs.declared.RefSize.{RefSize}
use Rattle.units.specs.Reference.{ref_size_bytes, op_bytes}
use Rattle.units.specs.declared.MarkReference.{MarkReference}
use Rattle.units.specs.declared.MarkReference.TheVariants.{Direct, Delta}
use Rattle.units.specs.declared.AsmReference.{AsmReference}
use Rattle.records.specs.Sections.{Section, mark, ops, bytes, reference}

-- 'A layout is any offset for each placed mark and any width for each section.' (Other marks have one too;
-- it counts only where a reference names an unplaced mark, which 8, 17 or 18 refuses.)
pub record Layout : Type 0 where
  pub offset : ℕ → ℕ
  pub widths : List ℕ

-- the sum of widths
unfoldable pub total : List ℕ → ℕ
total [] = 0
total (w ∷ ws) = w + total ws

-- 'Its length in all is the sum of the widths'
abbrev pub in_all : Layout → ℕ
in_all l = total l.widths

-- 'a reference's value in it is read from its offsets': the mark's offset, or the end's less the start's. An end below its start
-- gives no value, so such a layout doesn't give enough.
abbrev pub HasValue : (ℕ → ℕ) → MarkReference → ℕ → Type 0
HasValue offset (Direct m) v = v ≡ offset m.0
HasValue offset (Delta s) v = v + offset s.start.0 ≡ offset s.end.0

-- n bytes hold a value
abbrev pub Holds : ℕ → ℕ → Type 0
Holds n v = v < 256 ^ n

-- 'a width that holds its value': for a set size, pushed or raw, a value and a width
abbrev pub HoldsIn : Option RefSize → Bool → ℕ → ℕ → Type 0
-- 'sized, its size, where the set size holds the value'
HoldsIn (Some s) pushed v w = (w ≡ ref_size_bytes s + op_bytes pushed) × Holds (ref_size_bytes s) v
-- 'unsized raw, any 1 to 4 that holds it'
HoldsIn None false v w = (1 ≤ w) × (w ≤ 4) × Holds w v
-- 'unsized pushed, 1 only for value 0, or any 2 to 5 whose width less 1 holds it'
HoldsIn None true v w = ((w ≡ 1) × (v ≡ 0)) ⊎ ((2 ≤ w) × (w ≤ 5) × Holds (w - 1) v)

-- a reference has a value in the offsets, and the width holds it
abbrev pub EnoughFor : (ℕ → ℕ) → AsmReference → ℕ → Type 0
EnoughFor offset r w = (v : ℕ) × HasValue offset r.mark_ref v × HoldsIn r.set_size r.pushed v w

-- a section's width, the sum of widths before it given: 'Ops and Data have their length as width, marks 0, each placing of a mark is
-- at the sum of widths before it, and each reference has a width that holds its value'
abbrev pub EnoughAt : (ℕ → ℕ) → Section → ℕ → ℕ → Type 0
EnoughAt offset (mark m) w before = (w ≡ 0) × (offset m ≡ before)
EnoughAt offset (ops bs) w before = w ≡ length bs
EnoughAt offset (bytes bs) w before = w ≡ length bs
EnoughAt offset (reference r) w before = EnoughFor offset r w

-- so for each section, one width for one section
abbrev pub EnoughFrom : (ℕ → ℕ) → List Section → List ℕ → ℕ → Type 0
EnoughFrom offset [] [] before = Unit
EnoughFrom offset [] (w ∷ ws) before = ⊥
EnoughFrom offset (s ∷ ss) [] before = ⊥
EnoughFrom offset (s ∷ ss) (w ∷ ws) before = EnoughAt offset s w before × EnoughFrom offset ss ws (before + w)

-- 'It gives enough bytes'
abbrev pub GivesEnough : List Section → Layout → Type 0
GivesEnough ss l = EnoughFrom l.offset ss l.widths 0
