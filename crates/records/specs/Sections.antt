-- The list view: the sections that a store holds, as a list, with the bytes of Ops and Data in them. Everything above the store
-- speaks of this list. Assumes nothing.
use Rattle.std.specs.Prelude.{ℕ, zero, suc, List, [], ◌∷◌, None, Option, Some}
use Rattle.std.proofs.Math.Seq.{slice}
use Rattle.units.specs.declared.AsmReference.{AsmReference}
use Rattle.records.specs.Record.{read_section}
use Rattle.records.specs.Store.{Store, section_words}
use Rattle.records.specs.declared.record.AsmSection.{AsmSection}
use Rattle.records.specs.declared.record.AsmSection.TheVariants.{Mark, Ops, Data, MarkRef}

-- a mark, ops, data or a reference, with the bytes that it holds
pub data Section : Type 0 where
  mark : ℕ → Section
  ops : List ℕ → Section
  -- Data
  bytes : List ℕ → Section
  reference : AsmReference → Section

-- a section that was read, its bytes taken from the byte slice
abbrev pub section_of : List ℕ → AsmSection → Section
section_of bs (Mark m) = mark m.0
section_of bs (Ops s) = ops (slice s.start.0 s.end.0 bs)
section_of bs (Data s) = bytes (slice s.start.0 s.end.0 bs)
section_of bs (MarkRef r) = reference r

-- (an undamaged store has no damaged section)
abbrev pub section_read : List ℕ → Option AsmSection → Section
section_read bs (Some s) = section_of bs s
section_read bs None = mark 0

-- section i of a store
unfoldable pub decode_at : ℕ → Store → ℕ → Section
decode_at w st i = section_read st.bytes (read_section (section_words w st i))

-- the k sections from i on
unfoldable pub decode_from : ℕ → Store → ℕ → ℕ → List Section
decode_from w st zero i = []
decode_from w st (suc k) i = decode_at w st i ∷ decode_from w st k (suc i)

-- the sections of a store
unfoldable pub decode : ℕ → Store → List Section
decode w st = decode_from w st st.sections 0
