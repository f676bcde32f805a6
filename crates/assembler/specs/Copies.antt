-- Document 01, module 4, 'Ops and Data are copied': where the bytes of each section stand in the result that assembly or a write
-- leaves, of any store. The proofs are in proofs/Copies and proofs/WriteLaws. Assumes nothing.
use Rattle.std.specs.Prelude.{ℕ, ◌+◌, ◌<◌, ◌≡◌, List, ◌++◌, length}
use Rattle.units.specs.declared.AsmReference.{AsmReference}
use Rattle.units.specs.Reply.{Reply}
use Rattle.records.specs.Store.{Store}
use Rattle.records.specs.Sections.{Section, ops, bytes, reference, decode}
use Rattle.layout.specs.Passes.{entry, value_by}
use Rattle.layout.specs.Conditions.{section_at}
use Rattle.layout.specs.Answer.{Laid}
use Rattle.assembler.specs.Emission.{reference_bytes}
use Rattle.assembler.specs.Pushes.{place_of}
use Rattle.assembler.specs.Assemble.{written}

-- a code has these bytes from an offset on
abbrev pub StandsAt : List ℕ → ℕ → List ℕ → Type 0
StandsAt code at bs = (before : List ℕ) × (after : List ℕ) × (code ≡ before ++ (bs ++ after)) × (length before ≡ at)

-- the bytes of each Ops and each Data section stand unchanged in a result, at a position plus the widths before the section, and so do
-- those of each reference, pushed or raw
pub record CopiesHere (ss : List Section) (table result : List ℕ) (position : ℕ) : Type 0 where
  pub op_bytes : (i : ℕ) (bs : List ℕ) → i < length ss → section_at ss i ≡ ops bs → StandsAt result (position + place_of table ss i) bs
  pub data_bytes : (i : ℕ) (bs : List ℕ) → i < length ss → section_at ss i ≡ bytes bs → StandsAt result (position + place_of table ss i) bs
  pub ref_bytes : (i : ℕ) (r : AsmReference) → i < length ss → section_at ss i ≡ reference r
      → StandsAt result (position + place_of table ss i) (reference_bytes r (value_by (entry table) r.mark_ref))

-- so where code is written
abbrev pub CodeCopies : ℕ → Store → ℕ → Reply Laid → List ℕ → List ℕ → Type 0
CodeCopies w st position reply table' result' =
    (size passes : ℕ) → reply ≡ written size passes → CopiesHere (decode w st) table' result' position
