-- What is known of one section of an undamaged store: its span lies within the stored bytes, and its marks are at most the largest.
-- The functions that read only undamaged stores ask for it. Assumes nothing.
use Rattle.std.specs.Prelude.{ℕ, ◌%◌, ◌≤◌, cond, List, eqb, leb, None, Option, Some}
use Rattle.std.proofs.Math.Seq.{slice}
use Rattle.units.specs.declared.Span.{Span}
use Rattle.units.specs.declared.AsmBytesIdx.{AsmBytesIdx}
use Rattle.units.specs.declared.MarkReference.{MarkReference}
use Rattle.units.specs.declared.MarkReference.TheVariants.{Direct, Delta}
use Rattle.units.specs.declared.AsmReference.{AsmReference}
use Rattle.records.specs.Record.{max_mark, direct_kind, set_size_of, form_of}
use Rattle.records.specs.declared.record.StoredSection.{StoredSection}
use Rattle.records.specs.declared.record.AsmSection.{AsmSection}
use Rattle.records.specs.declared.record.AsmSection.TheVariants.{Mark, Ops, Data, MarkRef}

-- the bytes of a span
abbrev pub span_bytes : List ℕ → Span AsmBytesIdx → List ℕ
span_bytes bs s = slice s.start.0 s.end.0 bs

-- a span of the first n bytes
abbrev pub SpanIn : ℕ → Span AsmBytesIdx → Type 0
SpanIn n s = (s.start.0 ≤ s.end.0) × (s.end.0 ≤ n)

-- no mark number above the largest
abbrev pub SmallMarks : MarkReference → Type 0
SmallMarks (Direct m) = m.0 ≤ max_mark
SmallMarks (Delta d) = (d.start.0 ≤ max_mark) × (d.end.0 ≤ max_mark)

-- the marks that a reference's words name, by their kind
abbrev pub marks_of : StoredSection → MarkReference
marks_of x =
    cond (eqb x.kind direct_kind) (Direct (record { 0 = x.first }))
    (Delta (record { start = record { 0 = x.first }; end = record { 0 = x.second } }))

-- a reference put together from its words: the marks, and the set size and 'pushed' that its form says
abbrev pub reference_of : StoredSection → AsmReference
reference_of x = record { mark_ref = marks_of x; set_size = set_size_of (form_of x % 8); pushed = leb 8 (form_of x) }

-- a section of a store of n bytes
abbrev pub SectionIn : ℕ → AsmSection → Type 0
SectionIn n (Mark m) = m.0 ≤ max_mark
SectionIn n (Ops s) = SpanIn n s
SectionIn n (Data s) = SpanIn n s
SectionIn n (MarkRef r) = SmallMarks r.mark_ref

-- three words that are read as one
abbrev pub ReadIn : ℕ → Option AsmSection → Type 0
ReadIn n (Some s) = SectionIn n s
ReadIn n None = ⊥
