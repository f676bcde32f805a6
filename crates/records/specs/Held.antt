-- Internal to the tests for number 6 (src/damage.rt): a section as they read it. No public contract cites it. Assumes nothing.
use Rattle.std.specs.Prelude.{ℕ, Bool, false, not, ◌&&◌, ◌||◌, eqb, None, Option, Some}
use Rattle.units.specs.declared.Span.{Span}
use Rattle.units.specs.declared.AsmBytesIdx.{AsmBytesIdx}
use Rattle.records.specs.declared.record.AsmSection.{AsmSection}
use Rattle.records.specs.declared.record.AsmSection.TheVariants.{Mark, Ops, Data, MarkRef}

-- what the tests need of a section that can be read: the span of Ops or Data, or nothing of a mark or a reference
abbrev pub Held : Type 0
Held = Option (Span AsmBytesIdx)

-- the span of Ops or Data, or nothing
abbrev pub held_by : AsmSection → Held
held_by (Mark m) = None
held_by (Ops s) = Some s
held_by (Data s) = Some s
held_by (MarkRef r) = None

-- the reading of a section, without what marks and references hold
abbrev pub held_read : Option AsmSection → Option Held
held_read (Some s) = Some (held_by s)
held_read None = None

-- bytes that end elsewhere than at the stored count
abbrev pub ends_elsewhere : Held → ℕ → Bool
ends_elsewhere (Some s) stored = not (eqb s.end.0 stored)
ends_elsewhere None stored = false

-- bytes that start elsewhere than at the previous end, or, the last, end elsewhere than at the stored count
abbrev pub span_misplaced : Span AsmBytesIdx → ℕ → Bool → ℕ → Bool
span_misplaced s previousEnd is_last stored = not (eqb s.start.0 previousEnd) || is_last && not (eqb s.end.0 stored)

-- so of a section, which has bytes or not
abbrev pub is_misplaced : Held → ℕ → Bool → ℕ → Bool
is_misplaced (Some s) previousEnd is_last stored = span_misplaced s previousEnd is_last stored
is_misplaced None previousEnd is_last stored = false

-- the end of the last section with bytes, with one section more
abbrev pub end_after : Held → ℕ → ℕ
end_after (Some s) end = s.end.0
end_after None end = end
