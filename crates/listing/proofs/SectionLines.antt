-- The text of a section of an undamaged store, by its kind word: one law for each way that the code goes. Assumes nothing.
use Rattle.std.specs.Prelude.{Option, Some}
use Prim.Native.Nat.{ℕ}
use mathlib.Core.Path.{◌≡◌, ap}
use mathlib.Core.Bool.{false}
use mathlib.Core.List.{List}
use lib.ListN.{length}
use Rattle.records.specs.declared.record.AsmSection.{AsmSection}
use Rattle.units.specs.declared.AsmReference.{AsmReference}
use Rattle.records.specs.Record.{mark_kind, ops_kind, data_kind, span, read_section}
use Rattle.records.specs.Damage.{unreadable}
use Rattle.records.specs.Sections.{section_read}
use Rattle.records.specs.declared.record.AsmSection.TheVariants.{MarkRef}
use Rattle.records.specs.declared.record.StoredSection.{StoredSection}
use Rattle.undamaged.specs.Section.{span_bytes, ReadIn}
use Rattle.undamaged.proofs.Reading.{reads, mark_read, ops_read, data_read}
use Rattle.undamaged.proofs.Sections.{can_read}
use Rattle.lines.specs.Lines.{mark_line, ops_lines, data_line, reference_line}
use Rattle.listing.specs.Listing.{section_text}
use Rattle.listing.specs.Room.{words_text}

-- what the words of a section ask of the bytes
abbrev pub Needs : List ℕ → StoredSection → Type 0
Needs bs x = ReadIn (length bs) (read_section x)

module _ (bs : List ℕ) (x : StoredSection) (here : Needs bs x) where
  pub readable : unreadable (read_section x) ≡ false
  readable = can_read (length bs) (read_section x) here

  -- the text of what it is read as
  text_of : (v : Option AsmSection) → read_section x ≡ v → words_text bs x ≡ section_text (section_read bs v)
  text_of v e = ap (λ (y : Option AsmSection). section_text (section_read bs y)) e

  pub text_mark : x.kind ≡ mark_kind → words_text bs x ≡ mark_line x.first
  text_mark k = text_of _ (mark_read (reads x) readable k)

  pub text_ops : x.kind ≡ ops_kind → words_text bs x ≡ ops_lines (span_bytes bs (span x.first x.second))
  text_ops k = text_of _ (ops_read (reads x) readable k)

  pub text_data : x.kind ≡ data_kind → words_text bs x ≡ data_line (span_bytes bs (span x.first x.second))
  text_data k = text_of _ (data_read (reads x) readable k)

  pub text_reference : (r : AsmReference) → read_section x ≡ Some (MarkRef r) → words_text bs x ≡ reference_line r
  text_reference r e = text_of _ e
