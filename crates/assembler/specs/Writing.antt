-- Private to the writer, src/emission.rt: what its functions ask and promise. No public contract cites it. They are called after the
-- settling or the tests of a table, which refused all else. Assumes nothing.
use Rattle.std.specs.Prelude.{ℕ, ◌+◌, ◌%◌, ◌≤◌, ◌≡◌, true, false, cond, List, [], ◌∷◌, ◌++◌, leb, length}
use Rattle.units.specs.Numbers.{big_endian}
use Rattle.units.specs.Form.{pushed_number, count_by_form, push_zero_by_form}
use Rattle.records.specs.Record.{direct_kind, read_section, form_of}
use Rattle.records.specs.Sections.{section_read}
use Rattle.records.specs.declared.record.StoredSection.{StoredSection}
use Rattle.undamaged.specs.Section.{ReadIn}
use Rattle.slices.specs.Over.{over}
use Rattle.layout.specs.Passes.{entry}
use Rattle.settling.specs.SectionWalk.{MarksIn, backward_words}
use denote.Ref.{at_last}
use Rattle.assembler.specs.Emission.{opcode, section_bytes}
use Rattle.assembler.specs.declared.emission.CodeWriter.{CodeWriter}

-- there is room for `added` from the writer's place on
abbrev pub Fits : CodeWriter → List ℕ → Type 0
Fits writer added = writer.at + length added ≤ length writer.code.now

-- the same lent code, with `added` written over it from the writer's place on, and the place after it
abbrev pub wrote : CodeWriter → List ℕ → CodeWriter
wrote writer added = record { code = at_last writer.code (over writer.code.now writer.at added); at = writer.at + length added }

-- the bytes of the section that three words are
abbrev pub words_bytes : List ℕ → List ℕ → StoredSection → List ℕ
words_bytes table bytes x = section_bytes (entry table) (section_read bytes (read_section x))

-- the bytes of a value, by a reference's form
unfoldable pub form_bytes : ℕ → ℕ → List ℕ
form_bytes f v =
    cond (push_zero_by_form f v) (0x5f ∷ [])
    (opcode (leb (pushed_number true) f) (count_by_form f v) ++ big_endian (count_by_form f v) v)

-- three words of an undamaged store whose marks are in the table, and that aren't a backward delta
pub record Writable (bytes table : List ℕ) (x : StoredSection) : Type 0 where
  pub here : ReadIn (length bytes) (read_section x)
  pub marks : MarksIn (length table) x
  pub forward : backward_words table x ≡ false

-- the words of such a reference, its set size at most 4
pub record WritableReference (table : List ℕ) (x : StoredSection) : Type 0 where
  pub kind : direct_kind ≤ x.kind
  pub marks : MarksIn (length table) x
  pub forward : backward_words table x ≡ false
  pub size : form_of x % 8 ≤ 4
