-- What the functions of src/ speak of: the sections that op bytes and data are, and the kind of the last section. Assumes nothing.
use Rattle.std.specs.Prelude.{ℕ, ◌*◌, ◌-◌, List, Bool, not, ◌&&◌, get_or, ltb, eqb}
use Rattle.records.specs.Record.{ops_kind, data_kind}
use Rattle.records.specs.Sections.{Section, ops, bytes}
use Rattle.calls.specs.Calls.{no_section_left}
use Rattle.adding.specs.declared.BytesKind.{BytesKind}
use Rattle.adding.specs.declared.BytesKind.TheVariants.{Ops, Data}

-- the kind word of a section that holds bytes
abbrev pub kind_number : BytesKind → ℕ
kind_number Ops = ops_kind
kind_number Data = data_kind

-- the section that op bytes or data are
abbrev pub bytes_section : BytesKind → List ℕ → Section
bytes_section Ops bs = ops bs
bytes_section Data bs = bytes bs

-- there is a last section, and its kind is this
unfoldable pub last_kind_is : ℕ → ℕ → List ℕ → ℕ → Bool
last_kind_is w sections words kind = ltb 0 sections && eqb (get_or words (w * (sections - 1)) 0) kind

-- op bytes need a section, and none is left
abbrev pub ops_section_passes : ℕ → ℕ → List ℕ → Bool
ops_section_passes w sections words = not (last_kind_is w sections words ops_kind) && no_section_left w sections words
