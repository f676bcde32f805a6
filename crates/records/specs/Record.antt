-- Document 01, module 2: the words of one section. Word 0 is the kind, 0 to 13 in the order of `StoredAsmSection`. Mark: number, 0.
-- Ops and Data: start, end. Direct: number, then set size (0 unsized) plus 8 if pushed. Delta: start mark, end mark.
-- Assumes nothing.
use Rattle.std.specs.Prelude.{ℕ, ◌+◌, ◌-◌, Bool, true, false, cond, ◌&&◌, leb, ltb, eqb, None, Option, Some}
use Rattle.units.specs.declared.Span.{Span}
use Rattle.units.specs.declared.RefSize.{RefSize}
use Rattle.units.specs.declared.AsmBytesIdx.{AsmBytesIdx}
use Rattle.units.specs.declared.RefSize.TheVariants.{S1, S2, S3, S4}
use Rattle.units.specs.declared.MarkReference.{MarkReference}
use Rattle.units.specs.declared.MarkReference.TheVariants.{Direct, Delta}
use Rattle.units.specs.declared.AsmReference.{AsmReference}
use Rattle.units.specs.Form.{size_number, pushed_number}
use Rattle.records.specs.declared.record.AsmSection.{AsmSection}
use Rattle.records.specs.declared.record.AsmSection.TheVariants.{Mark, Ops, Data, MarkRef}
use Rattle.records.specs.declared.record.StoredSection.{StoredSection}

-- the largest mark number
abbrev pub max_mark : ℕ
max_mark = 1048575

-- the kinds, in the order of `StoredAsmSection`; the four sizes follow each of the two unsized deltas
abbrev pub mark_kind : ℕ
mark_kind = 0

abbrev pub ops_kind : ℕ
ops_kind = 1

abbrev pub data_kind : ℕ
data_kind = 2

abbrev pub direct_kind : ℕ
direct_kind = 3

abbrev pub pushed_delta_kind : ℕ
pushed_delta_kind = 4

abbrev pub raw_delta_kind : ℕ
raw_delta_kind = 9

-- the set size that a number from 0 to 4 stands for
unfoldable pub set_size_of : ℕ → Option RefSize
set_size_of n = cond (eqb n 0) None (cond (eqb n 1) (Some S1) (cond (eqb n 2) (Some S2) (cond (eqb n 3) (Some S3) (Some S4))))

-- three words as a record
abbrev pub stored_section : ℕ → ℕ → ℕ → StoredSection
stored_section kind first second = record { kind = kind; first = first; second = second }

-- Mark: number, 0
unfoldable pub read_mark : ℕ → ℕ → Option AsmSection
read_mark a b = cond (leb a max_mark && eqb b 0) (Some (Mark (record { 0 = a }))) None

-- Ops and Data: start, end
abbrev pub span : ℕ → ℕ → Span AsmBytesIdx
span a b = record { start = record { 0 = a }; end = record { 0 = b } }

-- Ops or Data, read; 'or exceeds its end' is damaged
unfoldable pub read_span : (Span AsmBytesIdx → AsmSection) → ℕ → ℕ → Option AsmSection
read_span kind a b = cond (leb a b) (Some (kind (span a b))) None

-- a reference that was read
abbrev pub read_ref : MarkReference → ℕ → Bool → Option AsmSection
read_ref m s p = Some (MarkRef (record { mark_ref = m; set_size = set_size_of s; pushed = p }))

-- Direct: number, then set size plus 8 if pushed: 0 to 4, 8 to 12
unfoldable pub read_direct : ℕ → ℕ → Option AsmSection
read_direct a b =
    cond (ltb max_mark a) None
    (cond (leb b 4) (read_ref (Direct (record { 0 = a })) b false)
    (cond (leb 8 b && leb b 12) (read_ref (Direct (record { 0 = a })) (b - 8) true)
    None))

-- Delta: start mark, end mark
unfoldable pub read_delta : ℕ → Bool → ℕ → ℕ → Option AsmSection
read_delta s p a b =
    cond (leb a max_mark && leb b max_mark) (read_ref (Delta (record { start = record { 0 = a }; end = record { 0 = b } })) s p) None

-- a section read back from its three words
unfoldable pub read_section : StoredSection → Option AsmSection
read_section r =
    cond (eqb r.kind mark_kind) (read_mark r.first r.second)
    (cond (eqb r.kind ops_kind) (read_span Ops r.first r.second)
    (cond (eqb r.kind data_kind) (read_span Data r.first r.second)
    (cond (eqb r.kind direct_kind) (read_direct r.first r.second)
    (cond (ltb r.kind raw_delta_kind) (read_delta (r.kind - pushed_delta_kind) true r.first r.second)
    (cond (ltb r.kind 14) (read_delta (r.kind - raw_delta_kind) false r.first r.second)
    None)))))

-- the kind of an unsized delta, to which the set size is added
abbrev pub delta_kind : Bool → ℕ
delta_kind true = pushed_delta_kind
delta_kind false = raw_delta_kind

-- the words of a reference, by its marks, its set size and whether it is pushed
abbrev pub words_of_ref : MarkReference → Option RefSize → Bool → StoredSection
words_of_ref (Direct m) s p = record { kind = direct_kind; first = m.0; second = size_number s + pushed_number p }
words_of_ref (Delta d) s p = record { kind = size_number s + delta_kind p; first = d.start.0; second = d.end.0 }

-- a reference put into words: 'Direct: number, then set size (0 unsized) plus 8 if pushed. Delta: start mark, end mark'
unfoldable pub reference_words : AsmReference → StoredSection
reference_words r = words_of_ref r.mark_ref r.set_size r.pushed

-- a reference's form, from its words: a direct one has it as a word, a delta in its kind. Said of every three words.
unfoldable pub form_of : StoredSection → ℕ
form_of r =
    cond (eqb r.kind direct_kind) r.second
    (cond (ltb r.kind raw_delta_kind) (r.kind + pushed_number true - pushed_delta_kind) (r.kind - raw_delta_kind))
