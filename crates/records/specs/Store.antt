-- Document 01, module 2: a store as a call is lent it, and its limits. In these definitions the words of a section are a
-- parameter, w; in the code they are three. Assumes nothing.
use Rattle.std.specs.Prelude.{ℕ, ◌+◌, ◌*◌, ◌-◌, List, ◌∷◌, Bool, not, ◌&&◌, length, get_or, replicate, leb}
use Rattle.records.specs.declared.Assembler.{Assembler}
use Rattle.records.specs.declared.record.StoredSection.{StoredSection}

-- stored bytes, at most
abbrev pub max_bytes : ℕ
max_bytes = 16777216

-- sections, at most
abbrev pub max_sections : ℕ
max_sections = 1048576

-- three words a section
abbrev pub words_per_section : ℕ
words_per_section = 3

-- the two counts, and the two lent slices, whole
pub record Store : Type 0 where
  pub bytes : List ℕ
  pub words : List ℕ
  pub stored_bytes : ℕ
  pub sections : ℕ

-- the store of two counts and two lent slices: 'two counts .. over a lent byte slice and a lent slice of 32-bit words'
abbrev pub store_of : Assembler → List ℕ → List ℕ → Store
store_of counts bytes words = record { bytes = bytes; words = words; stored_bytes = counts.bytes; sections = counts.sections }

-- a store's two counts
abbrev pub counts_of : Store → Assembler
counts_of st = record { bytes = st.stored_bytes; sections = st.sections }

-- 'counts to 0'
abbrev pub empty_counts : Assembler
empty_counts = record { bytes = 0; sections = 0 }

-- the first three words of section i, of w words each
abbrev pub words_at : ℕ → List ℕ → ℕ → StoredSection
words_at w words i = record { kind = get_or words (w * i) 0; first = get_or words (w * i + 1) 0; second = get_or words (w * i + 2) 0 }

-- 'three words a section': those of section i of a store
abbrev pub section_words : ℕ → Store → ℕ → StoredSection
section_words w st i = words_at w st.words i

-- the words of a record, with 0 in those past the third
abbrev pub record_words : ℕ → StoredSection → List ℕ
record_words w r = r.kind ∷ r.first ∷ r.second ∷ replicate (w - 3) 0

-- counts beyond slices or limits
unfoldable pub bad_counts : ℕ → Store → Bool
bad_counts w st =
    not
    (leb st.stored_bytes (length st.bytes)
    && leb st.stored_bytes max_bytes
    && leb st.sections max_sections
    && leb (w * st.sections) (length st.words))
