-- Private to the functions of this crate: what those that add text ask and promise. No public contract cites it. Assumes nothing.
use Rattle.std.specs.Prelude.{ℕ, ◌+◌, ◌<◌, ◌^◌, List, length}
use Rattle.records.specs.Record.{read_section}
use Rattle.records.specs.Store.{Store, store_of}
use Rattle.records.specs.Sections.{section_read, decode}
use Rattle.records.specs.declared.record.StoredSection.{StoredSection}
use Rattle.undamaged.specs.declared.store.UndamagedStore.{UndamagedStore}
use Rattle.listing.specs.Listing.{section_text, listing}

-- there is room for `added` from `at` on: the place after it is a number that the machine has
pub record Room (at : ℕ) (added : List ℕ) : Type 0 where
  pub fits : at + length added < 2 ^ 64

-- the store that the code has as undamaged
abbrev pub store_in : UndamagedStore → Store
store_in store = store_of store.counts store.bytes.now store.words.now

-- the text of the section that three words are
abbrev pub words_text : List ℕ → StoredSection → List ℕ
words_text bs x = section_text (section_read bs (read_section x))

-- the text of a store
abbrev pub store_text : ℕ → Store → List ℕ
store_text w st = listing (decode w st)
