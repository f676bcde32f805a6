-- What the private tests of the short ways establish, and what their private writers leave. No public contract cites these.
-- Assumes nothing.
use Rattle.std.specs.Prelude.{ℕ, ◌+◌, ◌*◌, ◌-◌, ◌/◌, ◌%◌, ◌^◌, ◌≤◌, ◌<◌, ◌≡◌, false, List, length, set}
use Rattle.records.specs.Record.{ops_kind}
use Rattle.records.specs.Store.{Store, max_bytes, max_sections, section_words}
use Rattle.records.specs.Damage.{broken_last}
use Rattle.records.specs.declared.record.StoredSection.{StoredSection}

-- one section more is taken, after a last one
pub record Takes (w : ℕ) (st : Store) : Type 0 where
  pub some : 0 < st.sections
  pub few : st.sections < max_sections
  pub limit : st.stored_bytes ≤ max_bytes
  pub held : st.stored_bytes ≤ length st.bytes
  pub free : w * (st.sections + 1) ≤ length st.words
  pub last : broken_last (section_words w st (st.sections - 1)) st.stored_bytes ≡ false

-- three words of a kind that end at the stored count
pub record EndsAt (x : StoredSection) (kind stored : ℕ) : Type 0 where
  pub is_kind : x.kind ≡ kind
  pub starts : x.first ≤ stored
  pub ends : x.second ≡ stored

-- so many bytes more are taken, and extend a last section of this kind
pub record Extends (w : ℕ) (kind added : ℕ) (st : Store) : Type 0 where
  pub room : st.stored_bytes + added ≤ length st.bytes
  pub limit : st.stored_bytes + added ≤ max_bytes
  pub few : st.sections ≤ max_sections
  pub some : 0 < st.sections
  pub words_fit : w * st.sections ≤ length st.words
  pub last : EndsAt (section_words w st (st.sections - 1)) kind st.stored_bytes

-- so many op bytes are taken, and begin an Ops section
pub record Begins (w : ℕ) (added : ℕ) (st : Store) : Type 0 where
  pub takes : Takes w st
  pub room : st.stored_bytes + added ≤ length st.bytes
  pub limit : st.stored_bytes + added ≤ max_bytes
  pub apart : (section_words w st (st.sections - 1)).kind ≡ ops_kind → ⊥

-- the words, with the end of a state's last section moved on by so many bytes
abbrev pub end_moved : ℕ → ℕ → List ℕ → ℕ → List ℕ
end_moved w state words added = set words (w * (state / 2 ^ 32 - 1) + 2) (state % 2 ^ 32 + added)
