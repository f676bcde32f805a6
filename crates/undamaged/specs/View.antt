-- An undamaged store, and the same as plain facts; section i as the first that breaks a rule.
-- Assumes nothing.
use Rattle.std.specs.Prelude.{◌≡◌, ℕ, suc, ◌*◌, ◌≤◌, ◌<◌, ◌-◌, Bool, true, false, ◌⊎◌, length}
use Rattle.records.specs.Record.{read_section}
use Rattle.records.specs.Store.{Store, max_bytes, max_sections, section_words}
use Rattle.records.specs.Damage.{unreadable, is_span, end_before, spans_end, bad_count, breaks_rule, whole_soundness, last_broken}
use Rattle.records.specs.Damage.{Soundness}
use Rattle.records.specs.Damage.{Sound, Damaged}

-- the whole test finds nothing
abbrev pub Undamaged : ℕ → Store → Type 0
Undamaged w st = whole_soundness w st ≡ Sound

-- the same as plain facts: counts within slices and limits; every section readable; every Ops or Data section starts at the end of
-- the one before it; and the last such end, 0 if there is none, is the stored count
pub record Facts (w : ℕ) (st : Store) : Type 0 where
  pub bytes_fit : st.stored_bytes ≤ length st.bytes
  pub bytes_limit : st.stored_bytes ≤ max_bytes
  pub sections_limit : st.sections ≤ max_sections
  pub words_fit : w * st.sections ≤ length st.words
  pub readable : (i : ℕ) → i < st.sections → unreadable (read_section (section_words w st i)) ≡ false
  pub starts : (i : ℕ) → i < st.sections → is_span (section_words w st i).kind ≡ true → (section_words w st i).first ≡ end_before w st i
  pub ends : end_before w st st.sections ≡ st.stored_bytes

-- counts that aren't 'beyond slices or limits'. A good count is this, and no byte stored where no section is Ops or Data (`bad_count_iff`,
-- proofs/Soundness).
abbrev pub Within : ℕ → Store → Type 0
Within w st =
    (st.stored_bytes ≤ length st.bytes) × (st.stored_bytes ≤ max_bytes) × (st.sections ≤ max_sections)
    × (w * st.sections ≤ length st.words)

-- section i breaks no rule: it can be read; an Ops or Data section starts at the end of the one before it, and the last such ends at the
-- stored count (`keeps_iff`, proofs/Soundness)
abbrev pub Keeps : ℕ → Store → ℕ → Type 0
Keeps w st i =
    (unreadable (read_section (section_words w st i)) ≡ false)
    × (is_span (section_words w st i).kind ≡ true → (section_words w st i).first ≡ end_before w st i)
    × (is_span (section_words w st i).kind ≡ true → suc i ≡ spans_end w st st.sections → (section_words w st i).second ≡ st.stored_bytes)

-- section i is the first that breaks a rule of the whole test
abbrev pub FirstBreak : ℕ → Store → ℕ → Type 0
FirstBreak w st i = (i < st.sections) × (breaks_rule w st i ≡ true) × ((j : ℕ) → j < i → breaks_rule w st j ≡ false)

-- 6 of a whole store: a bad count, and the section is 0; or the first section that breaks a rule
abbrev pub DamagedAt : ℕ → Store → ℕ → Type 0
DamagedAt w st i = ((bad_count w st ≡ true) × (i ≡ 0)) ⊎ ((bad_count w st ≡ false) × FirstBreak w st i)

-- there is a last section, a building call's test finds it broken, and it is i
abbrev pub LastBreak : ℕ → Store → ℕ → Type 0
LastBreak w st i = (0 < st.sections) × (last_broken w st (st.sections - 1) ≡ true) × (i ≡ st.sections - 1)

-- a test that found a section
abbrev pub unsound : Soundness → Bool
unsound Sound = false
unsound (Damaged i) = true
