-- Document 01, module 2: when a store is damaged, and the section that number 6 reports; and the lesser test of a building call.
-- Readings 1 to 5 of docs/DECISIONS.md. Assumes nothing.
use Rattle.std.specs.Prelude.{ℕ, zero, suc, ◌-◌, Bool, true, false, cond, not, ◌&&◌, ◌||◌, ltb, eqb, None, Option, Some, Result, Ok, Err}
use Rattle.records.specs.declared.record.AsmSection.{AsmSection}
use Rattle.slices.specs.First.{least_from}
use Rattle.records.specs.Record.{read_section, ops_kind, data_kind}
use Rattle.records.specs.Store.{Store, section_words, bad_counts}
use Rattle.records.specs.declared.record.StoredSection.{StoredSection}
use Rattle.records.specs.declared.damage.Damage.{Damage}

-- what the tests for 6 find: sound, or the section that number 6 reports
pub data Soundness : Type 0 where
  Sound : Soundness
  Damaged : ℕ → Soundness

-- what a test answers stands for, whatever it gives where it accepts
abbrev pub soundness_of : {A : Type 0} → Result A Damage → Soundness
soundness_of (Ok _) = Sound
soundness_of (Err d) = Damaged d.section

-- an unlisted kind or field, a mark number too large, a start that exceeds its end
abbrev pub unreadable : Option AsmSection → Bool
unreadable (Some s) = false
unreadable None = true

-- an Ops or Data section, by its kind word alone
abbrev pub is_span : ℕ → Bool
is_span k = eqb k ops_kind || eqb k data_kind

-- the end of the last Ops or Data section among the first n sections, 0 if there is none
unfoldable pub end_before : ℕ → Store → ℕ → ℕ
end_before w st zero = 0
end_before w st (suc n) = cond (is_span (section_words w st n).kind) (section_words w st n).second (end_before w st n)

-- how many of the first n sections there are up to and with the last Ops or Data section, 0 if there is none
unfoldable pub spans_end : ℕ → Store → ℕ → ℕ
spans_end w st zero = 0
spans_end w st (suc n) = cond (is_span (section_words w st n).kind) (suc n) (spans_end w st n)

-- a section can't be read; or it is Ops or Data and starts elsewhere than at the previous such end; or it is the last such and ends
-- elsewhere than at the stored count
abbrev pub broken_section : StoredSection → ℕ → Bool → ℕ → Bool
broken_section r previousEnd is_last stored =
    unreadable (read_section r)
    || is_span r.kind
    && (not (eqb r.first previousEnd) || is_last && not (eqb r.second stored))

-- section i breaks a rule
unfoldable pub breaks_rule : ℕ → Store → ℕ → Bool
breaks_rule w st i =
    broken_section (section_words w st i) (end_before w st i) (eqb (suc i) (spans_end w st st.sections)) st.stored_bytes

-- the first section that breaks a rule, the count of sections if none does
abbrev pub first_broken : ℕ → Store → ℕ
first_broken w st = least_from (breaks_rule w st) st.sections 0

-- a bad count: beyond slices or limits, or bytes stored and no Ops or Data section to hold them
unfoldable pub bad_count : ℕ → Store → Bool
bad_count w st = bad_counts w st || ltb 0 st.stored_bytes && eqb (spans_end w st st.sections) 0

-- the first section that breaks a rule is damaged
unfoldable pub broken_reply : ℕ → Store → Soundness
broken_reply w st = cond (ltb (first_broken w st) st.sections) (Damaged (first_broken w st)) Sound

-- the whole test: bad counts come before any section
unfoldable pub whole_soundness : ℕ → Store → Soundness
whole_soundness w st = cond (bad_count w st) (Damaged 0) (broken_reply w st)

-- a building call tests in the last section only that it can be read and, for Ops or Data, that it ends at the stored count
abbrev pub broken_last : StoredSection → ℕ → Bool
broken_last r stored = unreadable (read_section r) || is_span r.kind && not (eqb r.second stored)

-- so of section i of a store, which is the last where this is asked
unfoldable pub last_broken : ℕ → Store → ℕ → Bool
last_broken w st i = broken_last (section_words w st i) st.stored_bytes

-- a building call's bad count: beyond slices or limits, or bytes without sections
unfoldable pub bad_count_building : ℕ → Store → Bool
bad_count_building w st = bad_counts w st || ltb 0 st.stored_bytes && eqb st.sections 0

-- a building call's test
unfoldable pub last_soundness : ℕ → Store → Soundness
last_soundness w st =
    cond (bad_count_building w st) (Damaged 0)
    (cond (ltb 0 st.sections && last_broken w st (st.sections - 1)) (Damaged (st.sections - 1)) Sound)
