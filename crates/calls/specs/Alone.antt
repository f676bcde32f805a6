-- A section that stands alone, a mark or a reference: it holds no bytes, and nothing extends it. Its three words as they come, whatever
-- they are, and what adding them gives. Assumes nothing.
use Rattle.std.specs.Prelude.{ℕ, ◌+◌, ◌*◌, cond}
use Rattle.units.specs.Replies.{sections_full}
use Rattle.units.specs.Reply.{accepted, refused}
use Rattle.slices.specs.Over.{over}
use Rattle.records.specs.declared.record.StoredSection.{StoredSection}
use Rattle.records.specs.Store.{Store, counts_of, record_words}
use Rattle.records.specs.Damage.{last_soundness}
use Rattle.records.specs.Sections.{Section, mark, ops, bytes, reference}
use Rattle.calls.specs.Calls.{BuiltReply, no_section_left, sound_reply, if_stored}

-- a mark or a reference
abbrev pub StandsAlone : Section → Type 0
StandsAlone (mark m) = Unit {0}
StandsAlone (ops bs) = ⊥
StandsAlone (bytes bs) = ⊥
StandsAlone (reference r) = Unit {0}

-- one record appended
abbrev pub with_words : ℕ → StoredSection → Store → Store
with_words w x st =
    record {
      bytes = st.bytes;
      words = over st.words (w * st.sections) (record_words w x);
      stored_bytes = st.stored_bytes;
      sections = st.sections + 1;
    }

-- 6, then 5, or stored
unfoldable pub words_reply : ℕ → StoredSection → Store → BuiltReply
words_reply w x st =
    sound_reply (last_soundness w st)
    (cond (no_section_left w st.sections st.words) (refused sections_full 0 0) (accepted (counts_of (with_words w x st))))

-- refused, the store is as it was
unfoldable pub words_after : ℕ → StoredSection → Store → Store
words_after w x st = if_stored (words_reply w x st) (with_words w x st) st
