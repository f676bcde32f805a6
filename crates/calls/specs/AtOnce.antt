-- A run of op bytes judged at once: what the code tests and writes. That it comes to pushing each byte in turn, `call_reply` and `call_after`
-- of the run, is a law (`op_bytes_law`, proofs/OpBytes). Assumes nothing.
use Rattle.std.specs.Prelude.{ℕ, Bool, cond, List, [], ◌∷◌}
use Rattle.units.specs.Replies.{bytes_full, sections_full}
use Rattle.units.specs.Reply.{accepted, refused}
use Rattle.records.specs.Store.{Store, counts_of}
use Rattle.records.specs.Damage.{last_soundness}
use Rattle.records.specs.Sections.{ops}
use Rattle.calls.specs.Calls.{BuiltReply, with_section, bytes_over, bytes_pass, section_passes, sound_reply, if_stored}

-- no room for one byte
abbrev pub no_byte_left : Store → Bool
no_byte_left st = bytes_over st.bytes st.stored_bytes 1

-- a run that isn't empty: 6; no room for one byte, 4; a section needed and none left, 5; no room for all, 4; else stored
unfoldable pub at_once_reply : ℕ → List ℕ → Store → BuiltReply
at_once_reply w bs st =
    sound_reply (last_soundness w st)
    (cond (no_byte_left st) (refused bytes_full 0 0)
    (cond (section_passes w (ops bs) st) (refused sections_full 0 0)
    (cond (bytes_pass (ops bs) st) (refused bytes_full 0 0)
    (accepted (counts_of (with_section w (ops bs) st))))))

-- refused, the store is as it was
unfoldable pub at_once_after : ℕ → List ℕ → Store → Store
at_once_after w bs st = if_stored (at_once_reply w bs st) (with_section w (ops bs) st) st

-- any run; of an empty one nothing is tested
abbrev pub op_bytes_reply : ℕ → List ℕ → Store → BuiltReply
op_bytes_reply w [] st = accepted (counts_of st)
op_bytes_reply w (b ∷ bs) st = at_once_reply w (b ∷ bs) st

-- the store after any run; an empty one adds nothing
abbrev pub op_bytes_after : ℕ → List ℕ → Store → Store
op_bytes_after w [] st = st
op_bytes_after w (b ∷ bs) st = at_once_after w (b ∷ bs) st
