-- Runs of op bytes on small stores, in the paper's numbers, by the definition that the contracts cite. Assumes nothing.
use Prim.Native.Nat.{ℕ}
use mathlib.Core.Path.{◌≡◌, refl}
use mathlib.Core.List.{List, [], ◌∷◌}
use Rattle.units.specs.Reply.{accepted, refused}
use Rattle.records.specs.Record.{read_section, read_span}
use Rattle.records.specs.Store.{Store, words_per_section, bad_counts}
use Rattle.records.specs.Damage.{bad_count_building, last_broken, last_soundness}
use Rattle.calls.specs.Calls.{BuiltReply, push_op_bytes, joins, with_section, bytes_pass, no_section_left, section_passes, room_reply, add_reply, push_reply, push_after, all_reply, each_after, all_after, call_reply, call_after}

-- a store of two slices and two counts
abbrev on : List ℕ → List ℕ → ℕ → ℕ → Store
on bytes words stored sections = record { bytes = bytes; words = words; stored_bytes = stored; sections = sections }

abbrev answer : List ℕ → Store → BuiltReply
answer run st = call_reply words_per_section (push_op_bytes run) st

-- the words of an Ops section of no byte, and of a Data section of one
abbrev empty_ops : List ℕ
empty_ops = 1 ∷ 0 ∷ 0 ∷ []

abbrev one_data : List ℕ
one_data = 2 ∷ 0 ∷ 1 ∷ []

-- stored: an Ops section begins, and a second run joins it
pub run_stored :
    (answer (0x5b ∷ 0x5f ∷ []) (on (7 ∷ 7 ∷ 7 ∷ []) (9 ∷ 9 ∷ 9 ∷ []) 0 0) ≡ accepted (record { bytes = 2; sections = 1 }))
    × (call_after words_per_section (push_op_bytes (0x5b ∷ 0x5f ∷ [])) (on (7 ∷ 7 ∷ 7 ∷ []) (9 ∷ 9 ∷ 9 ∷ []) 0 0) ≡ on (0x5b ∷ 0x5f ∷ 7 ∷ []) (1 ∷ 0 ∷ 2 ∷ []) 2 1)
    × (call_after words_per_section (push_op_bytes (0x56 ∷ [])) (on (0x5b ∷ 0x5f ∷ 7 ∷ []) (1 ∷ 0 ∷ 2 ∷ []) 2 1) ≡ on (0x5b ∷ 0x5f ∷ 0x56 ∷ []) (1 ∷ 0 ∷ 3 ∷ []) 3 1)
unfolding all_reply each_after all_after push_reply push_after add_reply room_reply bytes_pass section_passes no_section_left joins with_section last_soundness bad_count_building bad_counts last_broken read_section read_span
run_stored = (refl, refl, refl)

-- one byte fits, no section is left, and the run is too long for the bytes: 5, where a call judged whole would be 4
pub run_five : answer (1 ∷ 2 ∷ []) (on (7 ∷ []) [] 0 0) ≡ refused 5 0 0
unfolding all_reply push_reply push_after add_reply room_reply bytes_pass section_passes no_section_left joins last_soundness bad_count_building bad_counts
run_five = refl

-- no byte fits: 4, and only then 5
pub run_four : answer (1 ∷ []) (on [] [] 0 0) ≡ refused 4 0 0
unfolding all_reply push_reply push_after add_reply room_reply bytes_pass last_soundness bad_count_building bad_counts
run_four = refl

-- the first byte joins an empty Ops section, the second doesn't fit: 4, and nothing is stored
pub run_too_long :
    (answer (1 ∷ 2 ∷ []) (on (7 ∷ []) empty_ops 0 1) ≡ refused 4 0 0)
    × (call_after words_per_section (push_op_bytes (1 ∷ 2 ∷ [])) (on (7 ∷ []) empty_ops 0 1) ≡ on (7 ∷ []) empty_ops 0 1)
unfolding all_reply each_after all_after push_reply push_after add_reply room_reply bytes_pass section_passes no_section_left joins with_section last_soundness bad_count_building bad_counts last_broken read_section read_span
run_too_long = (refl, refl)

-- the last section doesn't end at the stored count: 6 at its index; an empty run is accepted there, and with bad counts
pub run_damaged :
    (answer (1 ∷ []) (on (7 ∷ 7 ∷ 7 ∷ []) one_data 2 1) ≡ refused 6 0 0)
    × (answer [] (on (7 ∷ 7 ∷ 7 ∷ []) one_data 2 1) ≡ accepted (record { bytes = 2; sections = 1 }))
    × (answer [] (on [] [] 5 16777216) ≡ accepted (record { bytes = 5; sections = 16777216 }))
unfolding all_reply push_reply push_after add_reply last_soundness bad_count_building bad_counts last_broken read_section read_span
run_damaged = (refl, refl, refl)
