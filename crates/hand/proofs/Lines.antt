-- 'Layouts tried by hand': the first ten lines as theorems of the definitions, from the building calls and what is lent to the replies,
-- the offsets and the code, in one list under one theorem. A reply is in document 01's numbers. Assumes nothing.
use Rattle.std.specs.Prelude.{None, Option, Some}
use Prim.Native.Nat.{ℕ}
use mathlib.Core.Path.{◌≡◌, refl}
use mathlib.Core.Bool.{Bool, true, false}
use mathlib.Core.List.{List, [], ◌∷◌, map}
use lib.ListN.{replicate}
use Rattle.units.specs.declared.RefSize.{RefSize}
use Rattle.units.specs.Numbers.{held_bytes, big_endian}
use Rattle.units.specs.Reference.{least_size, size, too_narrow}
use Rattle.units.specs.Reply.{Reply, accepted, refused}
use Rattle.units.specs.declared.RefSize.TheVariants.{S1}
use Rattle.units.specs.declared.MarkReference.TheVariants.{Direct, Delta}
use Rattle.slices.specs.First.{least_from}
use Rattle.slices.specs.Over.{over}
use Rattle.records.specs.Record.{set_size_of, read_mark, read_span, read_direct, read_delta, read_section, reference_words}
use Rattle.records.specs.Store.{Store, store_of, empty_counts, words_per_section, bad_counts}
use Rattle.records.specs.Damage.{end_before, spans_end, breaks_rule, bad_count, broken_reply, whole_soundness, last_broken, bad_count_building, last_soundness}
use Rattle.records.specs.Sections.{decode_at, decode_from, decode}
use Rattle.calls.specs.Calls.{BuiltReply, Call, push, push_mark, push_op_byte, push_data, push_reference, joins, with_section, bytes_pass, no_section_left, section_passes}
use Rattle.calls.specs.Calls.{room_reply, add_reply, push_reply, push_after, run_replies, run_after}
use Rattle.layout.specs.Passes.{start_from, start, walk_from, pass, passes, settle}
use Rattle.layout.specs.Conditions.{placed, short_at, first_short, unplaced_at, first_unplaced, some_bytes, apart_at, first_apart, backward_at, first_backward}
use Rattle.layout.specs.Answer.{Laid, answer}
use Rattle.settling.specs.Settle.{settling}
use Rattle.assembler.specs.Emission.{reference_bytes, in_a_row}
use Rattle.assembler.specs.Assemble.{written, Outcome, assembly}

-- a call that adds a mark, an op byte, data, a reference to a mark, the pushed delta from mark a to mark b
abbrev pub placing : ℕ → Call
placing m = push (push_mark m)

abbrev pub op : ℕ → Call
op b = push (push_op_byte b)

abbrev pub «data» : List ℕ → Call
«data» bs = push (push_data bs)

abbrev pub ref : Bool → Option RefSize → ℕ → Call
ref pushed size m = push (push_reference (record { mark_ref = Direct (record { 0 = m }); set_size = size; pushed = pushed }))

abbrev pub delta : ℕ → ℕ → Call
delta a b =
    push (push_reference (record { mark_ref = Delta (record { start = record { 0 = a }; end = record { 0 = b } }); set_size = None; pushed = true }))

-- lines 6 to 8: a reference, so much data, the mark
abbrev pub far : Option RefSize → ℕ → List Call
far size n = ref true size 0 ∷ «data» (replicate n 0) ∷ placing 0 ∷ []

-- a line: the calls, the table's length; the reply of assembly, the offsets and the code that are expected
pub record Line : Type 0 where
  pub calls : List Call
  pub marks : ℕ
  pub reply : Reply Laid
  pub offsets : List ℕ
  pub code : List ℕ

-- `written` has the code's length and the passes, `refused` the number, the section and the passes
abbrev line : List Call → ℕ → Reply Laid → List ℕ → List ℕ → Line
line cs n reply offsets code = record { calls = cs; marks = n; reply = reply; offsets = offsets; code = code }

-- the ten lines
abbrev pub lines : List Line
lines =
    -- 1: empty: no code, 1 pass
    line [] 0 (written 0 1) [] []
    -- 2: mark 0, pushed ref 0: 5f
    ∷ line (placing 0 ∷ ref true None 0 ∷ []) 1 (written 1 1) (0 ∷ []) (0x5f ∷ [])
    -- 3: mark 0, raw ref 0: 00
    ∷ line (placing 0 ∷ ref false None 0 ∷ []) 1 (written 1 1) (0 ∷ []) (0x00 ∷ [])
    -- 4: mark 0, pushed ref 0 size 1: 60 00
    ∷ line (placing 0 ∷ ref true (Some S1) 0 ∷ []) 1 (written 2 1) (0 ∷ []) (0x60 ∷ 0x00 ∷ [])
    -- 5: pushed ref 0, mark 0, op 5b: 60 02 5b, 2 passes
    ∷ line (ref true None 0 ∷ placing 0 ∷ op 0x5b ∷ []) 1 (written 3 2) (2 ∷ []) (0x60 ∷ 0x02 ∷ 0x5b ∷ [])
    -- 6: pushed ref 0, 253 data bytes, mark 0: 60 ff and data, 2 passes
    ∷ line (far None 253) 1 (written 255 2) (255 ∷ []) (0x60 ∷ 0xff ∷ replicate 253 0)
    -- 7: with 254: 61 01 01 and data, mark at 257, 3 passes
    ∷ line (far None 254) 1 (written 257 3) (257 ∷ []) (0x61 ∷ 0x01 ∷ 0x01 ∷ replicate 254 0)
    -- 8: as 7, size 1: number 10, section 0, pass 1
    ∷ line (far (Some S1) 254) 1 (refused 10 0 1) (0 ∷ []) []
    -- 9: mark 0, data aa bb, mark 1, pushed delta 0 to 1: aa bb 60 02; from 1 to 0: number 12, section 3
    ∷ line (placing 0 ∷ «data» (0xaa ∷ 0xbb ∷ []) ∷ placing 1 ∷ delta 0 1 ∷ []) 2 (written 4 1) (0 ∷ 2 ∷ []) (0xaa ∷ 0xbb ∷ 0x60 ∷ 0x02 ∷ [])
    ∷ line (placing 0 ∷ «data» (0xaa ∷ 0xbb ∷ []) ∷ placing 1 ∷ delta 1 0 ∷ []) 2 (refused 12 3 1) (0 ∷ 0 ∷ []) []
    -- 10: mark 0 twice running: accepted; with op 5b between: 9, section 2
    ∷ line (placing 0 ∷ placing 0 ∷ []) 1 (written 0 1) (0 ∷ []) []
    ∷ line (placing 0 ∷ op 0x5b ∷ placing 0 ∷ []) 1 (refused 9 2 0) (0 ∷ []) []
    ∷ []

-- what is lent: an empty store over 254 bytes and 12 words, and a result of 260 bytes, each hex ee
abbrev pub empty : Store
empty = store_of empty_counts (replicate 254 0) (replicate 12 0)

abbrev pub lent : List ℕ
lent = replicate 260 0xee

-- every building call was accepted
abbrev pub all_accepted : List BuiltReply → Bool
all_accepted [] = true
all_accepted (accepted counts ∷ rs) = all_accepted rs
all_accepted (refused number section passes ∷ rs) = false

-- what comes of a line: of its building calls, and of assembly at position 0, with the table and the result that it leaves
pub record Came : Type 0 where
  pub built : Bool
  pub assembled : Outcome

abbrev pub came : Line → Came
came l =
    record {
      built = all_accepted (run_replies words_per_section l.calls empty);
      assembled = assembly words_per_section (run_after words_per_section l.calls empty) l.marks lent 0;
    }

-- what is expected: all accepted, the reply, the offsets in the table, and the code and nothing else written over the result
abbrev pub expected : Line → Came
expected l = record { built = true; assembled = record { reply = l.reply; table = l.offsets; result = over lent 0 l.code } }

-- each line comes out as expected
pub hand_layouts : map came lines ≡ map expected lines
unfolding run_replies run_after push_reply push_after add_reply room_reply with_section joins bytes_pass section_passes no_section_left reference_words last_soundness bad_count_building last_broken assembly settling whole_soundness bad_count bad_counts broken_reply breaks_rule end_before spans_end least_from decode decode_from decode_at read_section read_mark read_span read_direct read_delta set_size_of answer settle passes pass walk_from start start_from first_short short_at first_unplaced unplaced_at first_apart apart_at first_backward backward_at placed some_bytes least_size size too_narrow held_bytes big_endian reference_bytes in_a_row
hand_layouts = refl
