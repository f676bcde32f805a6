-- Settling and then writing, on stores (document 02, request 3): line 7 through the demand-3 clauses of both calls, by the table that
-- settling leaves; and line 6, where the write's clause fails of the table 256, which is written too. Assumes nothing.
use Rattle.std.specs.Prelude.{None}
use Prim.Native.Nat.{ℕ, ◌≤◌}
use native.Mathlib.Omega.{arith}
use mathlib.Core.Path.{◌≡◌, refl, sym, ap}
use mathlib.Core.List.{List, [], ◌∷◌}
use lib.ListN.{replicate}
use Rattle.units.specs.Numbers.{held_bytes, big_endian}
use Rattle.units.specs.Reference.{least_size, size, too_narrow}
use Rattle.records.specs.Record.{set_size_of, read_mark, read_span, read_direct, read_delta, read_section}
use Rattle.records.specs.Store.{bad_counts}
use Rattle.records.specs.Damage.{end_before, spans_end, breaks_rule, bad_count, broken_reply, whole_soundness}
use Rattle.records.specs.Sections.{decode_at, decode_from, decode}
use Rattle.slices.specs.First.{least_from}
use Rattle.slices.specs.Over.{over}
use Rattle.layout.specs.Layout.{Layout, in_all, GivesEnough}
use Rattle.layout.specs.Passes.{start_from, start, walk_from, pass, passes, settle}
use Rattle.layout.specs.Conditions.{placed, short_at, first_short, unplaced_at, first_unplaced, some_bytes, apart_at, first_apart, backward_at, first_backward, sum_of, delta_at, Premise}
use Rattle.layout.specs.Shortest.{settled_layout}
use Rattle.layout.specs.Answer.{answer}
use Rattle.settling.specs.Settle.{Settlement, settling}
use Rattle.settling.specs.SettlingShortest.{GivenStore, SettlesShortest}
use Rattle.settling.proofs.SettlingShortest.{settling_demand_3}
use Rattle.tables.specs.TableTests.{differs_at, too_narrow_at, first_wrong, table_answer, table_test}
use Rattle.assembler.specs.Emission.{reference_bytes, in_a_row}
use Rattle.assembler.specs.Assemble.{written}
use Rattle.assembler.specs.Demand3.{Given, Shortest, Demand3}
use Rattle.assembler.specs.Write.{write_by}
use Rattle.assembler.specs.Pair.{pair_reply}
use Rattle.assembler.proofs.Demand3.{given_store}
use Rattle.assembler.proofs.Pair.{writes_demand_3}
use Rattle.hand.proofs.Shortest.{far, premise, far_store, room_for, given, line_7_given}
use Rattle.hand.proofs.TableExamples.{least_255}

-- ---- line 7

-- '61 01 01 and data'
abbrev pub code7 : List ℕ
code7 = 0x61 ∷ 0x01 ∷ 0x01 ∷ replicate 254 0

-- settling: 257 bytes, 3 passes, and the table 257
pub line_7_settling : settling 3 1 (far_store 254) ≡ record { reply = written 257 3; table = 257 ∷ [] }
unfolding settling whole_soundness bad_count bad_counts broken_reply breaks_rule end_before spans_end least_from decode decode_from decode_at read_section read_mark read_span read_direct read_delta set_size_of answer settle passes pass walk_from start start_from first_short short_at first_unplaced unplaced_at first_apart apart_at first_backward backward_at placed some_bytes least_size size too_narrow held_bytes
line_7_settling = refl

-- the premise of its demand 3 is met
pub line_7_given_store : GivenStore 3 (far_store 254) 1
line_7_given_store = given_store line_7_given

-- so the demand holds of that answer and that table
pub line_7_settles : SettlesShortest (decode 3 (far_store 254)) 1 (written 257 3) (257 ∷ [])
line_7_settles = rw line_7_settling at (settling_demand_3 3 (far_store 254) 1 line_7_given_store)

-- writing by that table: 257 bytes, 0 passes, and the code at the start of the result
pub line_7_write : write_by 3 (far_store 254) (257 ∷ []) (room_for 254) 0
    ≡ record { reply = written 257 0; result = over (room_for 254) 0 code7 }
unfolding write_by table_test table_answer first_wrong differs_at too_narrow_at whole_soundness bad_count bad_counts broken_reply breaks_rule end_before spans_end least_from decode decode_from decode_at read_section read_mark read_span read_direct read_delta set_size_of first_short short_at first_unplaced unplaced_at first_apart apart_at first_backward backward_at placed some_bytes sum_of size too_narrow held_bytes big_endian reference_bytes in_a_row
line_7_write = refl

-- so the demand holds of the pair: settling's pass count and table, the write's result
pub line_7_writes : Shortest (decode 3 (far_store 254)) 1 (room_for 254) 0 (written 257 3) (257 ∷ []) (over (room_for 254) 0 code7)
line_7_writes =
    let same : 257 ∷ [] ≡ (settling 3 1 (far_store 254)).table = sym (ap (λ (s : Settlement). s.table) line_7_settling) in
    rw (line_7_settling, line_7_write) at (writes_demand_3 3 (far_store 254) (257 ∷ []) (room_for 254) 0 same line_7_given)

-- and no layout that gives enough has mark 0 before 257, or is shorter than 257 bytes: by settling's clause
pub line_7_settles_least : (l : Layout) → GivesEnough (decode 3 (far_store 254)) l → (257 ≤ l.offset 0) × (257 ≤ in_all l)
unfolding decode decode_from decode_at read_section read_mark read_span read_direct read_delta set_size_of placed
line_7_settles_least l h =
    let q = line_7_settles.if_laid _ refl in
    let least = q.least.least l h in
    (least.0 0 refl, omega (arith, q.long, least.1))

-- and by the write's
pub line_7_writes_least : (l : Layout) → GivesEnough (decode 3 (far_store 254)) l → (257 ≤ l.offset 0) × (257 ≤ in_all l)
unfolding decode decode_from decode_at read_section read_mark read_span read_direct read_delta set_size_of placed
line_7_writes_least l h =
    let q = line_7_writes.if_written 257 3 refl in
    let least = q.least l h in
    (least.0 0 refl, omega (arith, q.long, least.1))

-- ---- line 6 and the table 256

-- line 6 meets the premise
premise_6 : Premise 1 (far None 253)
unfolding first_short short_at first_unplaced unplaced_at first_apart apart_at delta_at least_from placed some_bytes sum_of
premise_6 = premise 1 (far None 253) refl refl refl refl (omega arith) (omega arith)

-- so does its store
pub line_6_given : Given 3 (far_store 253) 1 (room_for 253) 0
unfolding whole_soundness bad_count bad_counts broken_reply breaks_rule end_before spans_end least_from decode decode_from decode_at read_section read_mark read_span read_direct read_delta set_size_of sum_of
line_6_given = given refl premise_6 (omega arith) (omega arith)

-- settling leaves the table 255
pub line_6_settling : settling 3 1 (far_store 253) ≡ record { reply = written 255 2; table = 255 ∷ [] }
unfolding settling whole_soundness bad_count bad_counts broken_reply breaks_rule end_before spans_end least_from decode decode_from decode_at read_section read_mark read_span read_direct read_delta set_size_of answer settle passes pass walk_from start start_from first_short short_at first_unplaced unplaced_at first_apart apart_at first_backward backward_at placed some_bytes least_size size too_narrow held_bytes
line_6_settling = refl

-- by the table 256 code is written too, a byte longer
pub line_6_write_256 : write_by 3 (far_store 253) (256 ∷ []) (room_for 253) 0
    ≡ record { reply = written 256 0; result = over (room_for 253) 0 (0x61 ∷ 0x01 ∷ 0x00 ∷ replicate 253 0) }
unfolding write_by table_test table_answer first_wrong differs_at too_narrow_at whole_soundness bad_count bad_counts broken_reply breaks_rule end_before spans_end least_from decode decode_from decode_at read_section read_mark read_span read_direct read_delta set_size_of first_short short_at first_unplaced unplaced_at first_apart apart_at first_backward backward_at placed some_bytes sum_of size too_narrow held_bytes big_endian reference_bytes in_a_row
line_6_write_256 = refl

-- of that write the clause without its premise, that the table is settling's, is false: the layout of the table 255 has the mark earlier
pub not_demand_3_256 : Demand3 3 (far_store 253) 1 (room_for 253) 0
    (pair_reply (settling 3 1 (far_store 253)).reply (write_by 3 (far_store 253) (256 ∷ []) (room_for 253) 0).reply)
    (256 ∷ []) (write_by 3 (far_store 253) (256 ∷ []) (room_for 253) 0).result
    → ⊥
unfolding decode decode_from decode_at read_section read_mark read_span read_direct read_delta set_size_of placed
not_demand_3_256 h =
    let q = (h line_6_given).if_written 256 2 (rw (line_6_settling, line_6_write_256)) in
    let earlier : 256 ≤ 255 = (q.least (settled_layout (255 ∷ []) (far None 253)) least_255.enough).0 0 refl in
    omega arith
