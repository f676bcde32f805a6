-- Of 'Layouts tried by hand', through demand 3: line 7, line 8 and a padded layout of line 6 over lists, and line 7 once more as a store.
-- So the premises can be met, and the least layout is the one that is written. Assumes nothing.
use Rattle.std.specs.Prelude.{None, Option, Some}
use Prim.Native.Nat.{ℕ, ◌+◌, ◌-◌, ◌*◌, ◌^◌, ◌≤◌, ◌<◌}
use native.Mathlib.Omega.{arith}
use native.Mathlib.Nat.{lt_of_lt_of_le}
use mathlib.Core.Path.{◌≡◌, refl}
use mathlib.Core.Bool.{true}
use mathlib.Core.Logic.{inr}
use mathlib.Core.List.{List, [], ◌∷◌}
use lib.ListN.{length, replicate}
use Rattle.units.specs.declared.RefSize.{RefSize}
use Rattle.units.specs.Numbers.{held_bytes}
use Rattle.units.specs.Reference.{least_size, size, too_narrow}
use Rattle.units.specs.declared.RefSize.TheVariants.{S1}
use Rattle.units.specs.declared.MarkReference.TheVariants.{Direct}
use Rattle.units.proofs.BigEndian.{pow256_mono}
use Rattle.records.specs.Record.{set_size_of, read_mark, read_span, read_direct, read_delta, read_section}
use Rattle.records.specs.Store.{Store, bad_counts}
use Rattle.records.specs.Damage.{end_before, spans_end, breaks_rule, bad_count, broken_reply, whole_soundness}
use Rattle.records.specs.Damage.{Sound}
use Rattle.records.specs.Sections.{Section, mark, bytes, reference, decode_at, decode_from, decode}
use Rattle.slices.specs.First.{least_from}
use Rattle.layout.specs.Layout.{Layout, total, in_all, GivesEnough}
use Rattle.layout.specs.Passes.{start_from, start, walk_from, pass, settled, narrow_at, passes, settle}
use Rattle.layout.specs.Conditions.{first, pass_bound, stored_bytes, references, placed, short_at, first_short, unplaced_at, first_unplaced, some_bytes, apart_at, first_apart, backward_at, first_backward, sum_of, delta_at, Premise}
use Rattle.layout.specs.Shortest.{SomeLayout}
use Rattle.layout.specs.Answer.{answer}
use Rattle.layout.proofs.Least.{never_law}
use Rattle.layout.proofs.Demand3.{demand_3}
use Rattle.settling.specs.Settle.{settling}
use Rattle.assembler.specs.Assemble.{written, assembly}
use Rattle.assembler.specs.Demand3.{Given}
use Rattle.assembler.proofs.Demand3.{demand_3_assembly}

-- lines 6 and 7: a reference to the mark after so much data
abbrev pub far : Option RefSize → ℕ → List Section
far size n = reference (record { mark_ref = Direct (record { 0 = 0 }); set_size = size; pushed = true }) ∷ bytes (replicate n 0) ∷ mark 0 ∷ []

-- ---- over lists

-- the premise, where each condition is computed
pub premise : (n : ℕ) (ss : List Section) → first_short n ss ≡ length ss → first ss (delta_at ss) ≡ length ss
    → first_unplaced ss ≡ length ss → first_apart ss ≡ length ss → pass_bound ss ≤ 1023 → stored_bytes ss + 5 * references ss < 2 ^ 32 → Premise n ss
unfolding first_short first_unplaced first_apart
premise n ss short direct placing apart few small =
    record {
      in_table = (never_law ss (short_at n ss)).0 short;
      direct = (never_law ss (delta_at ss)).0 direct;
      marks_placed = (never_law ss (unplaced_at ss)).0 placing;
      together = (never_law ss (apart_at ss)).0 apart;
      few = few;
      small = small;
    }

-- line 7 meets the premise
premise_7 : Premise 1 (far None 254)
unfolding first_short short_at first_unplaced unplaced_at first_apart apart_at delta_at least_from placed some_bytes sum_of
premise_7 = premise 1 (far None 254) refl refl refl refl (omega arith) (omega arith)

-- what is settled
settled_7 : settle 1 (far None 254) ≡ settled (257 ∷ []) 257 3
unfolding settle passes pass walk_from start start_from least_size size too_narrow held_bytes
settled_7 = refl

-- every layout that gives enough has mark 0 at 257 or later, and at least 257 bytes
pub line_7 : (l : Layout) → GivesEnough (far None 254) l → (257 ≤ l.offset 0) × (257 ≤ in_all l)
unfolding placed
line_7 l h =
    let q = (demand_3 1 (far None 254) premise_7).least (257 ∷ []) 257 3 settled_7 l h in
    (q.0 0 refl, q.1)

-- line 8 meets the premise
premise_8 : Premise 1 (far (Some S1) 254)
unfolding first_short short_at first_unplaced unplaced_at first_apart apart_at delta_at least_from placed some_bytes sum_of
premise_8 = premise 1 (far (Some S1) 254) refl refl refl refl (omega arith) (omega arith)

-- what is refused
narrow_8 : settle 1 (far (Some S1) 254) ≡ narrow_at 0 1
unfolding settle passes pass walk_from start start_from least_size size too_narrow held_bytes
narrow_8 = refl

-- no layout gives enough
pub line_8 : SomeLayout (far (Some S1) 254) → ⊥
line_8 = (demand_3 1 (far (Some S1) 254) premise_8).otherwise.1 (0, 1, narrow_8)

-- line 6 with a reference of w bytes, mark 0 behind it and the data
abbrev pub padded : ℕ → Layout
padded w = record { offset = λ m. w + 253; widths = w ∷ 253 ∷ 0 ∷ [] }

-- 3, 4 and 5 bytes give enough too, and are longer than the 255 bytes that are settled
pub line_6_padded : (w : ℕ) → 3 ≤ w → w ≤ 5 → GivesEnough (far None 253) (padded w) × (255 < in_all (padded w))
unfolding total
line_6_padded w l h =
    let room : w + 253 < 256 ^ (w - 1) = lt_of_lt_of_le (omega arith) (pow256_mono {i = 2} (omega arith)) in
    (((w + 253, refl, inr (omega arith, h, room)), (refl, ((refl, omega arith), tt))), omega arith)

-- ---- as a store

-- a pushed reference to mark 0, n data bytes, mark 0
abbrev pub far_store : ℕ → Store
far_store n =
    record {
      bytes = replicate n 0;
      words = 3 ∷ 0 ∷ 8 ∷ 2 ∷ 0 ∷ n ∷ 0 ∷ 0 ∷ 0 ∷ [];
      stored_bytes = n;
      sections = 3;
    }

-- a result that just has the room of 01's sizes
abbrev pub room_for : ℕ → List ℕ
room_for n = replicate (n + 5) 0

-- demand 3's premise over a store, from the one over its sections
pub given : {st : Store} {n : ℕ} {result : List ℕ} {position : ℕ} → whole_soundness 3 st ≡ Sound → Premise n (decode 3 st)
    → position ≤ length result → st.stored_bytes + 5 * references (decode 3 st) ≤ length result - position → Given 3 st n result position
given undamaged p in_result room =
    record {
      undamaged = undamaged;
      in_table = p.in_table;
      in_result = in_result;
      room = room;
      direct = p.direct;
      marks_placed = p.marks_placed;
      together = p.together;
      few = p.few;
    }

-- the answer: 257 bytes, 3 passes
pub line_7_reply : (assembly 3 (far_store 254) 1 (room_for 254) 0).reply ≡ written 257 3
unfolding assembly settling whole_soundness bad_count bad_counts broken_reply breaks_rule end_before spans_end least_from decode decode_from decode_at read_section read_mark read_span read_direct read_delta set_size_of answer settle passes pass walk_from start start_from first_short short_at first_unplaced unplaced_at first_apart apart_at first_backward backward_at placed some_bytes least_size size too_narrow held_bytes
line_7_reply = refl

-- the premise of demand 3 is met
pub line_7_given : Given 3 (far_store 254) 1 (room_for 254) 0
unfolding whole_soundness bad_count bad_counts broken_reply breaks_rule end_before spans_end least_from decode decode_from decode_at read_section read_mark read_span read_direct read_delta set_size_of sum_of
line_7_given = given refl premise_7 (omega arith) (omega arith)

-- so no layout that gives enough is shorter than 257 bytes
pub line_7_least : (l : Layout) → GivesEnough (decode 3 (far_store 254)) l → 257 ≤ in_all l
line_7_least l h =
    let w = (demand_3_assembly 3 (far_store 254) 1 (room_for 254) 0 line_7_given).if_written 257 3 line_7_reply in
    omega (arith, w.long, (w.least l h).1)
