-- What the Rust's definition computes, without a theorem: sums and differences that wrap round, its debug assertion, single calls and
-- steps, a table that grows, the answers to lines 7, 8 and 12 of 01's layouts tried by hand and to a loop of runs of op bytes, a reference
-- behind a mark that moves, and marks with bytes between their placings. Files are checked by their names' order; this one's has it refuse
-- a wrong definition first, at what it computes. Assumes nothing.
use Rattle.std.specs.Prelude.{None, Option, Some}
use Prim.Native.Nat.{ℕ, zero, suc, ◌+◌, ◌*◌, max}
use native.Mathlib.Omega.{arith}
use mathlib.Core.Path.{◌≡◌, refl}
use mathlib.Core.Bool.{Bool, true, false}
use mathlib.Core.List.{List, [], ◌∷◌, ◌++◌}
use lib.ListN.{replicate}
use Rattle.units.specs.declared.RefSize.{RefSize}
use Rattle.units.specs.declared.RefSize.TheVariants.{S1}
use Rattle.opcodes.specs.Text.{as_bytes}
use Rattle.opcodes.specs.Names.{op_name, lookup, op_names}
use Rattle.rust_model.specs.Run.{done, panic, Build, add_u32, sub_u32, checked_sub, index, index_mut, range, len_idx, pushed}
use Rattle.rust_model.specs.Building.{StoredAsmSection, Mark, Ops, Data, DirectMarkRef, Size2RawDeltaRef, Assembler, empty, last_of, last_mut, extend_ops, new_ops, op_byte, op_bytes, swap_op, swap, exchange, bits, leading_zeros, le_bytes, push_op, minimal, longer_data, extend_data}
use Rattle.rust_model.specs.Building
use Rattle.rust_model.specs.Sections.{bytes_to_hold, saturating_sub}
use Rattle.rust_model.specs.Assemble.{Reserve, Reserves, resize, grow, start_from, walk_from, iterate, converge, emit_bytes, emit_ref, emit_from, assembled, too_small_set_size, assemble}
use Rattle.rust_model.specs.Display.{push_size, hex_digit, hex_bytes, digits_before, displayed, push_line, fmt_ops_from, fmt_ops, fmt_mark_ref, mark_line, data_line, text_from, write_asm}

-- ---- the two switches

-- a sum of 2^32 + 1: a panic with overflow checks, and else 1, whatever the other switch
checked_sum : (assertions : Bool) → add_u32 (record { overflow_checks = true; debug_assertions = assertions }) 4294967295 2 ≡ panic
unfolding add_u32
checked_sum assertions = refl

wrapped_sum : (assertions : Bool) → add_u32 (record { overflow_checks = false; debug_assertions = assertions }) 4294967295 2 ≡ done 1
unfolding add_u32
wrapped_sum assertions = refl

-- the largest sum that doesn't wrap
largest_sum : (build : Build) → add_u32 build 4294967293 2 ≡ done 4294967295
unfolding add_u32
largest_sum build = refl

-- 3 - 5
checked_difference : (assertions : Bool) → sub_u32 (record { overflow_checks = true; debug_assertions = assertions }) 3 5 ≡ panic
unfolding sub_u32
checked_difference assertions = refl

wrapped_difference : (assertions : Bool) → sub_u32 (record { overflow_checks = false; debug_assertions = assertions }) 3 5 ≡ done 4294967294
unfolding sub_u32
wrapped_difference assertions = refl

-- a last Data section that doesn't end where the bytes do, which no list of calls comes to: with debug assertions `push_data` panics,
-- without them it extends the section
asserted_data : (checks : Bool)
    → extend_data (record { overflow_checks = checks; debug_assertions = true }) [] (record { start = 0; end = 1 }) [] (0xaa ∷ []) ≡ panic
unfolding extend_data
asserted_data checks = refl

extended_data : (checks : Bool)
    → extend_data (record { overflow_checks = checks; debug_assertions = false }) [] (record { start = 0; end = 1 }) [] (0xaa ∷ [])
    ≡ done (record { bytes = 0xaa ∷ []; sections = Data (record { start = 0; end = 1 }) ∷ [] })
unfolding extend_data longer_data len_idx
extended_data checks = refl

-- ---- single calls and steps

-- an exchange of 1 and 2: SWAP1, SWAP2, SWAP1
rust_exchange : exchange empty 1 2 ≡ done (record { bytes = 0x90 ∷ 0x91 ∷ 0x90 ∷ []; sections = Ops (record { start = 0; end = 3 }) ∷ [] })
unfolding exchange swap swap_op op_byte last_mut last_of new_ops extend_ops len_idx pushed
rust_exchange = refl

-- 258 in two bytes, the highest first
rust_minimal : minimal empty 0x0102 ≡ done (record { bytes = 0x61 ∷ 0x01 ∷ 0x02 ∷ []; sections = Ops (record { start = 0; end = 3 }) ∷ [] })
unfolding minimal push_op Building.push_size leading_zeros bits le_bytes op_bytes op_byte last_mut last_of new_ops extend_ops len_idx pushed
rust_minimal = refl

-- `saturating_sub`, while offsets converge
rust_saturated : saturating_sub 3 5 ≡ 0
unfolding saturating_sub
rust_saturated = refl

-- a raw reference of value 0 is a byte 00, a pushed one PUSH0
rust_raw_zero : emit_ref None false 0 ≡ done (0x00 ∷ [])
unfolding emit_ref emit_bytes bytes_to_hold le_bytes
rust_raw_zero = refl

rust_pushed_zero : emit_ref None true 0 ≡ done (0x5f ∷ [])
unfolding emit_ref
rust_pushed_zero = refl

-- ---- a table that grows to what is asked for, twice what it had or 4, whichever is most, as the standard library's vector does

abbrev pub doubling : Reserve
doubling len zero = len
doubling len (suc more) = max (max (len + suc more) (2 * len)) 4

pub doubling_reserves : Reserves doubling
doubling_reserves len zero = omega arith
doubling_reserves len (suc more) = omega arith

-- mark 128: the table then has 256 entries
rust_grown : (build : Build) → assemble build doubling None (record { bytes = []; sections = Mark 128 ∷ [] }) [] ≡ done (assembled (replicate 256 0) [])
unfolding assemble converge grow resize start_from walk_from iterate emit_from index index_mut add_u32 saturating_sub
rust_grown build = refl

-- hint 0, then marks 0 and 4: it grows to 4 entries, and then to 8
rust_grown_twice : (build : Build)
    → assemble build doubling (Some 0) (record { bytes = []; sections = Mark 0 ∷ Mark 4 ∷ [] }) [] ≡ done (assembled (replicate 8 0) [])
unfolding assemble converge grow resize start_from walk_from iterate emit_from index index_mut add_u32 saturating_sub
rust_grown_twice build = refl

-- ---- lines 7 and 8: a pushed reference, 254 bytes of data, the mark

abbrev direct : Option RefSize → StoredAsmSection
direct size = DirectMarkRef 0 size true

-- what the calls of a reference, 254 bytes of data and the mark come to
abbrev pub far_store : Option RefSize → Assembler
far_store size = record { bytes = replicate 254 0; sections = direct size ∷ Data (record { start = 0; end = 254 }) ∷ Mark 0 ∷ [] }

-- the Rust's own answer to line 7: 61 01 01 and the data, the mark at 257
pub rust_7 : (build : Build) → assemble build doubling None (far_store None) [] ≡ done (assembled (257 ∷ replicate 127 0) (0x61 ∷ 0x01 ∷ 0x01 ∷ replicate 254 0))
unfolding assemble converge grow resize start_from walk_from iterate emit_from emit_ref emit_bytes index index_mut add_u32 sub_u32 range bytes_to_hold le_bytes saturating_sub
rust_7 build = refl

-- and to line 8: section 0
pub rust_8 : (build : Build) → assemble build doubling None (far_store (Some S1)) [] ≡ done (too_small_set_size 0)
unfolding assemble converge grow resize start_from walk_from iterate index index_mut add_u32 sub_u32 bytes_to_hold saturating_sub
rust_8 build = refl

-- ---- line 12

-- what the calls of the program `show` come to
abbrev pub show_store : Assembler
show_store =
    record {
      bytes = 0x5b ∷ 0x56 ∷ 0x5b ∷ 0xaa ∷ 0xbb ∷ [];
      sections =
          Mark 0
          ∷ Ops (record { start = 0; end = 1 })
          ∷ DirectMarkRef 1 None true
          ∷ Ops (record { start = 1; end = 2 })
          ∷ Mark 1
          ∷ Ops (record { start = 2; end = 3 })
          ∷ Data (record { start = 3; end = 5 })
          ∷ Size2RawDeltaRef (record { start = record { 0 = 0 }; end = record { 0 = 1 } })
          ∷ [];
    }

-- 'code 5b 60 04 56 5b aa bb 00 04'
abbrev pub show_code : List ℕ
show_code = 0x5b ∷ 0x60 ∷ 0x04 ∷ 0x56 ∷ 0x5b ∷ 0xaa ∷ 0xbb ∷ 0x00 ∷ 0x04 ∷ []

pub rust_12 : (build : Build) → assemble build doubling None show_store [] ≡ done (assembled (0 ∷ 4 ∷ replicate 126 0) show_code)
unfolding assemble converge grow resize start_from walk_from iterate emit_from emit_ref emit_bytes index index_mut add_u32 sub_u32 checked_sub range bytes_to_hold le_bytes saturating_sub
rust_12 build = refl

-- the text that 01 prints
abbrev pub show_text : List ℕ
show_text =
    as_bytes ".mark0:\n"
    ++ as_bytes "  JUMPDEST\n"
    ++ as_bytes "  PUSH .mark1\n"
    ++ as_bytes "  JUMP\n"
    ++ as_bytes ".mark1:\n"
    ++ as_bytes "  JUMPDEST\n"
    ++ as_bytes "  data 0xaabb (2 bytes)\n"
    ++ as_bytes "  RAW (.mark1 - .mark0):2\n"

pub rust_text_12 : write_asm show_store ≡ done show_text
unfolding write_asm text_from range mark_line data_line fmt_ops fmt_ops_from push_line push_size hex_bytes hex_digit displayed digits_before fmt_mark_ref as_bytes op_name lookup op_names
rust_text_12 = refl

-- ---- runs of op bytes

-- mark 0, the runs 5b 5f and 50, a pushed reference to mark 0, the empty run, the run 56: a loop
abbrev pub loop_store : Assembler
loop_store =
    record {
      bytes = 0x5b ∷ 0x5f ∷ 0x50 ∷ 0x56 ∷ [];
      sections = Mark 0 ∷ Ops (record { start = 0; end = 3 }) ∷ DirectMarkRef 0 None true ∷ Ops (record { start = 3; end = 4 }) ∷ [];
    }

-- the reference is a PUSH0
abbrev pub loop_code : List ℕ
loop_code = 0x5b ∷ 0x5f ∷ 0x50 ∷ 0x5f ∷ 0x56 ∷ []

-- the Rust's own answer
pub rust_loop : (build : Build) → assemble build doubling None loop_store [] ≡ done (assembled (replicate 128 0) loop_code)
unfolding assemble converge grow resize start_from walk_from iterate emit_from emit_ref emit_bytes index index_mut add_u32 sub_u32 range bytes_to_hold le_bytes saturating_sub
rust_loop build = refl

-- ---- a reference behind a moved mark is sized by the mark's new offset

-- raw ref 0 of size 1, pushed ref 1, 252 bytes, mark 0, raw ref 0 of size 1, 300 bytes, mark 1: the start has mark 0 at 254, and in the
-- first walk the pushed reference takes three bytes, so mark 0 moves to 256, past what one byte holds. The reference before the mark has
-- been sized by 254; the one behind it is too small.
abbrev behind_store : Assembler
behind_store =
    record {
      bytes = replicate 552 0;
      sections =
          DirectMarkRef 0 (Some S1) false
          ∷ DirectMarkRef 1 None true
          ∷ Data (record { start = 0; end = 252 })
          ∷ Mark 0
          ∷ DirectMarkRef 0 (Some S1) false
          ∷ Data (record { start = 252; end = 552 })
          ∷ Mark 1
          ∷ [];
    }

pub rust_behind : (build : Build) → assemble build doubling None behind_store [] ≡ done (too_small_set_size 4)
unfolding assemble converge grow resize start_from walk_from iterate index index_mut add_u32 sub_u32 bytes_to_hold saturating_sub
rust_behind build = refl

-- ---- marks with bytes between their placings

-- mark 0, op 5b, mark 0: the entry moves twice in each of 1,024 walks
rust_never_settles : (build : Build)
    → assemble build doubling None (record { bytes = 0x5b ∷ []; sections = Mark 0 ∷ Ops (record { start = 0; end = 1 }) ∷ Mark 0 ∷ [] }) [] ≡ panic
unfolding assemble converge grow resize start_from walk_from iterate index index_mut add_u32 sub_u32 saturating_sub
rust_never_settles build = refl

-- mark 1, op 5b, mark 1, then raw ref 0 of size 1, 254 bytes, mark 0 at 256: a too small set size, although mark 1 isn't named
rust_apart : (build : Build)
    → assemble build doubling None
    (record {
      bytes = 0x5b ∷ replicate 254 0;
      sections =
          Mark 1
          ∷ Ops (record { start = 0; end = 1 })
          ∷ Mark 1
          ∷ DirectMarkRef 0 (Some S1) false
          ∷ Data (record { start = 1; end = 255 })
          ∷ Mark 0
          ∷ [];
    })
    []
    ≡ done (too_small_set_size 3)
unfolding assemble converge grow resize start_from walk_from iterate index index_mut add_u32 sub_u32 bytes_to_hold saturating_sub
rust_apart build = refl
