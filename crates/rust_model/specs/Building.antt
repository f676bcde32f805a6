-- The Rust's `Assembler` and what each building call does to its bytes and its list of stored sections, written from lib.rs.
-- Only the datatypes of calls, of references and of spans, and what number a word's bytes are, are our contracts' own. Assumes nothing.
use Rattle.std.specs.Prelude.{ℕ, zero, suc, ◌+◌, ◌-◌, ◌/◌, ◌%◌, Bool, true, false, cond, ◌&&◌, List, [], ◌∷◌, ◌++◌, reverse, leb, eqb, length, take, None, Option, Some}
use Rattle.units.specs.declared.Span.{Span}
use Rattle.units.specs.declared.RefSize.{RefSize}
use Rattle.units.specs.declared.MarkId.{MarkId}
use Rattle.units.specs.Numbers.{number}
use Rattle.units.specs.declared.RefSize.TheVariants.{S1, S2, S3, S4}
use Rattle.units.specs.declared.MarkReference.{MarkReference}
use Rattle.units.specs.declared.MarkReference.TheVariants.{Direct, Delta}
use Rattle.calls.specs.Calls.{Push, push_mark, push_op_byte, push_swap, push_dup, push_exchange, push_data, push_reference}
use Rattle.calls.specs.Calls.{push_minimal_u256, push_minimal_u64, push_minimal_u32, Call, push, push_op_bytes, clear}
use Rattle.rust_model.specs.Run.{Run, done, panic, and_then, Build, debug_assert, len_idx, pushed}

-- `StoredAsmSection`
pub data StoredAsmSection : Type 0 where
  Mark : ℕ → StoredAsmSection
  Ops : Span ℕ → StoredAsmSection
  Data : Span ℕ → StoredAsmSection
  DirectMarkRef : ℕ → Option RefSize → Bool → StoredAsmSection
  UnsizedPushedDeltaRef : Span MarkId → StoredAsmSection
  Size1PushedDeltaRef : Span MarkId → StoredAsmSection
  Size2PushedDeltaRef : Span MarkId → StoredAsmSection
  Size3PushedDeltaRef : Span MarkId → StoredAsmSection
  Size4PushedDeltaRef : Span MarkId → StoredAsmSection
  UnsizedRawDeltaRef : Span MarkId → StoredAsmSection
  Size1RawDeltaRef : Span MarkId → StoredAsmSection
  Size2RawDeltaRef : Span MarkId → StoredAsmSection
  Size3RawDeltaRef : Span MarkId → StoredAsmSection
  Size4RawDeltaRef : Span MarkId → StoredAsmSection

-- `Assembler`
pub record Assembler : Type 0 where
  pub bytes : List ℕ
  pub sections : List StoredAsmSection

-- `Assembler` without bytes or sections, as `with_capacity` makes it and `clear` leaves it
abbrev pub empty : Assembler
empty = record { bytes = []; sections = [] }

-- `sections.push(..)`
abbrev pub push_section : Assembler → StoredAsmSection → Assembler
push_section a s = record { bytes = a.bytes; sections = a.sections ++ (s ∷ []) }

-- ---- the last section

-- what a match on `sections.last_mut()` tells: an Ops or a Data section after these sections, or anything else
pub data Last : Type 0 where
  last_ops : List StoredAsmSection → Span ℕ → Last
  last_data : List StoredAsmSection → Span ℕ → Last
  other : Last

-- of a list of one section
abbrev pub alone : StoredAsmSection → Last
alone (Mark id) = other
alone (Ops span) = last_ops [] span
alone (Data span) = last_data [] span
alone (DirectMarkRef id size pushes) = other
alone (UnsizedPushedDeltaRef span) = other
alone (Size1PushedDeltaRef span) = other
alone (Size2PushedDeltaRef span) = other
alone (Size3PushedDeltaRef span) = other
alone (Size4PushedDeltaRef span) = other
alone (UnsizedRawDeltaRef span) = other
alone (Size1RawDeltaRef span) = other
alone (Size2RawDeltaRef span) = other
alone (Size3RawDeltaRef span) = other
alone (Size4RawDeltaRef span) = other

-- with one section more before it
abbrev pub behind : StoredAsmSection → Last → Last
behind s (last_ops before span) = last_ops (s ∷ before) span
behind s (last_data before span) = last_data (s ∷ before) span
behind s other = other

-- of a list that begins with a section
unfoldable pub last_of : StoredAsmSection → List StoredAsmSection → Last
last_of s [] = alone s
last_of s (t ∷ ts) = behind s (last_of t ts)

-- `match self.sections.last_mut()`
unfoldable pub last_mut : List StoredAsmSection → Last
last_mut [] = other
last_mut (s ∷ ss) = last_of s ss

-- ---- op bytes

-- the arm for a last Ops section: `assert!(bytes_span.end == self.bytes.len_idx())`, then the byte and the new end
unfoldable pub extend_ops : List StoredAsmSection → Span ℕ → List ℕ → ℕ → Run Assembler
extend_ops before span bytes byte =
    and_then (len_idx bytes) (λ len.
    cond (eqb span.end len)
    (and_then (pushed bytes byte) (λ bytes'.
    and_then (len_idx bytes') (λ end.
    done (record { bytes = bytes'; sections = before ++ (Ops (record { start = span.start; end = end }) ∷ []) }))))
    panic)

-- the arm for all else: a new Ops section
unfoldable pub new_ops : Assembler → ℕ → Run Assembler
new_ops a byte =
    and_then (len_idx a.bytes) (λ start.
    and_then (pushed a.bytes byte) (λ bytes'.
    and_then (len_idx bytes') (λ end.
    done (record { bytes = bytes'; sections = a.sections ++ (Ops (record { start = start; end = end }) ∷ []) }))))

-- the two arms
abbrev pub op_byte_after : Last → Assembler → ℕ → Run Assembler
op_byte_after (last_ops before span) a byte = extend_ops before span a.bytes byte
op_byte_after (last_data before span) a byte = new_ops a byte
op_byte_after other a byte = new_ops a byte

-- `push_op_byte`
unfoldable pub op_byte : Assembler → ℕ → Run Assembler
op_byte a byte = op_byte_after (last_mut a.sections) a byte

-- `push_op_byte` of one byte after another
unfoldable pub op_bytes : Assembler → List ℕ → Run Assembler
op_bytes a [] = done a
op_bytes a (b ∷ bs) = and_then (op_byte a b) (λ a'. op_bytes a' bs)

-- ---- swap, dup, exchange

-- the last arm of `match depth`, of a swap
abbrev pub last_swap_arm : ℕ
last_swap_arm = 16

-- 1 to 16 are SWAP1 to SWAP16, hex 90 to 9f, all else panics
unfoldable pub swap_op : ℕ → Run ℕ
swap_op depth = cond (leb 1 depth && leb depth last_swap_arm) (done (0x90 + (depth - 1))) panic

-- the last arm of `match depth`, of a dup
abbrev pub last_dup_arm : ℕ
last_dup_arm = 15

-- 0 to 15 are DUP1 to DUP16, hex 80 to 8f, all else panics
unfoldable pub dup_op : ℕ → Run ℕ
dup_op depth = cond (leb depth last_dup_arm) (done (0x80 + depth)) panic

-- `push_swap`
unfoldable pub swap : Assembler → ℕ → Run Assembler
swap a depth = and_then (swap_op depth) (op_byte a)

-- `push_dup`
unfoldable pub dup : Assembler → ℕ → Run Assembler
dup a depth = and_then (dup_op depth) (op_byte a)

-- `push_exchange`: the arms `(0, m)`, `(n, 0)` and `(n, m)`, after the assertion that they differ
unfoldable pub exchange : Assembler → ℕ → ℕ → Run Assembler
exchange a n m =
    cond (eqb n m) panic
    (cond (eqb n 0) (swap a m)
    (cond (eqb m 0) (swap a n)
    (and_then (swap a n) (λ a'. and_then (swap a' m) (λ a''. swap a'' n)))))

-- ---- minimal pushes

-- the bits up to the highest that is set, at most `most` of them
unfoldable pub bits : ℕ → ℕ → ℕ
bits zero v = 0
bits (suc most) v = cond (eqb v 0) 0 (suc (bits most (v / 2)))

-- `U256::leading_zeros`
unfoldable pub leading_zeros : ℕ → ℕ
leading_zeros v = 256 - bits 256 v

-- `to_le_bytes`, n bytes, lowest first
unfoldable pub le_bytes : ℕ → ℕ → List ℕ
le_bytes zero v = []
le_bytes (suc n) v = v % 256 ∷ le_bytes n (v / 256)

-- `32 - value.leading_zeros() / 8`
unfoldable pub push_size : ℕ → ℕ
push_size v = 32 - leading_zeros v / 8

-- `op::PUSH1 + push_size as u8 - 1`, and the assertion that it is one of PUSH1 to PUSH32, hex 60 to 7f (the one before it, that
-- `push_size` is a `u8`, holds of every size up to 32)
unfoldable pub push_op : ℕ → Run ℕ
push_op size = cond (leb 0x60 (0x60 + size - 1) && leb (0x60 + size - 1) 0x7f) (done (0x60 + size - 1)) panic

-- `push_minimal_u256` of a number
unfoldable pub minimal : Assembler → ℕ → Run Assembler
minimal a v =
    cond (eqb v 0) (op_byte a 0x5f)
    (and_then (push_op (push_size v)) (λ op.
    and_then (op_byte a op) (λ a'.
    op_bytes a' (reverse (take (push_size v) (le_bytes 32 v))))))

-- a word as the number that a `U256` is. A list of any other length is no `U256`, so the Rust has no such call; that it counts as a
-- panic keeps such lists out of the claim.
unfoldable pub u256 : List ℕ → Run ℕ
u256 word = cond (eqb (length word) 32) (done (number word)) panic

-- ---- data

-- the new end of a last Data section
unfoldable pub longer_data : List StoredAsmSection → Span ℕ → List ℕ → List ℕ → Run Assembler
longer_data before span bytes added =
    and_then (len_idx (bytes ++ added)) (λ end.
    done (record { bytes = bytes ++ added; sections = before ++ (Data (record { start = span.start; end = end }) ∷ []) }))

-- the arm for a last Data section: `debug_assert!(bytes_span.end == self.bytes.len_idx())`, then the data and the new end (a length that
-- is no index panics there too, since the new one isn't shorter)
unfoldable pub extend_data : Build → List StoredAsmSection → Span ℕ → List ℕ → List ℕ → Run Assembler
extend_data build before span bytes added = debug_assert build (eqb span.end (length bytes)) (longer_data before span bytes added)

-- the arm for all else: a new Data section
unfoldable pub new_data : Assembler → List ℕ → Run Assembler
new_data a added =
    and_then (len_idx a.bytes) (λ start.
    and_then (len_idx (a.bytes ++ added)) (λ end.
    done (record { bytes = a.bytes ++ added; sections = a.sections ++ (Data (record { start = start; end = end }) ∷ []) })))

-- the two arms
abbrev pub data_after : Build → Last → Assembler → List ℕ → Run Assembler
data_after build (last_ops before span) a added = new_data a added
data_after build (last_data before span) a added = extend_data build before span a.bytes added
data_after build other a added = new_data a added

-- `push_data`
unfoldable pub pushed_data : Build → Assembler → List ℕ → Run Assembler
pushed_data build a added = data_after build (last_mut a.sections) a added

-- ---- references

-- the section that `push_reference` stores
abbrev pub stored_ref : MarkReference → Option RefSize → Bool → StoredAsmSection
stored_ref (Direct id) size pushes = DirectMarkRef id.0 size pushes
stored_ref (Delta span) None true = UnsizedPushedDeltaRef span
stored_ref (Delta span) (Some S1) true = Size1PushedDeltaRef span
stored_ref (Delta span) (Some S2) true = Size2PushedDeltaRef span
stored_ref (Delta span) (Some S3) true = Size3PushedDeltaRef span
stored_ref (Delta span) (Some S4) true = Size4PushedDeltaRef span
stored_ref (Delta span) None false = UnsizedRawDeltaRef span
stored_ref (Delta span) (Some S1) false = Size1RawDeltaRef span
stored_ref (Delta span) (Some S2) false = Size2RawDeltaRef span
stored_ref (Delta span) (Some S3) false = Size3RawDeltaRef span
stored_ref (Delta span) (Some S4) false = Size4RawDeltaRef span

-- ---- any call, and lists of them

-- a call that adds: `push_mark` to `push_reference`
abbrev pub push_call : Build → Push → Assembler → Run Assembler
push_call build (push_mark id) a = done (push_section a (Mark id))
push_call build (push_op_byte b) a = op_byte a b
push_call build (push_swap depth) a = swap a depth
push_call build (push_dup depth) a = dup a depth
push_call build (push_exchange n m) a = exchange a n m
push_call build (push_minimal_u256 word) a = and_then (u256 word) (minimal a)
push_call build (push_minimal_u64 v) a = minimal a v
push_call build (push_minimal_u32 v) a = minimal a v
push_call build (push_data added) a = pushed_data build a added
push_call build (push_reference r) a = done (push_section a (stored_ref r.mark_ref r.set_size r.pushed))

-- `clear` empties both; a run of op bytes, which the Rust has no call for, is `push_op_byte` in turn
abbrev pub call : Build → Call → Assembler → Run Assembler
call build (push p) a = push_call build p a
call build (push_op_bytes bs) a = op_bytes a bs
call build clear a = done empty

-- one call after another
unfoldable pub calls : Build → List Call → Assembler → Run Assembler
calls build [] a = done a
calls build (c ∷ cs) a = and_then (call build c a) (calls build cs)
