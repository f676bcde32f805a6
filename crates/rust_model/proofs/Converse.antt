-- The building calls of the Rust where ours has none of the refusals of its own numbers and the bytes stay within the largest index:
-- they don't panic. By the opcode of a depth, by one op byte, and by op bytes one after another. Assumes nothing.
use Prim.Native.Nat.{ℕ, ◌+◌, ◌-◌, ◌≤◌}
use native.Mathlib.Omega.{arith}
use mathlib.Core.Path.{◌≡◌, refl, sym, ap, ◌∙◌}
use mathlib.Core.Bool.{Bool, true, false, cond}
use mathlib.Mathlib.Data.Bool.Basic.{or-eq-false-eq-eq-false-and-eq-false as or-false, dichotomy}
use mathlib.Core.Logic.{◌⊎◌, inl, inr}
use mathlib.Core.List.{List, [], ◌∷◌, ◌++◌}
use lib.ListN.{length, length-append}
use lib.Dec.{leb, ltb, eqb}
use borrow.Author.Tests.{ltb-false, eqb-true, eqb-false, le-leb, eq-eqb, not-false}
use Rattle.units.specs.Numbers.{number}
use Rattle.records.specs.Sections.{ops}
use Rattle.calls.specs.Calls.{Push, push_mark, push_op_byte, push_swap, push_dup, push_exchange, push_minimal_u256, push_minimal_u64, push_minimal_u32, push_data, push_reference, has_bad_depth, has_bad_word, exchange_ops, minimal_push, added, bytes_of}
use Rattle.evm.specs.Opcodes as evm
use Rattle.rust_model.specs.Run.{Run, done, and_then, Build, len_idx, pushed}
use Rattle.units.specs.declared.Span.{Span}
use Rattle.rust_model.specs.Building.{StoredAsmSection, Assembler, Last, extend_ops, new_ops, op_byte_after, op_byte, op_bytes, last_swap_arm, swap_op, last_dup_arm, dup_op, swap, dup, exchange, minimal, u256, longer_data, extend_data, new_data, data_after, pushed_data, push_call}
use Rattle.rust_model.proofs.Steps.{max_index, len_done, push_done}
use Rattle.rust_model.proofs.Adds.{Kept, Adds, as_ops, as_data, last_end}
use Rattle.rust_model.proofs.Last.{LastIs, is_ops_lem, is_data, is_other, last_is}
use Rattle.rust_model.proofs.Bytes.{op_byte_lem}
use Rattle.rust_model.proofs.Runs.{and_then_same, and_then_last}
use Rattle.rust_model.proofs.Minimal.{minimal_same}

-- a run that comes to a store
abbrev pub Comes : Run Assembler → Type 0
Comes r = (a' : Assembler) × (r ≡ done a')

-- ---- one op byte

-- a byte pushed, and what is made of the bytes and of their length
grown_comes : (bs : List ℕ) (b : ℕ) (f : List ℕ → ℕ → Assembler) → length bs + 1 ≤ max_index
    → Comes (and_then (pushed bs b) (λ bs'. and_then (len_idx bs') (λ end. done (f bs' end))))
grown_comes bs b f h =
    let short : length (bs ++ (b ∷ [])) ≤ max_index = omega (arith, length-append bs (b ∷ [])) in
    rw (push_done bs b (omega arith), len_done (bs ++ (b ∷ [])) short) (_, refl)

-- it joins a last Ops section: the assertion holds
extend_ops_comes : (a : Assembler) (before : List StoredAsmSection) (span : Span ℕ) (b : ℕ) → span.end ≡ length a.bytes → length a.bytes + 1 ≤ max_index
    → Comes (extend_ops before span a.bytes b)
unfolding extend_ops
extend_ops_comes a before span b e h = rw (len_done a.bytes (omega arith), eq-eqb span.end (length a.bytes) e) (grown_comes a.bytes b _ h)

-- or is a section of its own
new_ops_comes : (a : Assembler) (b : ℕ) → length a.bytes + 1 ≤ max_index → Comes (new_ops a b)
unfolding new_ops
new_ops_comes a b h = rw (len_done a.bytes (omega arith)) (grown_comes a.bytes b _ h)

op_byte_after_comes : (a : Assembler) (b : ℕ) {l : Last} → LastIs a.sections l → Kept a → length a.bytes + 1 ≤ max_index → Comes (op_byte_after l a b)
op_byte_after_comes a b (is_ops_lem before span e) k h = extend_ops_comes a before span b (last_end as_ops a before span e k) h
op_byte_after_comes a b (is_data before span e) k h = new_ops_comes a b h
op_byte_after_comes a b (is_other o) k h = new_ops_comes a b h

-- `push_op_byte`
op_byte_comes : (a : Assembler) (b : ℕ) → Kept a → length a.bytes + 1 ≤ max_index → Comes (op_byte a b)
unfolding op_byte
op_byte_comes a b k h = op_byte_after_comes a b (last_is a.sections) k h

-- one byte after another
op_bytes_come : (a : Assembler) (bs : List ℕ) → Kept a → length a.bytes + length bs ≤ max_index → Comes (op_bytes a bs)
unfolding op_bytes
op_bytes_come a [] k h = (a, refl)
op_bytes_come a (b ∷ bs) k h =
    let one = op_byte_comes a b k (omega arith) in
    let adds : Adds (ops (b ∷ [])) a one.0 = op_byte_lem a one.0 b k one.1 in
    let long : length one.0.bytes ≡ length a.bytes + 1 = ap length adds.bytes_added ∙ length-append a.bytes (b ∷ []) in
    rw one.1 (op_bytes_come one.0 bs adds.kept (omega arith))

-- one byte alone
one_byte : (a : Assembler) (b : ℕ) → op_bytes a (b ∷ []) ≡ op_byte a b
unfolding op_bytes
one_byte a b = and_then_last (op_byte a b)

-- ---- swap, dup, exchange: the op bytes that ours adds

-- every depth from 1 to 16 has an opcode
swap_op_lem : (d : ℕ) → 1 ≤ d → d ≤ 16 → swap_op d ≡ done (evm.swap_op d)
unfolding swap_op
swap_op_lem d low high =
    let arm : leb d last_swap_arm ≡ true = le-leb d last_swap_arm (omega arith) in
    let op : 0x90 + (d - 1) ≡ 0x8f + d = omega arith in
    rw (le-leb 1 d low, arm) (ap done op)

swap_same : (a : Assembler) (d : ℕ) → 1 ≤ d → d ≤ 16 → swap a d ≡ op_byte a (evm.swap_op d)
unfolding swap
swap_same a d low high = rw (swap_op_lem d low high)

-- every depth from 0 to 15
dup_same : (a : Assembler) (d : ℕ) → d ≤ 15 → dup a d ≡ op_byte a (evm.dup_op d)
unfolding dup dup_op
dup_same a d high =
    let arm : leb d last_dup_arm ≡ true = le-leb d last_dup_arm (omega arith) in
    rw arm

-- three swaps
thrice_same : (a : Assembler) (d e : ℕ) → 1 ≤ d → d ≤ 16 → 1 ≤ e → e ≤ 16
    → and_then (swap a d) (λ x. and_then (swap x e) (λ y. swap y d)) ≡ op_bytes a (evm.swap_op d ∷ evm.swap_op e ∷ evm.swap_op d ∷ [])
unfolding op_bytes
thrice_same a d e dl dh el eh =
    rw (swap_same a d dl dh) (and_then_same (op_byte a (evm.swap_op d)) _ _ (λ x.
    rw (swap_same x e el eh) (and_then_same (op_byte x (evm.swap_op e)) _ _ (λ y.
    swap_same y d dl dh ∙ sym (one_byte y (evm.swap_op d))))))

exchange_same : (a : Assembler) (n m : ℕ) → eqb n m ≡ false → n ≤ 16 → m ≤ 16 → exchange a n m ≡ op_bytes a (exchange_ops n m)
unfolding exchange exchange_ops
exchange_same a n m d nh mh = go (dichotomy (eqb n 0)) (dichotomy (eqb m 0))
  where
    differ : n ≡ m → ⊥
    differ = eqb-false n m d

    go : (eqb n 0 ≡ false) ⊎ (eqb n 0 ≡ true) → (eqb m 0 ≡ false) ⊎ (eqb m 0 ≡ true) → exchange a n m ≡ op_bytes a (exchange_ops n m)
    go (inr t) j =
        let z : n ≡ 0 = eqb-true n 0 t in
        let low : 1 ≤ m = omega (arith, differ) in
        rw (d, t) (swap_same a m low mh ∙ sym (one_byte a (evm.swap_op m)))
    go (inl f) (inr t) =
        let low : 1 ≤ n = omega (arith, eqb-false n 0 f) in
        rw (d, f, t) (swap_same a n low nh ∙ sym (one_byte a (evm.swap_op n)))
    go (inl f) (inl g) =
        let nl : 1 ≤ n = omega (arith, eqb-false n 0 f) in
        let ml : 1 ≤ m = omega (arith, eqb-false m 0 g) in
        rw (d, f, g) (thrice_same a n m nl nh ml mh)

-- ---- data

longer_data_comes : (a : Assembler) (before : List StoredAsmSection) (span : Span ℕ) (more : List ℕ) → length a.bytes + length more ≤ max_index
    → Comes (longer_data before span a.bytes more)
unfolding longer_data
longer_data_comes a before span more h = rw (len_done (a.bytes ++ more) (omega (arith, length-append a.bytes more))) (_, refl)

-- the debug assertion, where it is there, holds
extend_data_comes : (build : Build) (a : Assembler) (before : List StoredAsmSection) (span : Span ℕ) (more : List ℕ) → span.end ≡ length a.bytes
    → length a.bytes + length more ≤ max_index → Comes (extend_data build before span a.bytes more)
unfolding extend_data
extend_data_comes build a before span more e h = rw (eq-eqb span.end (length a.bytes) e) (asserted build.debug_assertions)
  where
    asserted : (b : Bool) → Comes (cond b (longer_data before span a.bytes more) (longer_data before span a.bytes more))
    asserted true = longer_data_comes a before span more h
    asserted false = longer_data_comes a before span more h

new_data_comes : (a : Assembler) (more : List ℕ) → length a.bytes + length more ≤ max_index → Comes (new_data a more)
unfolding new_data
new_data_comes a more h = rw (len_done a.bytes (omega arith), len_done (a.bytes ++ more) (omega (arith, length-append a.bytes more))) (_, refl)

data_after_comes : (build : Build) (a : Assembler) (more : List ℕ) {l : Last} → LastIs a.sections l → Kept a
    → length a.bytes + length more ≤ max_index → Comes (data_after build l a more)
data_after_comes build a more (is_ops_lem before span e) k h = new_data_comes a more h
data_after_comes build a more (is_data before span e) k h = extend_data_comes build a before span more (last_end as_data a before span e k) h
data_after_comes build a more (is_other o) k h = new_data_comes a more h

-- `push_data`
push_data_comes : (build : Build) (a : Assembler) (more : List ℕ) → Kept a → length a.bytes + length more ≤ max_index → Comes (pushed_data build a more)
unfolding pushed_data
push_data_comes build a more k h = data_after_comes build a more (last_is a.sections) k h

-- ---- any of them

-- of a word, which has 32 bytes
word_comes : (a : Assembler) (word : List ℕ) → Kept a → eqb (length word) 32 ≡ true → length a.bytes + length (minimal_push (number word)) ≤ max_index
    → Comes (and_then (u256 word) (minimal a))
unfolding u256
word_comes a word k e h = rw (e, minimal_same a (number word)) (op_bytes_come a (minimal_push (number word)) k h)

pub push_comes : (build : Build) (p : Push) (a : Assembler) → Kept a → has_bad_depth p ≡ false → has_bad_word p ≡ false
    → length a.bytes + length (bytes_of (added p)) ≤ max_index → Comes (push_call build p a)
push_comes build (push_mark m) a k d w h = (_, refl)
push_comes build (push_op_byte b) a k d w h = op_byte_comes a b k h
push_comes build (push_swap depth) a k d w h =
    let q = (or-false (eqb depth 0) (ltb 16 depth)).0 d in
    let low : 1 ≤ depth = omega (arith, eqb-false depth 0 q.0) in
    rw (swap_same a depth low (ltb-false 16 depth q.1)) (op_byte_comes a (evm.swap_op depth) k h)
push_comes build (push_dup depth) a k d w h = rw (dup_same a depth (ltb-false 15 depth d)) (op_byte_comes a (evm.dup_op depth) k h)
push_comes build (push_exchange n m) a k d w h =
    let q = (or-false (eqb n m) _).0 d in
    let high = (or-false (ltb 16 n) (ltb 16 m)).0 q.1 in
    rw (exchange_same a n m q.0 (ltb-false 16 n high.0) (ltb-false 16 m high.1)) (op_bytes_come a (exchange_ops n m) k h)
push_comes build (push_minimal_u256 word) a k d w h = word_comes a word k (not-false _ w) h
push_comes build (push_minimal_u64 v) a k d w h = rw (minimal_same a v) (op_bytes_come a (minimal_push v) k h)
push_comes build (push_minimal_u32 v) a k d w h = rw (minimal_same a v) (op_bytes_come a (minimal_push v) k h)
push_comes build (push_data more) a k d w h = push_data_comes build a more k h
push_comes build (push_reference r) a k d w h = (_, refl)
