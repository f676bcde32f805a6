-- A number's bytes, counted and written. Assumes nothing.
use Prim.Native.Nat.{ℕ, zero, suc, ◌+◌, ◌*◌, ◌^◌, ◌≤◌, ◌<◌}
use native.Mathlib.Omega.{arith}
use native.Mathlib.Nat.{lt_of_lt_of_le}
use Rattle.std.proofs.Math.Nat.{pow-le-pow_right, pow-suc}
use Rattle.std.proofs.lemmas.Nat.{pow-add}
use mathlib.Core.Path.{◌≡◌, refl, sym, ap, ◌∙◌}
use mathlib.Core.Logic.{◌↔◌}
use mathlib.Core.List.{List, [], ◌∷◌}
use lib.Dec.{lit≤}
use lib.ListN.{length, set, length-set}
use Rattle.units.specs.Numbers.{big_endian, least_bytes}
use Rattle.units.proofs.BigEndian.{length_big_endian, least_bytes_iff, pow256_mono}
use Rattle.slices.specs.Over.{over, over_if_room}
use Rattle.slices.proofs.Over.{has_room, over_one, over_next, over_nothing}
use Rattle.calls.specs.Calls.{minimal_push}

-- a power of 256 as one of 2
pow256 : (n : ℕ) → 256 ^ n ≡ 2 ^ (8 * n)
pow256 zero = refl
pow256 (suc n) =
    let e : 8 * suc n ≡ 8 * n + 8 = omega arith in
    rw (pow-suc 256 n, pow256 n, e, pow-add 2 (8 * n) 8)

-- fewer bytes than a number's bits need can't hold it
not_fewer : (v m k : ℕ) → 2 ^ m ≤ 2 * v + 1 → 8 * k < m → v < 256 ^ k → ⊥
not_fewer v m k below few held =
    let half : 2 ^ (8 * k + 1) ≤ 2 ^ m = pow-le-pow_right {n = 2} (omega arith) {i = 8 * k + 1} {j = m} (omega arith) in
    omega (arith, half, held, pow256 k, pow-add 2 (8 * k) 1)

-- so many bits have so many bytes
pub least_by_bits : (v m n : ℕ) → v < 2 ^ m → 2 ^ m ≤ 2 * v + 1 → m ≤ 8 * n → 8 * n < m + 8 → n ≤ 32 → n ≡ least_bytes 32 v
least_by_bits v m n above below fits least few =
    let held : v < 256 ^ n = rw pow256 (lt_of_lt_of_le above (pow-le-pow_right {n = 2} (omega arith) {i = m} {j = 8 * n} fits)) in
    let iff : (k : ℕ) → (least_bytes 32 v ≤ k) ↔ (v < 256 ^ k) = λ k. least_bytes_iff 32 v k (lt_of_lt_of_le held (pow256_mono few)) in
    let not_less : least_bytes 32 v < n → ⊥ = λ l. not_fewer v m (least_bytes 32 v) below (omega arith) ((iff (least_bytes 32 v)).0 (omega arith)) in
    omega (arith, (iff n).1 held, not_less)

-- a 64-bit number has at most eight
pub least_eight : (v : ℕ) → v < 2 ^ 64 → least_bytes 32 v ≤ 8
least_eight v h = (least_bytes_iff 32 v 8 (lt_of_lt_of_le h (lit≤ {m = 2 ^ 64} {n = 256 ^ 32} tt))).1 h

-- the length of a minimal push, at most nine of a 64-bit number
pub length_push : (v : ℕ) → length (minimal_push v) ≡ 1 + least_bytes 32 v
unfolding minimal_push
length_push v = omega (arith, length_big_endian (least_bytes 32 v) v)

pub push_nine : (v : ℕ) → v < 2 ^ 64 → length (minimal_push v) ≤ 9
push_nine v h = omega (arith, length_push v, least_eight v h)

-- no byte left to write
pub digits_done : (old : List ℕ) (i n v : ℕ) → n ≡ 0 → old ≡ over old i (big_endian n v)
unfolding big_endian
digits_done old i n v e = rw e (sym (over_nothing old i))

-- an op byte, and then bytes after it
pub op_written : (old : List ℕ) (i op : ℕ) (xs : List ℕ) → i < length old → over (set old i op) (i + 1) xs ≡ over old i (op ∷ xs)
op_written old i op xs h =
    ap (λ (o : List ℕ). over o (i + 1) xs) (over_one old i op h) ∙ over_next old i (op ∷ []) xs (omega (arith, h))

-- the opcode and then the bytes are the minimal push
pub push_written : (old : List ℕ) (i n v : ℕ) → n ≡ least_bytes 32 v → i < length old → over (set old i (0x5f + n)) (i + 1) (big_endian n v) ≡ over old i (minimal_push v)
unfolding minimal_push
push_written old i n v e h = op_written old i (0x5f + n) (big_endian n v) h ∙ ap (λ (k : ℕ). over old i ((0x5f + k) ∷ big_endian k v)) e

-- the same of bytes copied where there is room
pub instruction_written : (old : List ℕ) (i op : ℕ) (xs : List ℕ) → i + (1 + length xs) ≤ length old → over_if_room (set old i op) (i + 1) xs ≡ over old i (op ∷ xs)
instruction_written old i op xs h =
    has_room (set old i op) (i + 1) xs (omega (arith, h, length-set old i op)) ∙ op_written old i op xs (omega (arith, h))
