-- The Rust's minimal push: its count of bytes, from the leading zeros, is the least that holds the number, and its bytes, the lowest of
-- the number's 32 reversed, are the number highest first. For every number: above 256 bits both count 32 bytes. Assumes nothing.
use Prim.Native.Nat.{ℕ, zero, suc, ◌+◌, ◌*◌, ◌-◌, ◌/◌, ◌%◌, ◌^◌, ◌≤◌, ◌<◌}
use native.Mathlib.Nat.{zero-add, suc-add, eq-zero-or-pos, zero-div, pow-zero, pow-suc, div-one, div-div-eq-div-mul, mul_comm}
use native.Mathlib.Omega.{arith}
use mathlib.Core.Path.{◌≡◌, refl, sym, ap, ◌∙◌}
use mathlib.Core.Logic.{⊎_elim}
use mathlib.Core.List.{List, [], ◌∷◌, ◌++◌, reverse, reverse-cons}
use lib.ListN.{take}
use borrow.Author.Tests.{eq-eqb, ne_eqb, le-leb}
use Rattle.units.specs.Numbers.{big_endian, least_bytes}
use Rattle.units.proofs.BigEndian.{least_bytes_zero, least_bytes_suc}
use Rattle.calls.specs.Calls.{minimal_push}
use Rattle.evm.specs.Opcodes as evm
use Rattle.rust_model.specs.Run.{done}
use Rattle.rust_model.specs.Building.{Assembler, op_byte, op_bytes, bits, leading_zeros, le_bytes, push_size, push_op, minimal}
use Rattle.rust_model.proofs.Runs.{and_then_last}

-- ---- bits

-- 0 has none
bits_zero : (most : ℕ) → bits most 0 ≡ 0
unfolding bits
bits_zero zero = refl
bits_zero (suc most) = refl

-- a number above 0 has one more than its half
bits_suc : (most v : ℕ) → 0 < v → bits (suc most) v ≡ suc (bits most (v / 2))
unfolding bits
bits_suc most v h = rw (ne_eqb v 0 (λ e. omega arith))

-- at most as many as are counted
bits_le : (most v : ℕ) → bits most v ≤ most
unfolding bits
bits_le zero v = omega arith
bits_le (suc most) v = ⊎_elim (λ z. omega (arith, ap (bits (suc most)) z ∙ bits_zero (suc most))) (λ p. omega (arith, bits_suc most v p, bits_le most (v / 2))) (eq-zero-or-pos v)

-- the bits of a number and of what is left of it after j halvings
record Halved (j most v : ℕ) : Type 0 where
  some : 0 < v / 2 ^ j → bits (j + most) v ≡ j + bits most (v / 2 ^ j)
  none : v / 2 ^ j ≡ 0 → bits (j + most) v ≤ j

halved : (j most v : ℕ) → Halved j most v
halved zero most v =
    let e : v / 2 ^ 0 ≡ v = ap (λ (d : ℕ). v / d) (pow-zero 2) ∙ div-one v in
    let z : bits (0 + most) v ≡ bits most v = ap (λ (k : ℕ). bits k v) (zero-add most) in
    record {
      some = λ h. z ∙ ap (bits most) (sym e) ∙ sym (zero-add _);
      none = λ h. omega (arith, z ∙ ap (bits most) (sym e ∙ h) ∙ bits_zero most);
    }
halved (suc j) most v =
    let d : v / 2 ^ suc j ≡ v / 2 / 2 ^ j = ap (λ (x : ℕ). v / x) (pow-suc 2 j ∙ mul_comm (2 ^ j) 2) ∙ sym (div-div-eq-div-mul v 2 (2 ^ j)) in
    let s : bits (suc j + most) v ≡ bits (suc (j + most)) v = ap (λ (k : ℕ). bits k v) (suc-add j most) in
    let ih : Halved j most (v / 2) = halved j most (v / 2) in
    ⊎_elim
    (λ z.
    let n : v / 2 ^ suc j ≡ 0 = ap (λ (x : ℕ). x / 2 ^ suc j) z ∙ zero-div (2 ^ suc j) in
    let b : bits (suc j + most) v ≡ 0 = ap (bits (suc j + most)) z ∙ bits_zero (suc j + most) in
    record { some = λ h. absurd (omega arith); none = λ h. omega arith })
    (λ p.
    let e : bits (suc j + most) v ≡ suc (bits (j + most) (v / 2)) = s ∙ bits_suc (j + most) v p in
    record {
      some = λ h. e ∙ ap suc (ih.some (rw d at h)) ∙ sym (suc-add j (bits most (v / 2 / 2 ^ j))) ∙ ap (λ (x : ℕ). suc j + bits most x) (sym d);
      none = λ h. omega (arith, e, ih.none (sym d ∙ h));
    })
    (eq-zero-or-pos v)

-- ---- the count of bytes

-- as many bytes as hold the bits
record Holds (m v : ℕ) : Type 0 where
  enough : bits (8 * m) v ≤ 8 * least_bytes m v
  least : 8 * least_bytes m v ≤ bits (8 * m) v + 7

-- a number above 0 takes one byte more than without its last byte
holds_more : (m v : ℕ) → 0 < v → Holds m (v / 256) → Holds (suc m) v
holds_more m v p ih =
    let e : least_bytes (suc m) v ≡ suc (least_bytes m (v / 256)) = least_bytes_suc m v p in
    let s : bits (8 * suc m) v ≡ bits (8 + 8 * m) v = ap (λ (k : ℕ). bits k v) (omega arith) in
    let h : Halved 8 (8 * m) v = halved 8 (8 * m) v in
    ⊎_elim
    (λ z.
    let l : least_bytes m (v / 256) ≡ 0 = ap (least_bytes m) z ∙ least_bytes_zero m in
    let t : bits (8 + 8 * m) v ≡ suc (bits (7 + 8 * m) (v / 2)) = ap (λ (k : ℕ). bits k v) (suc-add 7 (8 * m)) ∙ bits_suc (7 + 8 * m) v p in
    let b : bits (8 + 8 * m) v ≤ 8 = h.none z in
    record { enough = omega arith; least = omega arith })
    (λ q.
    let b : bits (8 + 8 * m) v ≡ 8 + bits (8 * m) (v / 256) = h.some q in
    record { enough = omega arith; least = omega arith })
    (eq-zero-or-pos (v / 256))

holds : (m v : ℕ) → Holds m v
unfolding bits least_bytes
holds zero v = record { enough = omega arith; least = omega arith }
holds (suc m) v =
    ⊎_elim
    (λ z.
    let b : bits (8 * suc m) v ≡ 0 = ap (bits (8 * suc m)) z ∙ bits_zero (8 * suc m) in
    let l : least_bytes (suc m) v ≡ 0 = ap (least_bytes (suc m)) z ∙ least_bytes_zero (suc m) in
    record { enough = omega arith; least = omega arith })
    (λ p. holds_more m v p (holds m (v / 256)))
    (eq-zero-or-pos v)

-- the Rust's count of bytes is the least
pub push_size_lem : (v : ℕ) → push_size v ≡ least_bytes 32 v
unfolding push_size leading_zeros
push_size_lem v = let h : Holds 32 v = holds 32 v in omega (arith, bits_le 256 v, h.enough, h.least)

-- a number above 0 takes 1 to 32 bytes
least_bounds : (v : ℕ) → 0 < v → (1 ≤ least_bytes 32 v) × (least_bytes 32 v ≤ 32)
least_bounds v p = let h : Holds 32 v = holds 32 v in (omega (arith, least_bytes_suc 31 v p), omega (arith, bits_le 256 v, h.least))

-- so the assertion on its opcode holds
push_op_lem : (v : ℕ) → 0 < v → push_op (push_size v) ≡ done (evm.push_op (least_bytes 32 v))
unfolding push_op
push_op_lem v p =
    let b = least_bounds v p in
    let op : 0x60 + least_bytes 32 v - 1 ≡ 0x5f + least_bytes 32 v = omega (arith, b.0) in
    rw (push_size_lem v, op, le-leb 0x60 (0x5f + least_bytes 32 v) (omega (arith, b.0)), le-leb (0x5f + least_bytes 32 v) 0x7f (omega (arith, b.1)))

-- ---- the bytes

-- the lowest k bytes reversed are the number in k bytes
pub low_bytes : (k n v : ℕ) → k ≤ n → reverse (take k (le_bytes n v)) ≡ big_endian k v
unfolding le_bytes big_endian
low_bytes zero n v h = refl
low_bytes (suc k) zero v h = absurd (omega arith)
low_bytes (suc k) (suc n) v h =
    reverse-cons (v % 256) (take k (le_bytes n (v / 256))) ∙ ap (λ (l : List ℕ). l ++ (v % 256 ∷ [])) (low_bytes k n (v / 256) (omega arith))

-- so those of the push are
push_bytes : (v : ℕ) → 0 < v → reverse (take (push_size v) (le_bytes 32 v)) ≡ big_endian (least_bytes 32 v) v
push_bytes v p = rw push_size_lem (low_bytes (least_bytes 32 v) 32 v (least_bounds v p).1)

-- ---- the push

-- what it is of 0
minimal_zero : (v : ℕ) → v ≡ 0 → 0x5f ∷ [] ≡ minimal_push v
unfolding minimal_push big_endian
minimal_zero v z = rw (z, least_bytes_zero 32)

-- `push_minimal_u256` pushes our bytes, one after another
pub minimal_same : (a : Assembler) (v : ℕ) → minimal a v ≡ op_bytes a (minimal_push v)
unfolding minimal minimal_push op_bytes
minimal_same a v = ⊎_elim nothing above (eq-zero-or-pos v)
  where
    nothing : v ≡ 0 → minimal a v ≡ op_bytes a (minimal_push v)
    nothing z = rw (eq-eqb v 0 z) (sym (and_then_last (op_byte a 0x5f)) ∙ ap (op_bytes a) (minimal_zero v z))

    above : 0 < v → minimal a v ≡ op_bytes a (minimal_push v)
    above p =
        let op : ℕ = evm.push_op (least_bytes 32 v) in
        rw (ne_eqb v 0 (λ e. omega arith), push_op_lem v p) (ap (λ (l : List ℕ). op_bytes a (op ∷ l)) (push_bytes v p))
