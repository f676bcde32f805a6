-- Laws of `held_bytes`: its value on each range, and that w bytes hold a value exactly when the value is
-- below 256 to the w. Assumes nothing.
use Prim.Native.Nat.{ℕ, zero, suc, ◌≤◌, ◌<◌, ◌^◌}
use native.Mathlib.Omega.{arith}
use mathlib.Core.Path.{◌≡◌, refl}
use mathlib.Core.Bool.{Bool, true, false}
use mathlib.Core.Logic.{◌↔◌}
use lib.Dec.{leb}
use borrow.Author.Tests.{le-leb, lt-leb, leb-true, leb-false}
use Rattle.units.specs.Numbers.{held_bytes}

pub held_1 : (v : ℕ) → v < 256 → held_bytes v ≡ 1
unfolding held_bytes
held_1 v h =
    let a : leb v 255 ≡ true = le-leb v 255 (omega arith) in
    rw a

pub held_2 : (v : ℕ) → 256 ≤ v → v < 65536 → held_bytes v ≡ 2
unfolding held_bytes
held_2 v l h =
    let a : leb v 255 ≡ false = lt-leb v 255 (omega arith) in
    let b : leb v 65535 ≡ true = le-leb v 65535 (omega arith) in
    rw (a, b)

pub held_3 : (v : ℕ) → 65536 ≤ v → v < 16777216 → held_bytes v ≡ 3
unfolding held_bytes
held_3 v l h =
    let a : leb v 255 ≡ false = lt-leb v 255 (omega arith) in
    let b : leb v 65535 ≡ false = lt-leb v 65535 (omega arith) in
    let d : leb v 16777215 ≡ true = le-leb v 16777215 (omega arith) in
    rw (a, b, d)

pub held_4 : (v : ℕ) → 16777216 ≤ v → held_bytes v ≡ 4
unfolding held_bytes
held_4 v l =
    let a : leb v 255 ≡ false = lt-leb v 255 (omega arith) in
    let b : leb v 65535 ≡ false = lt-leb v 65535 (omega arith) in
    let d : leb v 16777215 ≡ false = lt-leb v 16777215 (omega arith) in
    rw (a, b, d)

-- the four ranges: what holds on each holds of every value
pub by_range : (P : ℕ → Type 0) (v : ℕ) → (v < 256 → P v) → (256 ≤ v → v < 65536 → P v) → (65536 ≤ v → v < 16777216 → P v) → (16777216 ≤ v → P v) → P v
by_range P v p q r s = first (leb v 255) refl
  where
    third : (t : Bool) → leb v 16777215 ≡ t → 65536 ≤ v → P v
    third true e l = r l (omega (arith, leb-true v 16777215 e))
    third false e l = s (leb-false v 16777215 e)

    second : (t : Bool) → leb v 65535 ≡ t → 256 ≤ v → P v
    second true e l = q l (omega (arith, leb-true v 65535 e))
    second false e l = third (leb v 16777215) refl (leb-false v 65535 e)

    first : (t : Bool) → leb v 255 ≡ t → P v
    first true e = p (omega (arith, leb-true v 255 e))
    first false e = second (leb v 65535) refl (leb-false v 255 e)

-- at most four bytes
pub held_le : (v : ℕ) → held_bytes v ≤ 4
held_le v =
    by_range
    (λ (x : ℕ). held_bytes x ≤ 4)
    v
    (λ h. omega (arith, held_1 v h))
    (λ l h. omega (arith, held_2 v l h))
    (λ l h. omega (arith, held_3 v l h))
    (λ l. omega (arith, held_4 v l))

-- w bytes hold a value
abbrev Holds : ℕ → ℕ → Type 0
Holds w v = (held_bytes v ≤ w) ↔ (v < 256 ^ w)

-- each of the four sizes, on each of the four ranges
abbrev HoldsAll : ℕ → Type 0
HoldsAll v = v < 2 ^ 32 → Holds 1 v × Holds 2 v × Holds 3 v × Holds 4 v

holds_all : (v : ℕ) → HoldsAll v
holds_all v =
    by_range
    (λ (x : ℕ). HoldsAll x)
    v
    (λ h b. let e : held_bytes v ≡ 1 = held_1 v h in omega arith)
    (λ l h b. let e : held_bytes v ≡ 2 = held_2 v l h in omega arith)
    (λ l h b. let e : held_bytes v ≡ 3 = held_3 v l h in omega arith)
    (λ l b. let e : held_bytes v ≡ 4 = held_4 v l in omega arith)

-- w bytes hold v exactly when v is below 256 to the w, for w from 1 to 4 and v below 2^32
pub held_power : (w v : ℕ) → 1 ≤ w → w ≤ 4 → v < 2 ^ 32 → (held_bytes v ≤ w) ↔ (v < 256 ^ w)
held_power zero v l m b = absurd (omega arith)
held_power (suc zero) v l m b = (holds_all v b).0
held_power (suc (suc zero)) v l m b = (holds_all v b).1
held_power (suc (suc (suc zero))) v l m b = (holds_all v b).2
held_power (suc (suc (suc (suc zero)))) v l m b = (holds_all v b).3
held_power (suc (suc (suc (suc (suc w))))) v l m b = absurd (omega arith)
