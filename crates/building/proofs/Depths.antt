-- Depths: which are bad, as the code tests them, and the op bytes of an exchange. Assumes nothing.
use Prim.Native.Nat.{ℕ, ◌≤◌}
use native.Mathlib.Omega.{arith}
use mathlib.Core.Path.{◌≡◌}
use mathlib.Core.Bool.{false, ◌||◌}
use mathlib.Mathlib.Data.Bool.Basic.{or-eq-false-eq-eq-false-and-eq-false as or-false}
use mathlib.Core.List.{[], ◌∷◌}
use lib.Dec.{ltb, eqb}
use borrow.Author.Tests.{eq-eqb, ne_eqb, ltb-false, eqb-false}
use Rattle.evm.specs.Opcodes.{swap_op}
use Rattle.records.specs.Sections.{ops}
use Rattle.calls.specs.Calls.{push_swap, push_exchange, has_bad_depth, exchange_ops}

-- the depth of a SWAP
pub swap_depth : (d : ℕ) → has_bad_depth (push_swap d) ≡ false → (1 ≤ d) × (d ≤ 16)
swap_depth d e =
    let both = (or-false (eqb d 0) (ltb 16 d)).0 e in
    let some = eqb-false d 0 both.0 in
    (omega arith, ltb-false 16 d both.1)

-- two depths that are exchanged
module _ (n m : ℕ) where
  pub exchange_depths : has_bad_depth (push_exchange n m) ≡ false → ((n ≡ m → ⊥) × ((n ≤ 16) × (m ≤ 16)))
  exchange_depths e =
      let both = (or-false (eqb n m) (ltb 16 n || ltb 16 m)).0 e in
      let deep = (or-false (ltb 16 n) (ltb 16 m)).0 both.1 in
      (eqb-false n m both.0, (ltb-false 16 n deep.0, ltb-false 16 m deep.1))

  pub exchange_zero_first : {x : ℕ} → n ≡ 0 → x ≡ swap_op m → ops (x ∷ []) ≡ ops (exchange_ops n m)
  unfolding exchange_ops
  exchange_zero_first z e = rw (eq-eqb n 0 z, e)

  pub exchange_zero_second : {x : ℕ} → (n ≡ 0 → ⊥) → m ≡ 0 → x ≡ swap_op n → ops (x ∷ []) ≡ ops (exchange_ops n m)
  unfolding exchange_ops
  exchange_zero_second y z e = rw (ne_eqb n 0 y, eq-eqb m 0 z, e)

  pub exchange_three : {x y : ℕ} → (n ≡ 0 → ⊥) → (m ≡ 0 → ⊥) → x ≡ swap_op n → y ≡ swap_op m → ops (x ∷ y ∷ x ∷ []) ≡ ops (exchange_ops n m)
  unfolding exchange_ops
  exchange_three a b e f = rw (ne_eqb n 0 a, ne_eqb m 0 b, e, f)
