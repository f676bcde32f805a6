-- The held bytes as a sum: one byte, and one more for each boundary that the value is past.
-- Assumes nothing.
use Prim.Native.Nat.{ℕ, ◌+◌, ◌≤◌}
use native.Mathlib.Omega.{arith}
use mathlib.Core.Path.{◌≡◌, subst, sym}
use mathlib.Core.Bool.{Bool, true, false}
use mir.Val.{bool_byte}
use lib.Dec.{ltb}
use borrow.Author.Tests.{lt-ltb, le-ltb}
use Rattle.units.specs.Numbers.{held_bytes}
use Rattle.units.proofs.Held.{held_1, held_2, held_3, held_4, held_le, by_range}
use Rattle.units.proofs.form.held_bytes.Goals as goal

-- a test counts at most one
at_most_one : (t : Bool) → bool_byte t ≤ 1
at_most_one true = omega arith
at_most_one false = omega arith

-- past so many boundaries
abbrev sum : ℕ → ℕ
sum v = 1 + bool_byte (ltb 255 v) + bool_byte (ltb 65535 v) + bool_byte (ltb 16777215 v)

sum-held : (v : ℕ) → sum v ≡ held_bytes v
sum-held v =
    by_range (λ (v : ℕ). sum v ≡ held_bytes v) v
    (λ h. rw (le-ltb 255 v (omega arith), le-ltb 65535 v (omega arith), le-ltb 16777215 v (omega arith), held_1 v h))
    (λ l h. rw (lt-ltb 255 v (omega arith), le-ltb 65535 v (omega arith), le-ltb 16777215 v (omega arith), held_2 v l h))
    (λ l h. rw (lt-ltb 255 v (omega arith), lt-ltb 65535 v (omega arith), le-ltb 16777215 v (omega arith), held_3 v l h))
    (λ l. rw (lt-ltb 255 v (omega arith), lt-ltb 65535 v (omega arith), lt-ltb 16777215 v (omega arith), held_4 v l))

pub overflow_add-result : goal.overflow_add-result
overflow_add-result c = omega (arith, at_most_one (ltb 255 c.args.value))

pub overflow_add-result-2 : goal.overflow_add-result-2
overflow_add-result-2 c = omega (arith, at_most_one (ltb 255 c.args.value), at_most_one (ltb 65535 c.args.value))

pub overflow_add-result-3 : goal.overflow_add-result-3
overflow_add-result-3 c =
    let v = c.args.value in
    omega (arith, at_most_one (ltb 255 v), at_most_one (ltb 65535 v), at_most_one (ltb 16777215 v))

pub returns : goal.returns
returns c =
    let v = c.args.value in
    (sum-held v, subst (λ (n : ℕ). n ≤ 4) (sym (sum-held v)) (held_le v))
