-- A group more.
-- Assumes nothing.
use native.Mathlib.Omega.{arith}
use Prim.Native.Nat.{ℕ, ◌/◌, ◌<◌}
use mathlib.Core.Path.{◌≡◌, sym, ap, ◌∙◌}
use mathlib.Core.List.{List, []}
use lib.ListN.{length, get_or}
use Rattle.std.specs.Int.{w64, from_be_bytes}
use Rattle.minimal.proofs.Groups.{chunk_passed}
use Rattle.minimal.proofs.eights_passed.Goals as goal

pub loop-i-preserved : goal.loop-i-preserved
loop-i-preserved c =
    let i = c.loop-i.i in
    let front = c.in-Some.front.now in
    let within : i < length front / 8 = omega (arith, c.as_chunks.ensures.front_len) in
    let none : from_be_bytes w64 (get_or c.as_chunks.result.0.now i []) ≡ 0 = sym c.from_be_bytes.ensures ∙ c.if-from_be_bytes-ne0.false in
    let none = ap (λ (xs : List (List ℕ)). from_be_bytes w64 (get_or xs i [])) (sym c.as_chunks.ensures.front) ∙ none in
    let more = chunk_passed c.args.digits.now front c.in-Some._last.now i c.in-Some.ensures.cases.0 within c.loop-i.invariant none in
    λ k l h. more k l (omega (arith, h))
