-- Zeros up to the byte found, or to the end, and no more.
-- Assumes nothing.
use native.Mathlib.Omega.{arith}
use lib.ListN.{length}
use Rattle.minimal.specs.Zeros.{LeadingZeros}
use Rattle.minimal.proofs.Looked.{looked_bytes}
use Rattle.minimal.proofs.scan_from.Goals as goal

pub returns-then-byte-ne0 : goal.returns-then-byte-ne0
returns-then-byte-ne0 c =
    let digits = c.args.digits.now in
    let found : LeadingZeros digits c.loop-i.i = record { within = omega arith; zeros = c.loop-i.invariant.zeros; ends = λ l e. c.if-byte-ne0.true e } in
    (found, omega (arith, looked_bytes digits c.loop-i.i found))

pub returns : goal.returns
returns c =
    let digits = c.args.digits.now in
    let none : LeadingZeros digits (length digits) = record { within = omega arith; zeros = λ k l. c.loop-i.invariant.zeros k (omega arith); ends = λ l e. omega arith } in
    (none, omega (arith, looked_bytes digits (length digits) none))
