-- Each test on the way is a part.
-- Assumes nothing.
use borrow.Author.Tests.{eq-eqb, ne_eqb, lt-ltb, le-ltb}
use Rattle.building.proofs.bytes.is_bad_exchange.Goals as goal

pub returns-then-n-m : goal.returns-then-n-m
returns-then-n-m c = rw (eq-eqb _ _ c.if-n-m.true)

pub returns-then-n-gt-MAX_SWAP : goal.returns-then-n-gt-MAX_SWAP
returns-then-n-gt-MAX_SWAP c = rw (ne_eqb _ _ c.if-n-m.false, lt-ltb 16 _ c.if-n-gt-MAX_SWAP.true)

pub returns : goal.returns
returns c = rw (ne_eqb _ _ c.if-n-m.false, le-ltb 16 _ c.if-n-gt-MAX_SWAP.false)
