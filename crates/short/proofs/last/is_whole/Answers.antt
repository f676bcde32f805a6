-- A mark and bytes with such words can be read, and aren't broken.
-- Assumes nothing.
use native.Mathlib.Omega.{arith}
use Rattle.short.proofs.Whole.{whole_mark, whole_bytes}
use Rattle.short.proofs.last.is_whole.Goals as goal

pub returns-then-kind-eq-MARK : goal.returns-then-kind-eq-MARK
returns-then-kind-eq-MARK c = λ h. whole_mark _ _ c.if-kind-eq-MARK.true (c.is_mark.ensures h).0 (c.is_mark.ensures h).1

pub returns-then-kind-lt-DIRECT : goal.returns-then-kind-lt-DIRECT
returns-then-kind-lt-DIRECT c =
    λ h. whole_bytes _ _ (omega (arith, c.if-kind-eq-MARK.false)) c.if-kind-lt-DIRECT.true (c.ends_at.ensures h).0 (c.ends_at.ensures h).1
