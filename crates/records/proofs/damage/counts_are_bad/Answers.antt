-- `counts_are_bad` is the definition's four tests, one after the other.
-- Assumes nothing.
use native.Mathlib.Omega.{arith}
use Rattle.records.proofs.Damages.{bytes_past_slice, bytes_past_limit, sections_past_limit, words_past_slice}
use Rattle.records.proofs.damage.counts_are_bad.Goals as goal
use Rattle.records.proofs.damage.counts_are_bad.Goals.{Else-store-gt-MAX_BYTES, Else-store-gt-MAX_SECTIONS}

pub returns-then-bytes-store : goal.returns-then-bytes-store
returns-then-bytes-store c = bytes_past_slice _ _ c.if-bytes-store.true

pub returns-then-store-gt-MAX_BYTES : goal.returns-then-store-gt-MAX_BYTES
returns-then-store-gt-MAX_BYTES c = bytes_past_limit _ _ c.if-bytes-store.false c.if-store-gt-MAX_BYTES.true

pub returns-then-store-gt-MAX_SECTIONS : goal.returns-then-store-gt-MAX_SECTIONS
returns-then-store-gt-MAX_SECTIONS c = sections_past_limit _ _ c.if-bytes-store.false c.if-store-gt-MAX_BYTES.false c.if-store-gt-MAX_SECTIONS.true

pub overflow_mul-result : goal.overflow_mul-result
overflow_mul-result c = omega arith

pub returns : goal.returns
returns c =
    let e3 = (goal.at.returns c).Else-store-gt-MAX_SECTIONS in
    let e2 = (goal.at.Else-store-gt-MAX_SECTIONS e3).Else-store-gt-MAX_BYTES in
    words_past_slice _ _ e2.if-bytes-store.false e2.if-store-gt-MAX_BYTES.false e3.if-store-gt-MAX_SECTIONS.false
