-- Three stores where there is room, else nothing.
-- Assumes nothing.
use Prim.Native.Nat.{◌+◌, ◌*◌, ◌≤◌, ◌<◌}
use native.Mathlib.Omega.{arith}
use mathlib.Core.Path.{sym, ◌∙◌}
use lib.ListN.{length, length-set}
use Rattle.slices.proofs.Over.{has_room, no_room}
use Rattle.records.specs.Record.{stored_section}
use Rattle.records.proofs.Writing.{three_stores}
use Rattle.records.proofs.record.write_words.Goals as goal

pub bounds-words-at-then-at-words : goal.bounds-words-at-then-at-words
bounds-words-at-then-at-words c = simp length-set (omega (arith, c.if-at-words.true))

pub bounds-words-at-then-at-words-2 : goal.bounds-words-at-then-at-words-2
bounds-words-at-then-at-words-2 c = simp length-set (omega (arith, c.if-at-words.true))

pub returns-then-at-words : goal.returns-then-at-words
returns-then-at-words c =
    let a = c.args in
    let fits : 3 * a.i + 3 ≤ length a.words.now = omega (arith, c.if-at-words.true) in
    three_stores a.words.now (3 * a.i) (stored_section a.kind a.first a.second) fits ∙ sym (has_room _ _ _ fits)

pub returns-else-at-words : goal.returns-else-at-words
returns-else-at-words c =
    let a = c.args in
    let short : length a.words.now < 3 * a.i + 3 = omega (arith, c.if-at-words.false) in
    sym (no_room _ _ _ short)
