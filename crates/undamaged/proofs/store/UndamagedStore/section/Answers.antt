-- An undamaged store has the three words of each section.
-- Assumes nothing.
use Prim.Native.Nat.{◌*◌, ◌≤◌}
use native.Mathlib.Omega.{arith}
use lib.ListN.{length}
use Rattle.records.specs.Store.{store_of, words_per_section}
use Rattle.undamaged.proofs.Soundness.{undamaged_iff}
use Rattle.undamaged.proofs.store.UndamagedStore.section.Goals as goal

pub bounds-self-at : goal.bounds-self-at
bounds-self-at c =
    let s = c.args.self in
    let fits : 3 * s.counts.sections ≤ length s.words.now = ((undamaged_iff words_per_section (store_of s.counts s.bytes.now s.words.now)).0 s.undamaged).words_fit in
    omega (arith, fits, c.if-i-self.false)

pub bounds-self-at-2 : goal.bounds-self-at-2
bounds-self-at-2 c =
    let s = c.args.self in
    let fits : 3 * s.counts.sections ≤ length s.words.now = ((undamaged_iff words_per_section (store_of s.counts s.bytes.now s.words.now)).0 s.undamaged).words_fit in
    omega (arith, fits, c.if-i-self.false)

pub bounds-self-at-3 : goal.bounds-self-at-3
bounds-self-at-3 c =
    let s = c.args.self in
    let fits : 3 * s.counts.sections ≤ length s.words.now = ((undamaged_iff words_per_section (store_of s.counts s.bytes.now s.words.now)).0 s.undamaged).words_fit in
    omega (arith, fits, c.if-i-self.false)
