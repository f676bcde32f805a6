-- What the tests of a building call tell of the counts. The laws of the answers stand in `numbers`, proofs/Adds. Assumes nothing.
use Prim.Native.Nat.{ℕ, ◌+◌, ◌*◌, ◌≤◌, ◌<◌}
use native.Mathlib.Omega.{arith}
use mathlib.Core.Path.{◌≡◌, refl}
use mathlib.Core.Bool.{Bool, true, false}
use mathlib.Mathlib.Data.Bool.Basic.{or-eq-false-eq-eq-false-and-eq-false as or-false}
use mathlib.Core.List.{List}
use lib.ListN.{length}
use lib.Dec.{ltb}
use borrow.Author.Tests.{lt-ltb, le-ltb, ltb-false}
use Rattle.records.specs.Store.{Store, max_sections, bad_counts}
use Rattle.records.specs.Damage.{last_soundness, bad_count_building}
use Rattle.records.specs.Damage.{Sound, Damaged}
use Rattle.calls.specs.Calls.{no_section_left}

-- counts are good where a building call's test finds nothing
pub sound_counts : (w : ℕ) (st : Store) → last_soundness w st ≡ Sound → bad_counts w st ≡ false
unfolding last_soundness bad_count_building
sound_counts w st e = go (bad_counts w st) refl
  where
    go : (t : Bool) → bad_counts w st ≡ t → bad_counts w st ≡ false
    go false h = h
    go true h =
        let bad : Damaged 0 ≡ Sound = rw h at e in
        let z : ◌≡◌ {A = ℕ} 0 1 = cc in
        absurd (omega arith)

-- 5, as the code tests it: the limit first, then the slice
pub left_limit : (w n : ℕ) (words : List ℕ) → max_sections < n + 1 → true ≡ no_section_left w n words
unfolding no_section_left
left_limit w n words h =
    let t : ltb max_sections (n + 1) ≡ true = lt-ltb max_sections (n + 1) h in
    rw t

pub left_slice : (w n : ℕ) (words : List ℕ) → n + 1 ≤ max_sections → ltb (length words) (w * (n + 1)) ≡ no_section_left w n words
unfolding no_section_left
left_slice w n words h =
    let t : ltb max_sections (n + 1) ≡ false = le-ltb max_sections (n + 1) h in
    rw t

-- where a section is left, it fits limit and slice
pub left_fits : (w n : ℕ) (words : List ℕ) → no_section_left w n words ≡ false → (n + 1 ≤ max_sections) × (w * (n + 1) ≤ length words)
unfolding no_section_left
left_fits w n words e =
    let both = (or-false (ltb max_sections (n + 1)) (ltb (length words) (w * (n + 1)))).0 e in
    (ltb-false max_sections (n + 1) both.0, ltb-false (length words) (w * (n + 1)) both.1)
