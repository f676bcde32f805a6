-- The name of an opcode in an array: the array is too short, or the name is written to its start. Assumes nothing.
use Prim.Native.Nat.{ℕ, ◌+◌, ◌≤◌, ◌<◌}
use native.Mathlib.Omega.{arith}
use native.Mathlib.Nat.{zero-add}
use mathlib.Core.Path.{◌≡◌, sym, ap, ◌∙◌}
use mathlib.Core.Bool.{true, false}
use mathlib.Core.List.{List, ◌++◌}
use lib.ListN.{length, drop}
use lib.Dec.{ltb}
use borrow.Author.Tests.{lt-ltb, le-ltb}
use Rattle.slices.specs.Over.{over, over_if_room}
use Rattle.slices.proofs.Over.{has_room}
use Rattle.numbers.specs.Numbers.{names_nothing}
use Rattle.facts.specs.Facts.{name_number, name_array}

-- the array is too short
pub name_nothing : (name array : List ℕ) → length array < length name → (names_nothing ≡ name_number name array) × (array ≡ name_array name array)
unfolding name_number name_array
name_nothing name array h =
    let short : ltb (length array) (length name) ≡ true = lt-ltb (length array) (length name) h in
    (rw short, rw short)

-- it has room
pub name_written : (name array after : List ℕ) → length name ≤ length array → after ≡ over_if_room array 0 name
    → (length name ≡ name_number name array) × (after ≡ name_array name array)
unfolding name_number name_array
name_written name array after h e =
    let room : ltb (length array) (length name) ≡ false = le-ltb (length array) (length name) h in
    let fits : 0 + length name ≤ length array = omega arith in
    let written : after ≡ over array 0 name = e ∙ has_room array 0 name fits in
    (rw room (sym (zero-add (length name))), rw room (written ∙ ap (λ (n : ℕ). name ++ drop n array) (zero-add (length name))))
