-- What the small calls answer, as numbers and into an array. Assumes nothing.
use Rattle.std.specs.Prelude.{ℕ, cond, List, ◌++◌, ltb, length, drop}
use Rattle.evm.specs.declared.landing.Landing.{Landing}
use Rattle.evm.specs.declared.landing.Landing.TheVariants.{Yes, No}
use Rattle.numbers.specs.Numbers.{packed, names_nothing}

-- 1 yes, 0 no
abbrev pub landing_number : Landing → ℕ
landing_number Yes = 1
landing_number No = 0

-- a name's length, if the array has room for it
unfoldable pub name_number : List ℕ → List ℕ → ℕ
name_number name array = cond (ltb (length array) (length name)) names_nothing (packed 0 0 (length name))

-- the name into the array's first bytes, if it has room
unfoldable pub name_array : List ℕ → List ℕ → List ℕ
name_array name array = cond (ltb (length array) (length name)) array (name ++ drop (length name) array)
