-- A list written over another. Assumes nothing.
use Rattle.std.specs.Prelude.{ℕ, ◌+◌, List, ◌++◌, cond, leb, length, take, drop}

-- `new` written over `old` from index i on
abbrev pub over : List ℕ → ℕ → List ℕ → List ℕ
over old i new = take i old ++ (new ++ drop (i + length new) old)

-- the same where there is room for it, else `old` as it is
unfoldable pub over_if_room : List ℕ → ℕ → List ℕ → List ℕ
over_if_room old i new = cond (leb (i + length new) (length old)) (over old i new) old
