-- Decimal numbers as text, without leading zeros. The laws are in proofs/Digits: the digits read back to the number, and the first is 0
-- only for 0. Assumes nothing.
use Rattle.std.specs.Prelude.{ℕ, zero, suc, ◌+◌, ◌*◌, ◌-◌, ◌/◌, ◌%◌, cond, List, [], ◌∷◌, ◌++◌, ltb}

-- the character of a digit: `0` is 48
abbrev pub digit : ℕ → ℕ
digit d = 48 + d

-- the last digits of a number, at most `fuel` of them
unfoldable pub last_digits : ℕ → ℕ → List ℕ
last_digits zero v = []
last_digits (suc fuel) v = cond (ltb v 10) (digit v ∷ []) (last_digits fuel (v / 10) ++ (digit (v % 10) ∷ []))

-- a number in decimal: it has no more digits than one more than itself
unfoldable pub decimal : ℕ → List ℕ
decimal v = last_digits (suc v) v

-- the number that characters read as, after those before them gave `high`
unfoldable pub read_after : ℕ → List ℕ → ℕ
read_after high [] = high
read_after high (c ∷ cs) = read_after (high * 10 + (c - 48)) cs

-- the number that characters read as
abbrev pub read_back : List ℕ → ℕ
read_back cs = read_after 0 cs
