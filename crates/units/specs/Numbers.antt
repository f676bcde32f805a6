-- Document 01, module 1: the bytes that hold a value; and numbers as bytes, highest first.
-- Reads nothing of any table or pass. Assumes nothing.
use Rattle.std.specs.Prelude.{ℕ, zero, suc, ◌+◌, ◌*◌, ◌/◌, ◌%◌, List, [], ◌∷◌, ◌++◌, cond, leb, eqb}

-- the bytes that hold a value (`bytes_to_hold`): 1 up to 255, 2 up to 65,535, 3 up to 16,777,215, else 4
unfoldable pub held_bytes : ℕ → ℕ
held_bytes v = cond (leb v 255) 1 (cond (leb v 65535) 2 (cond (leb v 16777215) 3 4))

-- the number that bytes are, highest first, after the bytes before them gave `high`
unfoldable pub number_after : ℕ → List ℕ → ℕ
number_after high [] = high
number_after high (b ∷ bs) = number_after (high * 256 + b) bs

-- the number that bytes are, highest first: what U256 means here, for a word of 32 bytes
unfoldable pub number : List ℕ → ℕ
number bs = number_after 0 bs

-- a number in n bytes, highest first
unfoldable pub big_endian : ℕ → ℕ → List ℕ
big_endian zero v = []
big_endian (suc n) v = big_endian n (v / 256) ++ (v % 256 ∷ [])

-- the least count of bytes that a number fits in, 0 for 0, at most `most`
unfoldable pub least_bytes : ℕ → ℕ → ℕ
least_bytes zero v = 0
least_bytes (suc most) v = cond (eqb v 0) 0 (suc (least_bytes most (v / 256)))
