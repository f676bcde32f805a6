-- What the scan of a number's bytes finds, `leading_zeros`, and how many bytes it looks at. Assumes nothing.
use Rattle.std.specs.Prelude.{ℕ, suc, ◌≤◌, ◌<◌, ◌≡◌, cond, List, [], ◌∷◌, length, get_or, eqb}

-- a list begins with r zeros and no more
pub record LeadingZeros (bs : List ℕ) (r : ℕ) : Type 0 where
  pub within : r ≤ length bs
  pub zeros : (i : ℕ) → i < r → get_or bs i 0 ≡ 0
  pub ends : r < length bs → get_or bs r 0 ≡ 0 → ⊥

-- document 02, request 4: the bytes that a scan byte by byte for the first nonzero byte looks at, "counted as it reads": each byte read is
-- one, and only after a zero is the next one read. So "up to and with that byte", and all of them, "32 for zero", where there is none. The
-- code passes over zeros in groups, and has this count.
unfoldable pub looked : List ℕ → ℕ
looked [] = 0
looked (b ∷ bs) = suc (cond (eqb b 0) (looked bs) 0)
