-- What the scan's comparisons of groups find. No public contract cites it. Assumes nothing.
use Rattle.std.specs.Prelude.{ℕ, ◌+◌, ◌≤◌, ◌<◌, ◌≡◌, List, get_or}

-- so many zeros from a place on
abbrev pub ZerosFrom : List ℕ → ℕ → ℕ → Type 0
ZerosFrom bs at count = (i : ℕ) → at ≤ i → i < at + count → get_or bs i 0 ≡ 0
