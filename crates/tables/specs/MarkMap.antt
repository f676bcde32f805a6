-- Private to the tests, src/map.rt: a map of one bit for each mark. No public contract cites it. Assumes nothing.
use Rattle.std.specs.Prelude.{ℕ, ◌*◌, ◌^◌, ◌/◌, ◌%◌, ◌≤◌, ◌<◌, ◌≡◌, Bool, true, min, ◌+◌, List, eqb, length, get_or, set, take}
use Rattle.std.specs.Int.Bits.{bit_or}
use Rattle.records.specs.Record.{max_mark}
use Rattle.records.specs.Sections.{Section}
use Rattle.layout.specs.Conditions.{placed}

-- the digit k of a byte, 0 or 1
abbrev pub digit : ℕ → ℕ → ℕ
digit b k = b / 2 ^ k % 2

-- mark m is in a map
unfoldable pub in_map : List ℕ → ℕ → Bool
in_map map m = eqb (digit (get_or map (m / 8) 0) (m % 8)) 1

-- the map with mark m
unfoldable pub with_mark : List ℕ → ℕ → List ℕ
with_mark map m = set map (m / 8) (bit_or (get_or map (m / 8) 0) (2 ^ (m % 8)))

-- the map has the marks placed before section i, and no other
abbrev pub Marked : List Section → ℕ → List ℕ → Type 0
Marked ss i map = (m : ℕ) → m < 8 * length map → in_map map m ≡ placed (take i ss) m

-- a map of so many bytes has room for every mark below n, those that are mark numbers
abbrev pub Covers : ℕ → ℕ → Type 0
Covers n bytes = min n (max_mark + 1) ≤ 8 * bytes

-- where it is answered so, every mark below a limit is in the map
abbrev pub AllIn : List ℕ → ℕ → Bool → Type 0
AllIn map limit answer = answer ≡ true → (m : ℕ) → m < limit → in_map map m ≡ true
