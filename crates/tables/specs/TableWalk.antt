-- Private to the tests: what their walks ask and promise, over the decoded sections. No public contract cites it. Assumes nothing.
use Rattle.std.specs.Prelude.{ℕ, ◌-◌, ◌<◌, ◌≡◌, Bool, false, cond, not, ◌&&◌, ◌||◌, List, Option, Some, None, Result, Ok, Err, leb, ltb, eqb, length}
use Rattle.records.specs.Record.{mark_kind, direct_kind}
use Rattle.records.specs.Sections.{Section}
use Rattle.records.specs.declared.record.StoredSection.{StoredSection}
use Rattle.layout.specs.Passes.{entry, size_by}
use Rattle.layout.specs.Conditions.{IsFirst, Never, short_at, backward_at, sum_of}
use Rattle.settling.specs.SectionWalk.{Found}
use Rattle.tables.specs.TableTests.{wrong_at}
use Rattle.tables.specs.MarkMap.{in_map, Marked}
use Rattle.tables.specs.declared.compare.Agreed.{Agreed}

-- no number before i has a property
abbrev pub NoneTo : (ℕ → Bool) → ℕ → Type 0
NoneTo test i = (j : ℕ) → j < i → test j ≡ false

-- the walk stops at section i: 7, 16 or 10
abbrev pub stops_at : List ℕ → List Section → ℕ → Bool
stops_at table ss i = short_at (length table) ss i || wrong_at table ss i

-- what was found, or else section i if it is one
abbrev pub earlier : Option ℕ → ℕ → Bool → Option ℕ
earlier (Some j) i is_one = Some j
earlier None i is_one = cond is_one (Some i) None

-- what the walk answers, and the map that it leaves
abbrev pub ComparedTo : List ℕ → List Section → List ℕ → Result Agreed ℕ → Type 0
ComparedTo table ss map (Ok agreed) =
    Never ss (stops_at table ss) × Marked ss (length ss) map × (agreed.length ≡ sum_of (size_by (entry table)) ss)
    × Found ss (backward_at table ss) agreed.backward
ComparedTo table ss map (Err at) = IsFirst ss (stops_at table ss) at × Marked ss at map

-- 8, 17 or 18, of a section by its words
unfoldable pub unplaced_by : List ℕ → StoredSection → Bool
unplaced_by map x =
    leb direct_kind x.kind && (not (in_map map x.first) || ltb direct_kind x.kind && not (in_map map x.second))

-- a reference, or an Ops or Data section that isn't empty, by its words
unfoldable pub bytes_words : StoredSection → Bool
bytes_words x = not (eqb x.kind mark_kind) && (leb direct_kind x.kind || ltb 0 (x.second - x.first))
