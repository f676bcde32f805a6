-- Beyond document 01: where every reference is direct, a layout that is settled is the least, whatever A and B are; under demand 3's
-- premises on marks and references an A + B of up to 1,022 is enough to decide whether there is one; and the bound on the passes is the
-- one that line 11 meets. Said of a list of sections and a reply in the paper's numbers; the proofs are in proofs/Tight. Assumes nothing.
use Rattle.std.specs.Prelude.{ℕ, zero, suc, ◌+◌, ◌≤◌, ◌<◌, ◌≡◌, ◌↔◌, ◌⊎◌, List}
use Rattle.units.specs.Replies.{too_narrow, unsettled}
use Rattle.units.specs.Reply.{Reply, accepted, refused}
use Rattle.records.specs.Sections.{Section}
use Rattle.layout.specs.Layout.{Layout, in_all}
use Rattle.layout.specs.Conditions.{Never, short_at, unplaced_at, apart_at, delta_at, unsized_pushed_count, unsized_raw_count}
use Rattle.layout.specs.Shortest.{SomeLayout, LeastLayout}
use Rattle.layout.specs.Answer.{Laid, IsLaid, IsTooNarrow}

-- A + B, the unsized references
abbrev pub unsized_count : List Section → ℕ
unsized_count ss = unsized_pushed_count ss + unsized_raw_count ss

-- the passes that so many unsized references take at most: A + B + 2, and 1 where there are none
abbrev pub passes_for : ℕ → ℕ
passes_for zero = 1
passes_for (suc n) = suc n + 2

-- an A + B up to which 1,024 passes always do
abbrev pub most_unsized : ℕ
most_unsized = 1022

-- demand 3's premises on marks and references, for a table of length n
pub record PlainSections (n : ℕ) (ss : List Section) : Type 0 where
  -- 'the table is longer than the largest mark number placed or named'
  pub in_table : Never ss (short_at n ss)
  -- 'every reference be direct'
  pub direct : Never ss (delta_at ss)
  -- 'and its mark placed'
  pub marks_placed : Never ss (unplaced_at ss)
  -- 'no mark have bytes between its placings'
  pub together : Never ss (apart_at ss)

-- a reply that decides whether some layout gives every reference enough bytes, within the passes that A + B allows
pub record Decides (ss : List Section) (reply : Reply Laid) : Type 0 where
  -- a length or 10, so never 11
  pub either : IsLaid reply ⊎ IsTooNarrow reply
  -- 'exactly when some layout gives every reference enough bytes'
  pub exactly : IsLaid reply ↔ SomeLayout ss
  -- 'otherwise the answer is number 10'
  pub otherwise : (SomeLayout ss → ⊥) ↔ IsTooNarrow reply
  -- the pass count, in a refusal too
  pub laid_within : (laid : Laid) → reply ≡ accepted laid → laid.passes ≤ passes_for (unsized_count ss)
  pub narrow_within : (section passes : ℕ) → reply ≡ refused too_narrow section passes → passes ≤ passes_for (unsized_count ss)

-- what a reply and the layout left with it say, whatever A and B are
pub record SaysLeast (ss : List Section) (reply : Reply Laid) (l : Layout) : Type 0 where
  -- a length: the layout is the least, and the length is its length in all
  pub if_laid : (laid : Laid) → reply ≡ accepted laid → LeastLayout ss l × (laid.length ≡ in_all l)
  -- 10: no layout gives enough
  pub if_narrow : (section passes : ℕ) → reply ≡ refused too_narrow section passes → SomeLayout ss → ⊥
  -- 11 says nothing of layouts; it needs an A + B of at least 1,023
  pub if_unsettled : (section passes : ℕ) → reply ≡ refused unsettled section passes → most_unsized < unsized_count ss
