-- Demand 3, said of a list of sections and a table of length n: what the settling answers against every layout that gives enough.
-- Its premise is in Conditions, its proof in proofs/Demand3. Assumes nothing.
use Rattle.std.specs.Prelude.{ℕ, ◌+◌, ◌≤◌, ◌≡◌, true, ◌↔◌, List, map}
use Rattle.records.specs.Sections.{Section}
use Rattle.layout.specs.Layout.{Layout, in_all, GivesEnough}
use Rattle.layout.specs.Passes.{entry, size_by, Settling, settled, narrow_at, unsettled, settle}
use Rattle.layout.specs.Conditions.{placed, pass_bound}

-- the layout of a table, settled or not: its entries as offsets, each section's size by it as width
abbrev pub settled_layout : List ℕ → List Section → Layout
settled_layout table ss = record { offset = entry table; widths = map (size_by (entry table)) ss }

-- 'some layout gives every reference enough bytes'
abbrev pub SomeLayout : List Section → Type 0
SomeLayout ss = (l : Layout) × GivesEnough ss l

-- a layout that gives enough and is the least: 'Every other layout that gives enough, padded ones too, puts each mark at least as late and
-- is at least as long in all.'
pub record LeastLayout (ss : List Section) (l : Layout) : Type 0 where
  pub enough : GivesEnough ss l
  pub least : (other : Layout) → GivesEnough ss other
      → ((m : ℕ) → placed ss m ≡ true → l.offset m ≤ other.offset m) × (in_all l ≤ in_all other)

-- settled
abbrev pub IsSettled : Settling → Type 0
IsSettled answer = (table : List ℕ) × (length : ℕ) × (passes : ℕ) × (answer ≡ settled table length passes)

-- number 10
abbrev pub IsNarrow : Settling → Type 0
IsNarrow answer = (section : ℕ) × (passes : ℕ) × (answer ≡ narrow_at section passes)

-- demand 3
pub record Shortest (n : ℕ) (ss : List Section) : Type 0 where
  -- 'exactly when some layout gives every reference enough bytes'
  pub exactly : IsSettled (settle n ss) ↔ SomeLayout ss
  -- 'otherwise the answer is number 10'
  pub otherwise : (SomeLayout ss → ⊥) ↔ IsNarrow (settle n ss)
  -- the layout that is settled gives enough, and the length is its length in all
  pub enough : (table : List ℕ) (length passes : ℕ) → settle n ss ≡ settled table length passes
      → GivesEnough ss (settled_layout table ss) × (length ≡ in_all (settled_layout table ss))
  -- 'Every other layout that gives enough, padded ones too, puts each mark at least as late and is at least as long in all.'
  pub least : (table : List ℕ) (length passes : ℕ) → settle n ss ≡ settled table length passes
      → (l : Layout) → GivesEnough ss l → ((m : ℕ) → placed ss m ≡ true → entry table m ≤ l.offset m) × (length ≤ in_all l)
  -- 'The pass count returned, in a refusal too, is at most 4 × A + 3 × B + 1'
  pub settled_passes : (table : List ℕ) (length passes : ℕ) → settle n ss ≡ settled table length passes → passes ≤ pass_bound ss + 1
  pub narrow_passes : (section passes : ℕ) → settle n ss ≡ narrow_at section passes → passes ≤ pass_bound ss + 1
  -- so number 11 isn't answered
  pub not_unsettled : settle n ss ≡ unsettled → ⊥
