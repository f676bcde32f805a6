-- Demand 3 of settling, said of a store and a table of length n, and of the answer and the table left (document 02, request 3: 'with
-- settling's table and pass count'). Layouts and 'gives enough' are in layout/specs/Layout, which reads nothing of the passes. Its proof is
-- in proofs/SettlingShortest. Assumes nothing.
use Rattle.std.specs.Prelude.{ℕ, ◌+◌, ◌≤◌, ◌≡◌, ◌↔◌, List}
use Rattle.units.specs.Replies.{too_narrow}
use Rattle.units.specs.Reply.{Reply, accepted, refused}
use Rattle.records.specs.Store.{Store}
use Rattle.records.specs.Sections.{Section, decode}
use Rattle.records.specs.Damage.{whole_soundness}
use Rattle.records.specs.Damage.{Sound}
use Rattle.layout.specs.Layout.{in_all}
use Rattle.layout.specs.Passes.{settled, narrow_at, settle}
use Rattle.layout.specs.Conditions.{Never, short_at, unplaced_at, apart_at, delta_at, pass_bound}
use Rattle.layout.specs.Shortest.{settled_layout, SomeLayout, LeastLayout}
use Rattle.layout.specs.Answer.{Laid, IsLaid, IsTooNarrow}

-- the premise, its parts about store and table
pub record GivenStore (w : ℕ) (st : Store) (n : ℕ) : Type 0 where
  -- 'an undamaged store, however that store came about'
  pub undamaged : whole_soundness w st ≡ Sound
  -- 'the table is longer than the largest mark number placed or named'
  pub in_table : Never (decode w st) (short_at n (decode w st))
  -- 'every reference be direct'
  pub direct : Never (decode w st) (delta_at (decode w st))
  -- 'and its mark placed'
  pub marks_placed : Never (decode w st) (unplaced_at (decode w st))
  -- 'no mark have bytes between its placings'
  pub together : Never (decode w st) (apart_at (decode w st))
  -- '4 × A + 3 × B be at most 1,023'
  pub few : pass_bound (decode w st) ≤ 1023

-- what holds where it is settled: the length and passes answered, the table left
pub record SettledShortest (ss : List Section) (n : ℕ) (laid : Laid) (table' : List ℕ) : Type 0 where
  -- the offsets, the length and the pass count are those that document 01, module 3, defines
  pub defined : settle n ss ≡ settled table' laid.length laid.passes
  -- the table's layout gives enough, and 'every other layout that gives enough, padded ones too, puts each mark at least as late and is at
  -- least as long in all'
  pub least : LeastLayout ss (settled_layout table' ss)
  -- 'the length answered is its length in all'
  pub long : laid.length ≡ in_all (settled_layout table' ss)
  -- 'The pass count returned .. is at most 4 × A + 3 × B + 1'
  pub bound : laid.passes ≤ pass_bound ss + 1

-- demand 3, over the sections of the store
pub record SettlesShortest (ss : List Section) (n : ℕ) (reply : Reply Laid) (table' : List ℕ) : Type 0 where
  -- settled 'exactly when some layout gives every reference enough bytes'
  pub exactly : IsLaid reply ↔ SomeLayout ss
  -- 'otherwise the answer is number 10'
  pub otherwise : (SomeLayout ss → ⊥) ↔ IsTooNarrow reply
  pub if_laid : (laid : Laid) → reply ≡ accepted laid → SettledShortest ss n laid table'
  -- the pass count 'in a refusal too', and it and the section of a 10 are the defined ones
  pub if_narrow : (section passes : ℕ) → reply ≡ refused too_narrow section passes
      → (settle n ss ≡ narrow_at section passes) × (passes ≤ pass_bound ss + 1)

-- the whole demand
abbrev pub SettlesDemand3 : ℕ → Store → ℕ → Reply Laid → List ℕ → Type 0
SettlesDemand3 w st n reply table' = GivenStore w st n → SettlesShortest (decode w st) n reply table'
