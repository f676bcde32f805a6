-- Demand 3, said of a store and slices lent, and of the answer, table and result left. Layouts and 'gives enough' are in
-- layout/specs/Layout, which reads nothing of the passes. Its proof is in proofs/Demand3. Assumes nothing.
use Rattle.std.specs.Prelude.{ℕ, ◌+◌, ◌*◌, ◌-◌, ◌≤◌, ◌≡◌, true, ◌↔◌, List, length}
use Rattle.std.proofs.Math.Seq.{slice}
use Rattle.units.specs.Replies.{too_narrow}
use Rattle.units.specs.Reply.{Reply, refused}
use Rattle.records.specs.Store.{Store}
use Rattle.records.specs.Sections.{Section, decode}
use Rattle.records.specs.Damage.{whole_soundness}
use Rattle.records.specs.Damage.{Sound}
use Rattle.slices.specs.Over.{over}
use Rattle.layout.specs.Layout.{Layout, in_all, GivesEnough}
use Rattle.layout.specs.Passes.{entry, settled, narrow_at, settle}
use Rattle.layout.specs.Conditions.{Never, placed, short_at, unplaced_at, apart_at, delta_at, references, pass_bound}
use Rattle.layout.specs.Shortest.{SomeLayout}
use Rattle.assembler.specs.Emission.{code_of, written_layout}
use Rattle.layout.specs.Answer.{Laid}
use Rattle.assembler.specs.Assemble.{written}

-- the premise: a store, a table of length n, a result and a position
pub record Given (w : ℕ) (st : Store) (n : ℕ) (result : List ℕ) (position : ℕ) : Type 0 where
  -- 'any assembly of an undamaged store, however that store came about'
  pub undamaged : whole_soundness w st ≡ Sound
  -- 'the table is longer than the largest mark number placed or named'
  pub in_table : Never (decode w st) (short_at n (decode w st))
  -- 'the position isn't past the result's end'
  pub in_result : position ≤ length result
  -- 'and the result from it holds stored bytes + 5 × references'
  pub room : st.stored_bytes + 5 * references (decode w st) ≤ length result - position
  -- 'every reference be direct'
  pub direct : Never (decode w st) (delta_at (decode w st))
  -- 'and its mark placed'
  pub marks_placed : Never (decode w st) (unplaced_at (decode w st))
  -- 'no mark have bytes between its placings'
  pub together : Never (decode w st) (apart_at (decode w st))
  -- '4 × A + 3 × B be at most 1,023'
  pub few : pass_bound (decode w st) ≤ 1023

-- what holds where code is written: the length and passes answered, the table and result left
pub record Written (ss : List Section) (n : ℕ) (result : List ℕ) (position size passes : ℕ) (table' result' : List ℕ) : Type 0 where
  -- 'it [the pass count] .. and the .. offsets .. are those that 01's modules 3 and 4 define'
  pub defined : settle n ss ≡ settled table' size passes
  -- 'and the code': the bytes written for each section, in a row
  pub code : slice position (position + size) result' ≡ code_of (entry table') ss
  -- the rest of the result is as it was
  pub rest : result' ≡ over result position (code_of (entry table') ss)
  -- 'The layout of the written code, its marks where the offset table has them, is itself one that gives enough.'
  pub enough : GivesEnough ss (written_layout table' ss)
  -- 'the length answered is its length in all'
  pub long : size ≡ in_all (written_layout table' ss)
  -- 'Every other layout that gives enough, padded ones too, puts each mark at least as late and is at least as long in all.'
  pub least : (l : Layout) → GivesEnough ss l
      → ((m : ℕ) → placed ss m ≡ true → entry table' m ≤ l.offset m) × (in_all (written_layout table' ss) ≤ in_all l)
  -- 'The pass count returned .. is at most 4 × A + 3 × B + 1'
  pub bound : passes ≤ pass_bound ss + 1

-- code is written
abbrev pub IsWritten : Reply Laid → Type 0
IsWritten reply = (size : ℕ) × (passes : ℕ) × (reply ≡ written size passes)

-- number 10
abbrev pub IsTooNarrow : Reply Laid → Type 0
IsTooNarrow reply = (section : ℕ) × (passes : ℕ) × (reply ≡ refused too_narrow section passes)

-- demand 3, over the sections of the store
pub record Shortest (ss : List Section) (n : ℕ) (result : List ℕ) (position : ℕ) (reply : Reply Laid) (table' result' : List ℕ)
    : Type 0 where
  -- 'code is written exactly when some layout gives every reference enough bytes'
  pub exactly : IsWritten reply ↔ SomeLayout ss
  -- 'otherwise the answer is number 10'
  pub otherwise : (SomeLayout ss → ⊥) ↔ IsTooNarrow reply
  pub if_written : (size passes : ℕ) → reply ≡ written size passes → Written ss n result position size passes table' result'
  -- the pass count 'in a refusal too', and it and the section of a 10 are the defined ones
  pub if_narrow : (section passes : ℕ) → reply ≡ refused too_narrow section passes
      → (settle n ss ≡ narrow_at section passes) × (passes ≤ pass_bound ss + 1)

-- the whole demand
abbrev pub Demand3 : ℕ → Store → ℕ → List ℕ → ℕ → Reply Laid → List ℕ → List ℕ → Type 0
Demand3 w st n result position reply table' result' =
    Given w st n result position → Shortest (decode w st) n result position reply table' result'
