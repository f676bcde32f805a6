-- Beyond document 01, said of a store and slices lent, and of assembly's reply and table: up to 1,022 unsized references it decides whether
-- some layout gives enough, and whatever their count the code that is written has the least layout. The same of settling and then writing.
-- `Decides` and `SaysLeast` are in layout/specs/Tight; the proofs are in proofs/TightAssembly and proofs/Pair. Assumes nothing.
use Rattle.std.specs.Prelude.{ℕ, ◌+◌, ◌*◌, ◌-◌, ◌≤◌, ◌≡◌, List, length}
use Rattle.units.specs.Reply.{Reply}
use Rattle.records.specs.Store.{Store}
use Rattle.records.specs.Sections.{decode}
use Rattle.layout.specs.Conditions.{Never, delta_at, references}
use Rattle.layout.specs.Answer.{Laid}
use Rattle.layout.specs.Tight.{Decides, SaysLeast}
use Rattle.settling.specs.Settle.{settling}
use Rattle.settling.specs.TightSettling.{FewUnsized}
use Rattle.assembler.specs.Emission.{written_layout}
use Rattle.assembler.specs.Pair.{pair_reply}

-- demand 3's premises, with A + B at most 1,022 for its bound on the counts
pub record FewAndRoom (w : ℕ) (st : Store) (n : ℕ) (result : List ℕ) (position : ℕ) : Type 0 where
  pub few : FewUnsized w st n
  -- 'the position isn't past the result's end'
  pub in_result : position ≤ length result
  -- 'and the result from it holds stored bytes + 5 × references'
  pub room : st.stored_bytes + 5 * references (decode w st) ≤ length result - position

-- then: written or 10, within A + B + 2 passes
abbrev pub AssemblesWithin : ℕ → Store → ℕ → List ℕ → ℕ → Reply Laid → Type 0
AssemblesWithin w st n result position reply = FewAndRoom w st n result position → Decides (decode w st) reply

-- where every reference is direct: written, the code has the least layout; 10, there is none
abbrev pub AssemblesLeast : ℕ → Store → Reply Laid → List ℕ → Type 0
AssemblesLeast w st reply table' =
    Never (decode w st) (delta_at (decode w st)) → SaysLeast (decode w st) reply (written_layout table' (decode w st))

-- the same of a write from the table that settling leaves, of the two calls' answer
abbrev pub WritesWithin : ℕ → Store → List ℕ → List ℕ → ℕ → Reply Laid → Type 0
WritesWithin w st table result position reply =
    table ≡ (settling w (length table) st).table
    → AssemblesWithin w st (length table) result position (pair_reply (settling w (length table) st).reply reply)

abbrev pub WritesLeast : ℕ → Store → List ℕ → Reply Laid → Type 0
WritesLeast w st table reply =
    table ≡ (settling w (length table) st).table → AssemblesLeast w st (pair_reply (settling w (length table) st).reply reply) table
