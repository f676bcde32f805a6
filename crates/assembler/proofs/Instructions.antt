-- The written code against the Yellow Paper, for every store: what the theorem over lists says of the result that is left. Assumes nothing.
use Prim.Native.Nat.{ℕ, ◌≤◌, ◌<◌, ◌^◌}
use native.Mathlib.Omega.{arith}
use mathlib.Core.Path.{◌≡◌}
use mathlib.Core.Bool.{false}
use mathlib.Core.List.{List}
use lib.ListN.{length}
use Rattle.records.specs.Store.{Store}
use Rattle.records.specs.Sections.{decode}
use Rattle.slices.specs.Over.{over}
use Rattle.layout.specs.Passes.{entry}
use Rattle.layout.specs.Conditions.{Never, unplaced_at, backward_at}
use Rattle.undamaged.specs.View.{Facts}
use Rattle.assembler.specs.Emission.{code_of}
use Rattle.assembler.specs.Pushes.{ReferencesHere}
use Rattle.layout.proofs.Moves.{Still}
use Rattle.layout.proofs.Rule.{Sizes}
use Rattle.layout.proofs.WidthRule.{width_rule}
use Rattle.layout.proofs.Places.{still_sum, sizes_five}
use Rattle.assembler.proofs.Pushes.{references_here}
use Rattle.assembler.specs.Assemble.{Outcome, is_full, assembly}
use Rattle.assembler.specs.Instructions.{CodePushes}
use Rattle.settling.proofs.Decoded.{stored_small}
use Rattle.assembler.proofs.Laid.{laid}
use Rattle.assembler.proofs.Outcomes.{LaidBy, outcome_cases, fits_law}

-- by a table by which a pass stands still, every reference of the code that stands in a result
pub still_pushes : (w : ℕ) (st : Store) (table : List ℕ) (size : ℕ) → Facts w st → Still (Sizes width_rule) (decode w st) 0 (entry table) size
    → Never (decode w st) (unplaced_at (decode w st)) → Never (decode w st) (backward_at table (decode w st))
    → (result : List ℕ) (position : ℕ) → position ≤ length result
    → ReferencesHere (decode w st) table (over result position (code_of (entry table) (decode w st))) position
still_pushes w st table size f still marks forward result position h =
    let small : size < 2 ^ 32 =
    omega (arith, still_sum (entry table) (decode w st) 0 size still, sizes_five (entry table) (decode w st), stored_small w st f) in
    references_here (decode w st) table size still result position h small marks forward

module _ (w : ℕ) (st : Store) (n : ℕ) (result : List ℕ) (position : ℕ) where
  -- of an outcome
  abbrev Pushes : Outcome → Type 0
  Pushes o = CodePushes w st position o.reply o.table o.result

  -- the code that was written
  code_pushes : (table : List ℕ) (size k : ℕ) → LaidBy w n st table size k → is_full (length result) position size ≡ false
      → ReferencesHere (decode w st) table (over result position (code_of (entry table) (decode w st))) position
  code_pushes table size k e f =
      let l = laid w n st table size k e in
      still_pushes w st table size l.facts l.still l.says.0.1 l.says.2 result position
      (omega (arith, (fits_law (length result) position size).0 f))

  -- whatever is answered
  pushes : Pushes (assembly w st n result position)
  pushes =
      outcome_cases w st n result position Pushes (λ number i k s q h. let z : ◌≡◌ {A = ℕ} 0 1 = cc in absurd (omega arith))
      (λ table size k e f s q h. code_pushes table size k e f)

-- of assembly as it is defined
pub assembly_pushes : (w : ℕ) (st : Store) (n : ℕ) (result : List ℕ) (position : ℕ)
    → CodePushes w st position (assembly w st n result position).reply (assembly w st n result position).table (assembly w st n result position).result
assembly_pushes w st n result position = pushes w st n result position
