-- What assembly, as defined, leaves in the lent table and result. Assumes nothing.
use Prim.Native.Nat.{ℕ, ◌+◌, ◌≤◌}
use native.Mathlib.Omega.{arith}
use mathlib.Core.Path.{◌≡◌, refl, subst}
use mathlib.Core.Bool.{false}
use mathlib.Core.List.{List}
use lib.ListN.{length, take, drop}
use Rattle.units.specs.Reply.{refused}
use Rattle.records.specs.Store.{Store}
use Rattle.records.specs.Sections.{decode}
use Rattle.slices.specs.Over.{over}
use Rattle.slices.proofs.Over.{take_over, drop_over, length_over}
use Rattle.layout.specs.Passes.{entry}
use Rattle.assembler.specs.Emission.{code_of}
use Rattle.layout.proofs.Places.{settled_absent}
use Rattle.assembler.specs.Assemble.{written, Outcome, is_full, assembly}
use Rattle.assembler.specs.Leaves.{LeftRefused, LeftWritten}
use Rattle.assembler.proofs.Laid.{laid}
use Rattle.assembler.proofs.Outcomes.{LaidBy, written_same, outcome_cases, fits_law}

-- a code of so many bytes, written over a result that has room for it
pub over_left : (result code : List ℕ) (position size : ℕ) → position + size ≤ length result → length code ≡ size
    → (length (over result position code) ≡ length result) × (take position (over result position code) ≡ take position result)
    × (drop (position + size) (over result position code) ≡ drop (position + size) result)
over_left result code position size fits long = (
  length_over result position code (omega arith) (omega arith),
  take_over result position code (omega arith),
  subst (λ (k : ℕ). drop (position + k) (over result position code) ≡ drop (position + k) result) long
      (drop_over result position code (omega arith)),
)

module _ (w : ℕ) (st : Store) (n : ℕ) (result : List ℕ) (position : ℕ) where
  -- of an outcome
  abbrev pub Leaves : Outcome → Type 0
  Leaves o =
      ((number i k : ℕ) → o.reply ≡ refused number i k → LeftRefused n result o.table o.result)
      × ((size k : ℕ) → o.reply ≡ written size k → LeftWritten (decode w st) n result position size o.table o.result)

  -- written
  leaves_written : (table : List ℕ) (size k : ℕ) → LaidBy w n st table size k → is_full (length result) position size ≡ false
      → LeftWritten (decode w st) n result position size table (over result position (code_of (entry table) (decode w st)))
  leaves_written table size k e f =
      let l = laid w n st table size k e in
      let q = over_left result (code_of (entry table) (decode w st)) position size ((fits_law (length result) position size).0 f) l.code_long in
      record {
        table_length = l.long;
        unplaced_zero = settled_absent n (decode w st) table size k l.says.0.0 l.settles;
        result_length = q.0;
        before = q.1;
        after = q.2;
      }

  -- what assembly leaves, refused or not
  pub assembly_leaves : Leaves (assembly w st n result position)
  assembly_leaves =
      outcome_cases w st n result position Leaves
      (λ number i k. (λ _ _ _ h. (refl, refl), λ size q h. let z : ◌≡◌ {A = ℕ} 0 1 = cc in absurd (omega arith)))
      (λ table size k e f. (
        λ number i q h. let z : ◌≡◌ {A = ℕ} 0 1 = cc in absurd (omega arith),
        λ size' q h.
            let same : size ≡ size' = (written_same h).0 in
            subst (λ (x : ℕ). LeftWritten (decode w st) n result position x table (over result position (code_of (entry table) (decode w st)))) same (leaves_written table size k e f),
      ))
