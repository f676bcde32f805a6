-- The bytes of each section in the written code, for every store. Assumes nothing.
use Prim.Native.Nat.{ℕ, ◌+◌, ◌≤◌, ◌<◌}
use native.Mathlib.Omega.{arith}
use mathlib.Core.Path.{◌≡◌, sym, ◌∙◌, ap, subst}
use mathlib.Core.List.{List, ◌++◌, append_assoc}
use lib.ListN.{length, length-append}
use Rattle.records.specs.Store.{Store}
use Rattle.records.specs.Sections.{Section, ops, bytes, reference, decode}
use Rattle.slices.specs.Over.{over}
use Rattle.layout.specs.Passes.{entry}
use Rattle.layout.specs.Conditions.{section_at}
use Rattle.assembler.specs.Emission.{section_bytes, code_of}
use Rattle.assembler.specs.Pushes.{place_of}
use Rattle.assembler.specs.Assemble.{written, Outcome, assembly}
use Rattle.assembler.specs.Copies.{StandsAt, CopiesHere, CodeCopies}
use Rattle.assembler.proofs.Outcomes.{written_same, outcome_cases, fits_law}
use Rattle.assembler.proofs.Laid.{laid}
use Rattle.assembler.proofs.Pushes.{part_stands}

-- a part of bytes that stand in a code stands behind what is before it in them
pub stands_part : (code : List ℕ) (at : ℕ) (x y z : List ℕ) → StandsAt code at (x ++ (y ++ z)) → StandsAt code (at + length x) y
stands_part code at x y z (before, after, e, l) = (
  before ++ x,
  z ++ after,
  e
      ∙ ap (λ (s : List ℕ). before ++ s) (append_assoc x (y ++ z) after ∙ ap (λ (s : List ℕ). x ++ s) (append_assoc y z after))
      ∙ sym (append_assoc before x (y ++ (z ++ after))),
  length-append before x ∙ ap (λ (k : ℕ). k + length x) l,
)

module _ (ss : List Section) (table old : List ℕ) (position : ℕ) (h : position ≤ length old) where
  -- the bytes of section i stand in a result that holds the code from a position on
  section_stands : (i : ℕ) (s : Section) → i < length ss → section_at ss i ≡ s
      → StandsAt (over old position (code_of (entry table) ss)) (position + place_of table ss i) (section_bytes (entry table) s)
  section_stands i s l is =
      let q = part_stands ss table old position i h l in
      subst (λ (x : Section). StandsAt (over old position (code_of (entry table) ss)) (position + place_of table ss i) (section_bytes (entry table) x)) is
      (q.0, q.1, q.2, q.3)

  -- so those of Ops, Data and references
  pub copies_here : CopiesHere ss table (over old position (code_of (entry table) ss)) position
  copies_here =
      record {
        op_bytes = λ i bs l is. section_stands i (ops bs) l is;
        data_bytes = λ i bs l is. section_stands i (bytes bs) l is;
        ref_bytes = λ i r l is. section_stands i (reference r) l is;
      }

-- of assembly as it is defined
pub assembly_copies : (w : ℕ) (st : Store) (n : ℕ) (result : List ℕ) (position : ℕ)
    → CodeCopies w st position (assembly w st n result position).reply (assembly w st n result position).table (assembly w st n result position).result
assembly_copies w st n result position =
    outcome_cases w st n result position (λ (o : Outcome). CodeCopies w st position o.reply o.table o.result)
    (λ number i k s q h. let z : ◌≡◌ {A = ℕ} 0 1 = cc in absurd (omega arith))
    (λ table size k e f s q h. copies_here (decode w st) table result position (omega (arith, (fits_law (length result) position size).0 f)))

-- the length answered is the code's, by the table that is left
pub assembly_length : (w : ℕ) (st : Store) (n : ℕ) (result : List ℕ) (position size passes : ℕ)
    → (assembly w st n result position).reply ≡ written size passes
    → length (code_of (entry (assembly w st n result position).table) (decode w st)) ≡ size
assembly_length w st n result position =
    outcome_cases w st n result position Long
    (λ number i k s q h. let z : ◌≡◌ {A = ℕ} 0 1 = cc in absurd (omega arith))
    (λ table size k e f s q h. (laid w n st table size k e).code_long ∙ (written_same h).0)
  where
    Long : Outcome → Type 0
    Long o = (size passes : ℕ) → o.reply ≡ written size passes → length (code_of (entry o.table) (decode w st)) ≡ size
