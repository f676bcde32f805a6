-- Demand 3 over a list of sections and a table of length n. Nothing else stands here: the premise is in specs/Conditions, the statement
-- in specs/Shortest. Assumes nothing.
use Prim.Native.Nat.{ℕ}
use mathlib.Core.List.{List}
use Rattle.records.specs.Sections.{Section}
use Rattle.layout.specs.Conditions.{Premise}
use Rattle.layout.specs.Shortest.{Shortest}
use Rattle.layout.specs.Tight.{PlainSections}
use Rattle.layout.proofs.Premises.{ready}
use Rattle.layout.proofs.Settles.{settle_shortest}

-- the premise's part on marks and references
plain : {n : ℕ} {ss : List Section} → Premise n ss → PlainSections n ss
plain given = record { in_table = given.in_table; direct = given.direct; marks_placed = given.marks_placed; together = given.together }

-- under the premise of demand 3, the settling gives the shortest layout
pub demand_3 : (n : ℕ) (ss : List Section) → Premise n ss → Shortest n ss
demand_3 n ss given = settle_shortest n ss (ready (plain given) given.small) given.few
