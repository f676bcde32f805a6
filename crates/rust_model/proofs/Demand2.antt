-- Demand 2, proved, and what stands beside it. Assumes nothing.
use mathlib.Core.List.{List}
use Prim.Native.Nat.{ℕ}
use Rattle.calls.specs.Calls.{Call}
use Rattle.rust_model.specs.Run.{Build}
use Rattle.rust_model.specs.Building.{Assembler}
use Rattle.rust_model.specs.Demand2.{Builds, built, Demand2, SameAcceptance, CodeTogether}
use Rattle.rust_model.proofs.Building.{calls_same, calls_stored}
use Rattle.rust_model.proofs.Assembly.{assembly_same, sums_small}
use Rattle.rust_model.proofs.PlacedApart.{code_together}
use Rattle.rust_model.proofs.Listing.{listing_same}

pub demand_2 : (build : Build) (bs words : List ℕ) (cs : List Call) (a : Assembler) → Builds build bs words cs a → Demand2 build bs words cs a
demand_2 build bs words cs a given =
    let same = calls_same build bs words cs a given in
    record {
      store = same.0;
      assembly = λ lent premises reserve promise hint before result position.
          assembly_same build a (built bs words cs) same.1 same.2 same.0.decoded lent premises reserve promise hint before result position;
      listing = listing_same a (built bs words cs) same.1 same.2 same.0.decoded;
    }

pub same_acceptance : (build : Build) (bs words : List ℕ) (cs : List Call) → SameAcceptance build bs words cs
same_acceptance build bs words cs = (λ given. (calls_same build bs words cs given.0 given.1).0.accepted, calls_stored build bs words cs)

pub code_has_none_apart : (build : Build) (bs words : List ℕ) (cs : List Call) (a : Assembler) → Builds build bs words cs a → CodeTogether build a
code_has_none_apart build bs words cs a given =
    let same = calls_same build bs words cs a given in
    code_together build a same.1 (sums_small a (built bs words cs) same.2 same.0.decoded)
