-- Demand 3 over a store and lent slices: what assembly, as defined, answers and leaves. Under the premise it answers what settling does, so
-- only the written code is left to show. Assumes nothing.
use Prim.Native.Nat.{ℕ, ◌+◌, ◌≤◌}
use native.Mathlib.Omega.{arith}
use mathlib.Core.Path.{◌≡◌, refl, sym, ap, ◌∙◌, subst}
use mathlib.Core.List.{List, ◌++◌}
use lib.ListN.{length}
use lib.Seq.{slice, slice_empty}
use Rattle.units.specs.Reply.{Reply, accepted}
use Rattle.records.specs.Store.{Store}
use Rattle.records.specs.Sections.{Section, decode}
use Rattle.slices.specs.Over.{over}
use Rattle.slices.proofs.Over.{slice_over}
use Rattle.layout.specs.Layout.{Layout, in_all}
use Rattle.layout.specs.Passes.{entry}
use Rattle.layout.specs.Answer.{Laid}
use Rattle.layout.specs.Shortest.{LeastLayout}
use Rattle.settling.specs.Settle.{settling}
use Rattle.settling.specs.SettlingShortest.{GivenStore, SettlesShortest}
use Rattle.settling.proofs.SettlingShortest.{settling_demand_3}
use Rattle.assembler.specs.Emission.{code_of, written_layout}
use Rattle.assembler.specs.Assemble.{Outcome, assembly}
use Rattle.assembler.specs.Demand3.{Given, Written, Shortest, Demand3}
use Rattle.assembler.proofs.Lengths.{written_settled}
use Rattle.assembler.proofs.Outcomes.{laid_by}
use Rattle.assembler.proofs.Laid.{laid, room_written, room_answers}

-- bytes that were written are found again
code_found : (result code : List ℕ) (position size : ℕ) → position ≤ length result → length code ≡ size → slice position (position + size) (over result position code) ≡ code
code_found result code position size h e =
    ap (λ (n : ℕ). slice position (position + n) (over result position code)) (sym e)
    ∙ slice_over result position code h position (omega arith)
    ∙ ap (λ (l : List ℕ). l ++ code) (slice_empty position result)

-- the premise's part about store and table
pub given_store : {w : ℕ} {st : Store} {n : ℕ} {result : List ℕ} {position : ℕ} → Given w st n result position → GivenStore w st n
given_store given =
    record {
      undamaged = given.undamaged;
      in_table = given.in_table;
      direct = given.direct;
      marks_placed = given.marks_placed;
      together = given.together;
      few = omega (arith, given.few);
    }

module _ (w : ℕ) (st : Store) (n : ℕ) (result : List ℕ) (position : ℕ) (given : Given w st n result position) where
  -- the sections
  abbrev ss : List Section
  ss = decode w st

  -- what settling keeps
  shortest : SettlesShortest ss n (settling w n st).reply (settling w n st).table
  shortest = settling_demand_3 w st n (given_store given)

  -- the written code
  written_code : (l : Laid) → (settling w n st).reply ≡ accepted l
      → Written ss n result position l.length l.passes (assembly w st n result position).table (assembly w st n result position).result
  written_code l e =
      let table : List ℕ = (settling w n st).table in
      let known = laid w n st table l.length l.passes (laid_by w st n result position l e) in
      let settled = shortest.if_laid l e in
      let same = sym (written_settled table ss) in
      let best : LeastLayout ss (written_layout table ss) = subst (LeastLayout ss) same settled.least in
      subst (λ (o : Outcome). Written ss n result position l.length l.passes o.table o.result)
      (sym (room_written w st n result position given.in_result given.room l e))
      (record {
        defined = settled.defined;
        code = code_found result (code_of (entry table) ss) position l.length given.in_result known.code_long;
        rest = refl;
        enough = best.enough;
        long = subst (λ (x : Layout). l.length ≡ in_all x) same settled.long;
        least = best.least;
        bound = settled.bound;
      })

-- demand 3, of assembly as it is defined
pub demand_3_assembly : (w : ℕ) (st : Store) (n : ℕ) (result : List ℕ) (position : ℕ)
    → Demand3 w st n result position (assembly w st n result position).reply (assembly w st n result position).table (assembly w st n result position).result
demand_3_assembly w st n result position given =
    let settled = shortest w st n result position given in
    subst (λ (r : Reply Laid). Shortest (decode w st) n result position r (assembly w st n result position).table (assembly w st n result position).result)
    (sym (room_answers w st n result position given.in_result given.room))
    (record {
      exactly = (
        λ (size, k, h). settled.exactly.0 (record { length = size; passes = k }, h),
        λ some. let (l, h) = settled.exactly.1 some in (l.length, l.passes, h),
      );
      otherwise = settled.otherwise;
      if_written = λ size k. written_code w st n result position given (record { length = size; passes = k });
      if_narrow = settled.if_narrow;
    })
