-- Demand 3 over a store and a table of length n: what settling, as defined, answers and leaves. Whether there is a layout is the tight
-- bound's `settling_within`, that it is the least `settling_least`; the passes are the list's `demand_3`. Assumes nothing.
use Prim.Native.Nat.{ℕ}
use native.Mathlib.Omega.{arith}
use Rattle.records.specs.Store.{Store}
use Rattle.records.specs.Sections.{decode}
use Rattle.undamaged.proofs.Soundness.{undamaged_iff}
use Rattle.layout.specs.Conditions.{Premise}
use Rattle.layout.proofs.Demand3.{demand_3}
use Rattle.settling.specs.Settle.{settling}
use Rattle.settling.specs.SettlingShortest.{GivenStore, SettlesDemand3}
use Rattle.settling.specs.TightSettling.{FewUnsized}
use Rattle.settling.proofs.Decoded.{stored_small}
use Rattle.settling.proofs.SettlingLaw.{laid_settled, narrow_settled}
use Rattle.settling.proofs.TightSettling.{settling_within, settling_least}

module _ (w : ℕ) (st : Store) (n : ℕ) where
  -- the premise over the list
  premise : GivenStore w st n → Premise n (decode w st)
  premise given =
      record {
        in_table = given.in_table;
        direct = given.direct;
        marks_placed = given.marks_placed;
        together = given.together;
        few = omega (arith, given.few);
        small = stored_small w st ((undamaged_iff w st).0 given.undamaged);
      }

  -- 4 × A + 3 × B at most 1,023: A + B is at most 1,022
  pub given_few : GivenStore w st n → FewUnsized w st n
  given_few given =
      record {
        undamaged = given.undamaged;
        plain = record { in_table = given.in_table; direct = given.direct; marks_placed = given.marks_placed; together = given.together };
        few = omega (arith, given.few);
      }

  -- demand 3, of settling as it is defined
  pub settling_demand_3 : SettlesDemand3 w st n (settling w n st).reply (settling w n st).table
  settling_demand_3 given =
      let shortest = demand_3 n (decode w st) (premise given) in
      let decides = settling_within w st n (given_few given) in
      let least = settling_least w st n given.direct in
      record {
        exactly = decides.exactly;
        otherwise = decides.otherwise;
        if_laid = λ laid h.
            let e = laid_settled w n st laid h in
            let q = least.if_laid laid h in
            record { defined = e; least = q.0; long = q.1; bound = omega (arith, shortest.settled_passes _ _ _ e) };
        if_narrow = λ i k h. let e = narrow_settled w n st i k h in (e, omega (arith, shortest.narrow_passes i k e));
      }
