-- The contract of `settle`, of a reply and a table that are the defined ones. Assumes nothing.
use Prim.Native.Nat.{ℕ}
use mathlib.Core.Path.{◌≡◌, refl}
use mathlib.Core.List.{List}
use Rattle.units.specs.Reply.{Reply}
use Rattle.records.specs.Store.{Store}
use Rattle.layout.specs.Answer.{Laid}
use Rattle.settling.specs.Settle.{settling}
use Rattle.settling.specs.SettlingShortest.{SettlesDemand3}
use Rattle.settling.specs.TightSettling.{SettlesWithin, SettlesLeast}
use Rattle.settling.proofs.SettlingShortest.{settling_demand_3}
use Rattle.settling.proofs.TightSettling.{settling_within, settling_least}

module _ (w : ℕ) (st : Store) (n : ℕ) where
  -- the contract, of a reply and a table
  abbrev Kept : Reply Laid → List ℕ → Type 0
  Kept reply table' =
      (reply ≡ (settling w n st).reply)
      × ((table' ≡ (settling w n st).table)
      × (SettlesDemand3 w st n reply table'
      × (SettlesWithin w st n reply
      × SettlesLeast w st reply table')))

  -- the defined ones keep it
  pub settles_kept : {reply : Reply Laid} {table' : List ℕ} → reply ≡ (settling w n st).reply → table' ≡ (settling w n st).table → Kept reply table'
  settles_kept said left = rw (said, left) (refl, (refl, (settling_demand_3 w st n, (settling_within w st n, settling_least w st n))))
