-- What settling, as defined, answers and leaves: the list's theorems, of an undamaged store's sections; a 6 says nothing. Assumes nothing.
use Prim.Native.Nat.{ℕ}
use native.Mathlib.Omega.{arith}
use mathlib.Core.Path.{◌≡◌, refl, sym, subst}
use Rattle.units.specs.Replies.{damaged}
use Rattle.records.specs.Store.{Store}
use Rattle.records.specs.Damage.{whole_soundness}
use Rattle.records.specs.Sections.{decode}
use Rattle.records.specs.Damage.{Soundness}
use Rattle.records.specs.Damage.{Sound, Damaged}
use Rattle.undamaged.proofs.Soundness.{undamaged_iff}
use Rattle.layout.specs.Tight.{Decides}
use Rattle.layout.proofs.Tight.{least_other, answer_least, answer_decides}
use Rattle.settling.specs.Settle.{Settlement, settling}
use Rattle.settling.specs.TightSettling.{SettlesWithin, SettlesLeast}
use Rattle.settling.proofs.Decoded.{stored_small}
use Rattle.settling.proofs.SettleAnswers.{settles_as}

module _ (w : ℕ) (st : Store) (n : ℕ) where
  -- up to 1,022 unsized references
  pub settling_within : SettlesWithin w st n (settling w n st).reply
  settling_within given =
      let u = given.undamaged in
      let small = stored_small w st ((undamaged_iff w st).0 u) in
      subst (λ (s : Settlement). Decides (decode w st) s.reply) (sym (settles_as w n st Sound u))
      (answer_decides n (decode w st) small given.plain given.few)

  -- whatever their count
  pub settling_least : SettlesLeast w st (settling w n st).reply (settling w n st).table
  settling_least direct = go (whole_soundness w st) refl direct
    where
      go : (s : Soundness) → whole_soundness w st ≡ s → SettlesLeast w st (settling w n st).reply (settling w n st).table
      go (Damaged i) e direct =
          subst (λ (s : Settlement). SettlesLeast w st s.reply s.table) (sym (settles_as w n st (Damaged i) e))
          (λ _. least_other (decode w st) damaged i 0 _ (λ h. omega arith) (λ h. omega arith)) direct
      go Sound e direct =
          let small = stored_small w st ((undamaged_iff w st).0 e) in
          subst (λ (s : Settlement). SettlesLeast w st s.reply s.table) (sym (settles_as w n st Sound e))
          (answer_least n (decode w st) small) direct
