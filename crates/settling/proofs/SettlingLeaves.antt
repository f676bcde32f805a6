-- What settling, as defined, leaves in the lent table. Assumes nothing.
use Prim.Native.Nat.{ℕ}
use native.Mathlib.Omega.{arith}
use mathlib.Core.Path.{◌≡◌, refl}
use lib.ListN.{replicate}
use Rattle.units.specs.Reply.{accepted, refused}
use Rattle.records.specs.Store.{Store}
use Rattle.records.specs.Damage.{whole_soundness}
use Rattle.records.specs.Sections.{decode}
use Rattle.records.specs.Damage.{Soundness}
use Rattle.records.specs.Damage.{Sound, Damaged}
use Rattle.layout.specs.Answer.{Laid, Answer, laid_out, no_layout, answer}
use Rattle.layout.proofs.Places.{settled_still, settled_absent}
use Rattle.settling.specs.Settle.{settlement, settling}
use Rattle.settling.specs.SettlingAnswers as answers
use Rattle.settling.specs.SettlingLeaves.{LeftLaid, LeftBySettling}
use Rattle.settling.proofs.SettlingLaw.{settling_law, laid_settled}

module _ (w n : ℕ) (st : Store) where
  -- refused: all 0
  pub refused_table : (number i k : ℕ) → (settling w n st).reply ≡ refused number i k → (settling w n st).table ≡ replicate n 0
  unfolding settling
  refused_table number i k e = go (whole_soundness w st) (answer n (decode w st)) e
    where
      go : (s : Soundness) (a : Answer) → (settlement n s a).reply ≡ refused number i k → (settlement n s a).table ≡ replicate n 0
      go (Damaged j) a f = refl
      go Sound (no_layout r) f = refl
      go Sound (laid_out t l p) f = let z : ◌≡◌ {A = ℕ} 0 1 = cc in absurd (omega arith)

  -- laid out: as long as lent, and 0 where no mark is placed
  laid_table : (laid : Laid) → (settling w n st).reply ≡ accepted laid → LeftLaid (decode w st) n (settling w n st).table
  laid_table laid e =
      let (t, u, says) = (settling_law w n st (answers.laid_out laid.length laid.passes)).0 e in
      let settles = laid_settled w n st laid e in
      record {
        table_length = (settled_still n (decode w st) _ _ _ says.0.0 settles).0;
        unplaced_zero = settled_absent n (decode w st) _ _ _ says.0.0 settles;
      }

  -- refused or not
  pub settling_leaves : LeftBySettling (decode w st) n (settling w n st).reply (settling w n st).table
  settling_leaves = record { if_refused = refused_table; if_laid = laid_table }
