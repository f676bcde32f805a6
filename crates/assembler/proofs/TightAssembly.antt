-- What assembly, as defined, answers and leaves: what settling does, as the code fits under the premise and a 13 says nothing of layouts.
-- Assumes nothing.
use Prim.Native.Nat.{ℕ}
use native.Mathlib.Omega.{arith}
use mathlib.Core.Path.{◌≡◌, refl, sym, ap, ◌∙◌, subst}
use mathlib.Core.Bool.{Bool, true, false}
use mathlib.Core.List.{List}
use lib.ListN.{length}
use Rattle.units.specs.Replies.{result_full}
use Rattle.units.specs.Reply.{Reply, accepted, refused}
use Rattle.records.specs.Store.{Store}
use Rattle.records.specs.Sections.{decode}
use Rattle.layout.specs.Shortest.{settled_layout}
use Rattle.layout.specs.Answer.{Laid}
use Rattle.layout.specs.Tight.{Decides, SaysLeast}
use Rattle.layout.proofs.Tight.{least_refused, least_other}
use Rattle.settling.specs.Settle.{settling}
use Rattle.settling.proofs.TightSettling.{settling_within, settling_least}
use Rattle.settling.proofs.SettlingShortest.{given_few}
use Rattle.assembler.specs.Emission.{written_layout}
use Rattle.assembler.specs.Assemble.{Outcome, is_full, assembly}
use Rattle.assembler.specs.Demand3.{Given}
use Rattle.assembler.specs.TightAssembly.{FewAndRoom, AssemblesWithin, AssemblesLeast}
use Rattle.assembler.proofs.Lengths.{written_settled}
use Rattle.assembler.proofs.Outcomes.{laid_by, outcome_refused, outcome_full, outcome_written}
use Rattle.assembler.proofs.Laid.{room_answers}
use Rattle.assembler.proofs.Demand3.{given_store}

module _ (w : ℕ) (st : Store) (n : ℕ) (result : List ℕ) (position : ℕ) where
  -- it has all of demand 3's stores
  pub demand_3_few : Given w st n result position → FewAndRoom w st n result position
  demand_3_few given = record { few = given_few w st n (given_store given); in_result = given.in_result; room = given.room }

  -- under the premise it answers what settling does, as the code fits
  pub assembly_within : AssemblesWithin w st n result position (assembly w st n result position).reply
  assembly_within given =
      subst (Decides (decode w st)) (sym (room_answers w st n result position given.in_result given.room)) (settling_within w st n given.few)

  -- what is to be shown of an outcome
  abbrev Least : Outcome → Type 0
  Least o = SaysLeast (decode w st) o.reply (written_layout o.table (decode w st))

  -- whatever the count of unsized references
  pub assembly_least : AssemblesLeast w st (assembly w st n result position).reply (assembly w st n result position).table
  assembly_least direct = go (settling w n st).reply refl
    where
      settled : SaysLeast (decode w st) (settling w n st).reply (settled_layout (settling w n st).table (decode w st))
      settled = settling_least w st n direct

      full : (l : Laid) → (settling w n st).reply ≡ accepted l → (b : Bool) → is_full (length result) position l.length ≡ b
          → Least (assembly w st n result position)
      full l e true f =
          subst Least (sym (outcome_full w st n result position (settling w n st).table l.length l.passes (laid_by w st n result position l e) f))
          (least_other (decode w st) result_full 0 l.passes _ (λ h. omega arith) (λ h. omega arith))
      full l e false f =
          let table : List ℕ = (settling w n st).table in
          subst Least (sym (outcome_written w st n result position table l.length l.passes (laid_by w st n result position l e) f))
          (subst (SaysLeast (decode w st) (accepted l)) (sym (written_settled table (decode w st)))
          (subst (λ (r : Reply Laid). SaysLeast (decode w st) r (settled_layout table (decode w st))) e settled))

      go : (r : Reply Laid) → (settling w n st).reply ≡ r → Least (assembly w st n result position)
      go (refused number i k) e =
          subst Least (sym (outcome_refused w st n result position number i k e))
          (least_refused (decode w st) number i k _
          (λ h. settled.if_narrow i k (e ∙ ap (λ (x : ℕ). refused x i k) h))
          (λ h. settled.if_unsettled i k (e ∙ ap (λ (x : ℕ). refused x i k) h)))
      go (accepted l) e = full l e (is_full (length result) position l.length) refl
