-- Settling and then writing the untouched store is assembly: the table of a settling that is laid out is accepted with its length, the
-- zeros of a refused one aren't. So demand 3 holds of the pair, and what goes beyond it does. Assumes nothing.
use Prim.Native.Nat.{ℕ}
use native.Mathlib.Omega.{arith}
use mathlib.Core.Path.{◌≡◌, refl, sym, ap, ◌∙◌, subst}
use mathlib.Core.Bool.{Bool, true, false}
use mathlib.Core.Logic.{inl, inr}
use mathlib.Core.List.{List}
use lib.ListN.{length, replicate}
use Rattle.units.specs.Reply.{Reply, accepted, refused}
use Rattle.records.specs.Store.{Store}
use Rattle.records.specs.Sections.{decode}
use Rattle.records.specs.Damage.{Sound}
use Rattle.layout.specs.Answer.{Laid}
use Rattle.layout.specs.Tight.{Decides}
use Rattle.settling.specs.Settle.{Settlement, settlement, settling}
use Rattle.settling.proofs.SettlingLaw.{sound_settles}
use Rattle.settling.proofs.SettlingLeaves.{refused_table}
use Rattle.tables.specs.TableTests.{accepts, table_reply, table_test}
use Rattle.tables.proofs.TableLaws.{table_law, laid_accepts, zero_accepts, sound_test, accepted_said}
use Rattle.assembler.specs.Assemble.{written, Outcome, is_full, assembly}
use Rattle.assembler.specs.Demand3.{Given, Demand3}
use Rattle.assembler.specs.Write.{WriteOutcome, write_by}
use Rattle.assembler.specs.Pair.{pair_reply, pair_table, PairIsAssembly, WritesDemand3}
use Rattle.assembler.specs.TightAssembly.{AssemblesWithin, AssemblesLeast, WritesWithin, WritesLeast}
use Rattle.assembler.proofs.Outcomes.{LaidBy, laid_by, outcome_refused, outcome_full, outcome_written}
use Rattle.assembler.proofs.Laid.{laid, room_written}
use Rattle.assembler.proofs.Demand3.{demand_3_assembly}
use Rattle.assembler.proofs.TightAssembly.{assembly_within, assembly_least}
use Rattle.assembler.proofs.WriteLaws.{write_refused, write_full, write_written, write_passes}

-- where the pair is written its table is settling's
pair_table_lem : (settled wrote : Reply Laid) (n : ℕ) (table : List ℕ) (l : Laid) → pair_reply settled wrote ≡ accepted l → pair_table n table wrote ≡ table
pair_table_lem settled (accepted l') n table l h = refl
pair_table_lem (accepted l') (refused number i k) n table l h = let z : ◌≡◌ {A = ℕ} 0 1 = cc in absurd (omega arith)
pair_table_lem (refused number i k) (refused number' i' k') n table l h = let z : ◌≡◌ {A = ℕ} 0 1 = cc in absurd (omega arith)

module _ (w : ℕ) (st : Store) (n : ℕ) where
  -- the table that the settling leaves
  abbrev table : List ℕ
  table = (settling w n st).table

  -- laid out, it is accepted with the length
  pub settled_accepted : (l : Laid) → (settling w n st).reply ≡ accepted l → table_test w st table ≡ written l.length 0
  settled_accepted l e =
      let known = laid w n st table l.length l.passes (ap (λ (r : Reply Laid). record { reply = r; table = table }) e) in
      sound_test w st table known.undamaged ∙ ap table_reply (laid_accepts n (decode w st) table l.length l.passes known.says)

  -- refused, it isn't
  pub zeros_refused : (number i k : ℕ) → (settling w n st).reply ≡ refused number i k → (l : Laid) → table_test w st table ≡ accepted l → ⊥
  zeros_refused number i k e l t =
      let q = accepted_said w st table l t in
      let zeros : table ≡ replicate n 0 = refused_table w n st number i k e in
      let same = rw zeros at ((table_law table (decode w st) (accepts l.length)).1 q.1) in
      let is = sound_settles w n st q.0 ∙ ap (settlement n Sound) (zero_accepts n (decode w st) l.length same) in
      let both : refused number i k ≡ written l.length 1 = sym e ∙ ap (λ (s : Settlement). s.reply) is in
      let z : ◌≡◌ {A = ℕ} 0 1 = cc in
      omega arith

  module _ (result : List ℕ) (position : ℕ) where
    -- the pair after a refused settling
    pair_refused : (number i k : ℕ) → (settling w n st).reply ≡ refused number i k → PairIsAssembly w st n result position
    pair_refused number i k e = go (table_test w st table) refl
      where
        go : (r : Reply Laid) → table_test w st table ≡ r → PairIsAssembly w st n result position
        go (accepted l) t = absurd (zeros_refused number i k e l t)
        go (refused number' i' k') t =
            let a = outcome_refused w st n result position number i k e in
            let o = write_refused w st table result position number' i' k' t in
            let none : k' ≡ 0 = (write_passes w st table result position).1 number' i' k' (ap (λ (x : WriteOutcome). x.reply) o) in
            record {
              reply = rw (a, e);
              table = rw (a, o);
              result = rw (a, o);
              if_laid = λ l h. let z : ◌≡◌ {A = ℕ} 0 1 = cc in absurd (omega arith);
              if_refused = λ _ _ _ _. (number', i', rw o (ap (refused number' i') none));
            }

    -- the pair after one that is laid out
    module _ (l : Laid) (e : (settling w n st).reply ≡ accepted l) where
      -- the same of the settlement
      by : LaidBy w n st table l.length l.passes
      by = laid_by w st n result position l e

      -- 13
      pair_full : is_full (length result) position l.length ≡ true → PairIsAssembly w st n result position
      pair_full f =
          let a = outcome_full w st n result position table l.length l.passes by f in
          let o = write_full w st table result position _ (settled_accepted l e) f in
          record {
            reply = rw (a, e, o);
            table = rw (a, o);
            result = rw (a, o);
            if_laid = λ _ _. inr (rw o);
            if_refused = λ number i k h. let z : ◌≡◌ {A = ℕ} 0 1 = cc in absurd (omega arith);
          }

      -- written
      pair_written : is_full (length result) position l.length ≡ false → PairIsAssembly w st n result position
      pair_written f =
          let a = outcome_written w st n result position table l.length l.passes by f in
          let o = write_written w st table result position _ (settled_accepted l e) f in
          record {
            reply = rw (a, e, o);
            table = rw (a, o);
            result = rw (a, o);
            if_laid = λ l' h. let same : l ≡ l' = cc in inl (rw (o, same));
            if_refused = λ number i k h. let z : ◌≡◌ {A = ℕ} 0 1 = cc in absurd (omega arith);
          }

    -- settling and then writing is assembly
    pub pair_is_assembly : PairIsAssembly w st n result position
    pair_is_assembly = go (settling w n st).reply refl
      where
        full : (l : Laid) → (settling w n st).reply ≡ accepted l → (b : Bool) → is_full (length result) position l.length ≡ b
            → PairIsAssembly w st n result position
        full l e true f = pair_full l e f
        full l e false f = pair_written l e f

        go : (r : Reply Laid) → (settling w n st).reply ≡ r → PairIsAssembly w st n result position
        go (refused number i k) e = pair_refused number i k e
        go (accepted l) e = full l e (is_full (length result) position l.length) refl

    -- where the code has room, the table left by assembly is the settling's
    given_table : Given w st n result position → (assembly w st n result position).table ≡ table
    given_table given = go (settling w n st).reply refl
      where
        go : (r : Reply Laid) → (settling w n st).reply ≡ r → (assembly w st n result position).table ≡ table
        go (refused number i k) e =
            ap (λ (o : Outcome). o.table) (outcome_refused w st n result position number i k e) ∙ sym (refused_table w n st number i k e)
        go (accepted l) e = ap (λ (o : Outcome). o.table) (room_written w st n result position given.in_result given.room l e)

    -- demand 3 of the pair
    pub demand_3_pair : Demand3 w st n result position (pair_reply (settling w n st).reply (write_by w st table result position).reply)
        (settling w n st).table (write_by w st table result position).result
    demand_3_pair given =
        let p = pair_is_assembly in
        rw (p.reply, given_table given, p.result) at (demand_3_assembly w st n result position given)

    -- up to 1,022 unsized references the pair decides whether some layout gives enough
    pub pair_within : AssemblesWithin w st n result position (pair_reply (settling w n st).reply (write_by w st table result position).reply)
    pair_within given = subst (Decides (decode w st)) pair_is_assembly.reply (assembly_within w st n result position given)

    -- whatever their count, what it writes is the least
    pub pair_least : AssemblesLeast w st (pair_reply (settling w n st).reply (write_by w st table result position).reply) (settling w n st).table
    pair_least direct =
        let p = pair_is_assembly in
        let wrote : Reply Laid = (write_by w st table result position).reply in
        let says = rw (p.reply, p.table) at (assembly_least w st n result position direct) in
        record {
          if_laid = λ l h. rw (pair_table_lem (settling w n st).reply wrote n table l h) at (says.if_laid l h);
          if_narrow = says.if_narrow;
          if_unsettled = says.if_unsettled;
        }

-- demand 3 of a write from settling's table
pub writes_demand_3 : (w : ℕ) (st : Store) (table result : List ℕ) (position : ℕ)
    → WritesDemand3 w st table result position (write_by w st table result position).reply (write_by w st table result position).result
writes_demand_3 w st table result position same =
    subst
    (λ (x : List ℕ). Demand3 w st (length table) result position
    (pair_reply (settling w (length table) st).reply (write_by w st x result position).reply) x (write_by w st x result position).result)
    (sym same) (demand_3_pair w st (length table) result position)

-- the same of what goes beyond it
pub writes_within : (w : ℕ) (st : Store) (table result : List ℕ) (position : ℕ)
    → WritesWithin w st table result position (write_by w st table result position).reply
writes_within w st table result position same =
    subst
    (λ (x : List ℕ). AssemblesWithin w st (length table) result position
    (pair_reply (settling w (length table) st).reply (write_by w st x result position).reply))
    (sym same) (pair_within w st (length table) result position)

pub writes_least : (w : ℕ) (st : Store) (table result : List ℕ) (position : ℕ)
    → WritesLeast w st table (write_by w st table result position).reply
writes_least w st table result position same =
    subst
    (λ (x : List ℕ). AssemblesLeast w st (pair_reply (settling w (length table) st).reply (write_by w st x result position).reply) x)
    (sym same) (pair_least w st (length table) result position)
