-- Laws for `write`: one for each way that it goes, each giving the whole contract. Assumes nothing.
use Prim.Native.Nat.{ℕ, ◌+◌, ◌≤◌}
use native.Mathlib.Omega.{arith}
use mathlib.Core.Path.{◌≡◌, sym, ap, ap₂, ◌∙◌, subst}
use mathlib.Core.Bool.{true, false}
use mathlib.Core.List.{List}
use lib.ListN.{length}
use Rattle.std.specs.Prelude.{Result, Ok, Err}
use Rattle.units.specs.declared.reply.LaidOut.{LaidOut}
use Rattle.units.specs.declared.reply.Refusal.{Refusal}
use Rattle.units.specs.Replies.{result_full}
use Rattle.units.specs.Reply.{Reply, refused, refusal_reply}
use Rattle.records.specs.Store.{Store}
use Rattle.records.specs.Sections.{decode}
use Rattle.slices.specs.Over.{over}
use Rattle.layout.specs.Passes.{entry}
use Rattle.layout.specs.Answer.{Laid}
use Rattle.settling.specs.Settle.{settled_reply}
use Rattle.tables.specs.TableTests.{table_test}
use Rattle.assembler.specs.Emission.{code_of}
use Rattle.assembler.specs.Assemble.{written, assembled_reply, is_full}
use Rattle.assembler.specs.Instructions.{CodePushes}
use Rattle.assembler.specs.Write.{WriteOutcome, not_written, write_by}
use Rattle.assembler.specs.Pair.{WritesDemand3, WritesEnough}
use Rattle.assembler.specs.TightAssembly.{WritesWithin, WritesLeast}
use Rattle.assembler.proofs.Outcomes.{fits_law}
use Rattle.assembler.proofs.WriteLaws.{AcceptedFacts, accepted_facts, write_refused, write_full, write_written, writes_enough, write_pushes}
use Rattle.assembler.proofs.Pair.{writes_demand_3, writes_within, writes_least}

module _ (w : ℕ) (st : Store) (table result : List ℕ) (position : ℕ) where
  -- the contract, of an answer and a result
  abbrev pub Kept : Reply Laid → List ℕ → Type 0
  Kept reply result' =
      (reply ≡ (write_by w st table result position).reply)
      × ((result' ≡ (write_by w st table result position).result)
      × (WritesDemand3 w st table result position reply result'
      × (WritesEnough w st table reply
      × (CodePushes w st position reply table result'
      × (WritesWithin w st table result position reply
      × WritesLeast w st table reply)))))

  -- an outcome that is the defined one keeps it
  kept : (o : WriteOutcome) → write_by w st table result position ≡ o → Kept o.reply o.result
  kept o e = (
    sym (ap (λ (x : WriteOutcome). x.reply) e),
    (
      sym (ap (λ (x : WriteOutcome). x.result) e),
      (
        subst (λ (x : WriteOutcome). WritesDemand3 w st table result position x.reply x.result) e (writes_demand_3 w st table result position),
        (
          subst (λ (x : WriteOutcome). WritesEnough w st table x.reply) e (writes_enough w st table result position),
          (
            subst (λ (x : WriteOutcome). CodePushes w st position x.reply table x.result) e (write_pushes w st table result position),
            (
              subst (λ (x : WriteOutcome). WritesWithin w st table result position x.reply) e (writes_within w st table result position),
              subst (λ (x : WriteOutcome). WritesLeast w st table x.reply) e (writes_least w st table result position),
            ),
          ),
        ),
      ),
    ),
  )

  -- what the tests answered, s, as the code has it
  module _ {s : Result LaidOut Refusal} (said : settled_reply s ≡ table_test w st table) where
    -- 6 to 9, 16 or 10, and 12, which is passed on
    pub kept_refused : {told : Result LaidOut Refusal} (r : Refusal) → s ≡ Err r → told ≡ Err r → Kept (assembled_reply told) result
    kept_refused r e f =
        subst (λ (x : Result LaidOut Refusal). Kept (assembled_reply x) result) (sym f)
        (kept (not_written result (refusal_reply r)) (write_refused w st table result position _ _ _ (sym said ∙ ap settled_reply e)))

    module _ (laid : LaidOut) (e : s ≡ Ok laid) where
      -- accepted
      test_accepts : table_test w st table ≡ written laid.length laid.passes
      test_accepts = sym said ∙ ap settled_reply e

      -- what is known then; among it that the passes are 0
      pub accepted_table : AcceptedFacts w st table (record { length = laid.length; passes = laid.passes })
      accepted_table = accepted_facts w st table _ test_accepts

      -- 13, with no passes, as a number or as the tests'
      pub kept_full : {passes : ℕ} → passes ≡ 0 → is_full (length result) position laid.length ≡ true → Kept (refused result_full 0 passes) result
      kept_full none f =
          kept _ (write_full w st table result position _ test_accepts f ∙ ap (λ (x : ℕ). not_written result (refused result_full 0 x)) (sym none))

      module _ (f : is_full (length result) position laid.length ≡ false) where
        -- the code fits
        pub code_fits : position + length (code_of (entry table) (decode w st)) ≤ length result
        code_fits = omega (arith, (fits_law (length result) position laid.length).0 f, accepted_table.code_long)

        -- written, with no passes
        pub kept_written : {passes : ℕ} → passes ≡ 0 → (result' : List ℕ) → result' ≡ over result position (code_of (entry table) (decode w st))
            → Kept (written laid.length passes) result'
        kept_written none result' h =
            kept _
            (write_written w st table result position _ test_accepts f
            ∙ ap₂ (λ (x : ℕ) (y : List ℕ). record { reply = written laid.length x; result = y }) (accepted_table.no_passes ∙ sym none) (sym h))
