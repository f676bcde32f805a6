-- Laws for `assemble`: one for each way that it goes, each giving the whole contract. Assumes nothing.
use Prim.Native.Nat.{ℕ, ◌+◌, ◌≤◌}
use native.Mathlib.Omega.{arith}
use mathlib.Core.Path.{◌≡◌, sym, ap, ap₂, ◌∙◌, subst}
use mathlib.Core.Bool.{true, false}
use mathlib.Core.List.{List}
use lib.ListN.{length, replicate}
use Rattle.std.specs.Prelude.{Result, Ok, Err}
use Rattle.units.specs.declared.reply.LaidOut.{LaidOut}
use Rattle.units.specs.declared.reply.Refusal.{Refusal}
use Rattle.units.specs.Replies.{result_full}
use Rattle.units.specs.Reply.{Reply, refused, refusal_reply}
use Rattle.records.specs.Store.{Store}
use Rattle.records.specs.Sections.{decode}
use Rattle.slices.specs.Over.{over}
use Rattle.layout.specs.Passes.{entry}
use Rattle.layout.specs.Answer.{Laid}
use Rattle.settling.specs.Settle.{settling, settled_reply}
use Rattle.settling.proofs.SettlingLeaves.{refused_table}
use Rattle.assembler.specs.Emission.{code_of}
use Rattle.assembler.specs.Assemble.{written, assembled_reply, Outcome, refusal, is_full, assembly}
use Rattle.assembler.specs.Demand3.{Demand3}
use Rattle.assembler.specs.Instructions.{CodePushes}
use Rattle.assembler.specs.TightAssembly.{AssemblesWithin, AssemblesLeast}
use Rattle.assembler.proofs.Laid.{laid}
use Rattle.assembler.proofs.Outcomes.{LaidBy, outcome_refused, outcome_full, outcome_written, fits_law}
use Rattle.assembler.proofs.Demand3.{demand_3_assembly}
use Rattle.assembler.proofs.Instructions.{assembly_pushes}
use Rattle.assembler.proofs.TightAssembly.{assembly_within, assembly_least}

module _ (w : ℕ) (st : Store) (n : ℕ) (result : List ℕ) (position : ℕ) where
  -- the contract, of an answer, a table and a result
  abbrev pub Kept : Reply Laid → List ℕ → List ℕ → Type 0
  Kept reply table' result' =
      (reply ≡ (assembly w st n result position).reply)
      × ((table' ≡ (assembly w st n result position).table)
      × ((result' ≡ (assembly w st n result position).result)
      × (Demand3 w st n result position reply table' result'
      × (CodePushes w st position reply table' result'
      × (AssemblesWithin w st n result position reply
      × AssemblesLeast w st reply table')))))

  -- an outcome that is the defined one keeps it
  kept : (o : Outcome) → assembly w st n result position ≡ o → Kept o.reply o.table o.result
  kept o e = (
    sym (ap (λ (x : Outcome). x.reply) e),
    (
      sym (ap (λ (x : Outcome). x.table) e),
      (
        sym (ap (λ (x : Outcome). x.result) e),
        (
          subst (λ (x : Outcome). Demand3 w st n result position x.reply x.table x.result) e (demand_3_assembly w st n result position),
          (
            subst (λ (x : Outcome). CodePushes w st position x.reply x.table x.result) e (assembly_pushes w st n result position),
            (
              subst (λ (x : Outcome). AssemblesWithin w st n result position x.reply) e (assembly_within w st n result position),
              subst (λ (x : Outcome). AssemblesLeast w st x.reply x.table) e (assembly_least w st n result position),
            ),
          ),
        ),
      ),
    ),
  )

  -- what the settling answered, s, as the code has it
  module _ {s : Result LaidOut Refusal} (table' : List ℕ) (said : settled_reply s ≡ (settling w n st).reply) (left : table' ≡ (settling w n st).table) where
    -- 6 to 12, 17, 18, which is passed on
    pub kept_refused : {told : Result LaidOut Refusal} (r : Refusal) → s ≡ Err r → told ≡ Err r → Kept (assembled_reply told) table' result
    kept_refused r e f =
        let same : (settling w n st).reply ≡ refusal_reply r = sym said ∙ ap settled_reply e in
        subst (λ (x : Result LaidOut Refusal). Kept (assembled_reply x) table' result) (sym f)
        (subst (λ (x : List ℕ). Kept (refusal_reply r) x result) (sym (left ∙ refused_table w n st _ _ _ same))
        (kept (refusal n result (refusal_reply r)) (outcome_refused w st n result position _ _ _ same)))

    -- laid out
    pub laid_table : (l : LaidOut) → s ≡ Ok l → LaidBy w n st table' l.length l.passes
    laid_table l e =
        let same : (settling w n st).reply ≡ written l.length l.passes = sym said ∙ ap settled_reply e in
        ap₂ (λ (r : Reply Laid) (x : List ℕ). record { reply = r; table = x }) same (sym left)

  module _ (table : List ℕ) (size k : ℕ) (e : LaidBy w n st table size k) where
    -- 13
    pub kept_full : (table' : List ℕ) → is_full (length result) position size ≡ true → table' ≡ replicate n 0 → Kept (refused result_full 0 k) table' result
    kept_full table' f z =
        subst (λ (x : List ℕ). Kept (refused result_full 0 k) x result) (sym z)
        (kept (refusal n result (refused result_full 0 k)) (outcome_full w st n result position table size k e f))

    module _ (f : is_full (length result) position size ≡ false) where
      -- the code fits
      pub code_fits : position + length (code_of (entry table) (decode w st)) ≤ length result
      code_fits =
          omega (arith, (fits_law (length result) position size).0 f, (laid w n st table size k e).code_long)

      -- written
      pub kept_written : (result' : List ℕ) → result' ≡ over result position (code_of (entry table) (decode w st)) → Kept (written size k) table result'
      kept_written result' h =
          subst (λ (x : List ℕ). Kept (written size k) table x) (sym h)
          (kept (record { reply = written size k; table = table; result = over result position (code_of (entry table) (decode w st)) })
          (outcome_written w st n result position table size k e f))
