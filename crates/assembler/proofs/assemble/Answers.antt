-- `assemble` is the definition: the settling, then 13, then the code; and it keeps demand 3.
-- Assumes nothing.
use mathlib.Core.Path.{sym, ◌∙◌, ap}
use Prim.Native.Nat.{ℕ}
use lib.ListN.{replicate}
use Rattle.std.specs.Prelude.{Err}
use Rattle.std.proofs.lemmas.Result.{err_from_is_err_and}
use Rattle.records.specs.Store.{words_per_section}
use Rattle.assembler.proofs.Laid.{laid}
use Rattle.assembler.proofs.Assembles.{kept_refused, laid_table, kept_full, code_fits, kept_written}
use Rattle.assembler.proofs.assemble.Goals as goal

pub returns-in_err-laid : goal.returns-in_err-laid
returns-in_err-laid c =
    let p = err_from_is_err_and c.from_residual.result c.from_residual.ensures.1 in
    let all = kept_refused words_per_section _ _ c.args.res.now c.args.position _ c.settle.ensures.reply c.settle.ensures.table _ c.in_err-laid.was (p.1 ∙ ap Err p.2) in
    record { reply = all.0; table = all.1.0; res = all.1.1.0; shortest = all.1.1.1.0; pushes = all.1.1.1.1.0; within = all.1.1.1.1.1.0; least = all.1.1.1.1.1.1 }

pub returns-then-is_full : goal.returns-then-is_full
returns-then-is_full c =
    let settled = laid_table words_per_section _ _ c.args.res.now c.args.position _ c.settle.ensures.reply c.settle.ensures.table _ c.in_ok-laid.was in
    let same = c.clear.ensures ∙ ap (λ (k : ℕ). replicate k 0) c.settle.auto.table in
    let all = kept_full words_per_section _ _ c.args.res.now c.args.position _ _ _ settled _ (sym c.is_full.ensures ∙ c.if-is_full.true) same in
    record { reply = all.0; table = all.1.0; res = all.1.1.0; shortest = all.1.1.1.0; pushes = all.1.1.1.1.0; within = all.1.1.1.1.1.0; least = all.1.1.1.1.1.1 }

pub invariant_of-store : goal.invariant_of-store
invariant_of-store c =
    let settled = laid_table words_per_section _ _ c.args.res.now c.args.position _ c.settle.ensures.reply c.settle.ensures.table _ c.in_ok-laid.was in
    record { undamaged = (laid words_per_section _ _ _ _ _ settled).undamaged }

pub write_code-requires : goal.write_code-requires
write_code-requires c =
    let settled = laid_table words_per_section _ _ c.args.res.now c.args.position _ c.settle.ensures.reply c.settle.ensures.table _ c.in_ok-laid.was in
    record {
      by_index = (laid words_per_section _ _ _ _ _ settled).writable;
      fits = code_fits words_per_section _ _ c.args.res.now c.args.position _ _ _ settled (sym c.is_full.ensures ∙ c.if-is_full.false);
    }

pub returns : goal.returns
returns c =
    let settled = laid_table words_per_section _ _ c.args.res.now c.args.position _ c.settle.ensures.reply c.settle.ensures.table _ c.in_ok-laid.was in
    let all = kept_written words_per_section _ _ c.args.res.now c.args.position _ _ _ settled (sym c.is_full.ensures ∙ c.if-is_full.false) _ c.write_code.ensures in
    record { reply = all.0; table = all.1.0; res = all.1.1.0; shortest = all.1.1.1.0; pushes = all.1.1.1.1.0; within = all.1.1.1.1.1.0; least = all.1.1.1.1.1.1 }
