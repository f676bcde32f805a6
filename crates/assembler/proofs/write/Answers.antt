-- `write` is the definition: the tests of store and table, then 13, then the code.
-- Assumes nothing.
use mathlib.Core.Path.{sym, ap, ◌∙◌}
use Rattle.std.specs.Prelude.{Err}
use Rattle.std.proofs.lemmas.Result.{err_from_is_err_and}
use Rattle.records.specs.Store.{words_per_section}
use Rattle.undamaged.proofs.Soundness.{undamaged_iff}
use Rattle.assembler.proofs.WriteWays.{kept_refused, accepted_table, kept_full, code_fits, kept_written}
use Rattle.assembler.proofs.write.Goals as goal

pub returns-in_err-laid : goal.returns-in_err-laid
returns-in_err-laid c =
    let p = err_from_is_err_and c.from_residual.result c.from_residual.ensures.1 in
    let all = kept_refused words_per_section _ _ c.args.res.now c.args.position c.check_table.ensures.reply _ c.in_err-laid.was (p.1 ∙ ap Err p.2) in
    record { reply = all.0; res = all.1.0; shortest = all.1.1.0; enough = all.1.1.1.0; pushes = all.1.1.1.1.0; within = all.1.1.1.1.1.0; least = all.1.1.1.1.1.1 }

pub returns-then-is_full : goal.returns-then-is_full
returns-then-is_full c =
    let known = accepted_table words_per_section _ _ c.args.res.now c.args.position c.check_table.ensures.reply _ c.in_ok-laid.was in
    let all = kept_full words_per_section _ _ c.args.res.now c.args.position c.check_table.ensures.reply _ c.in_ok-laid.was
    known.no_passes (sym c.is_full.ensures ∙ c.if-is_full.true) in
    record { reply = all.0; res = all.1.0; shortest = all.1.1.0; enough = all.1.1.1.0; pushes = all.1.1.1.1.0; within = all.1.1.1.1.1.0; least = all.1.1.1.1.1.1 }

pub invariant_of-store : goal.invariant_of-store
invariant_of-store c =
    let known = accepted_table words_per_section _ _ c.args.res.now c.args.position c.check_table.ensures.reply _ c.in_ok-laid.was in
    record { undamaged = (undamaged_iff words_per_section _).1 known.facts }

pub write_code-requires : goal.write_code-requires
write_code-requires c =
    let known = accepted_table words_per_section _ _ c.args.res.now c.args.position c.check_table.ensures.reply _ c.in_ok-laid.was in
    record {
      by_index = known.writable;
      fits = code_fits words_per_section _ _ c.args.res.now c.args.position c.check_table.ensures.reply _ c.in_ok-laid.was
          (sym c.is_full.ensures ∙ c.if-is_full.false);
    }

pub returns : goal.returns
returns c =
    let known = accepted_table words_per_section _ _ c.args.res.now c.args.position c.check_table.ensures.reply _ c.in_ok-laid.was in
    let all = kept_written words_per_section _ _ c.args.res.now c.args.position c.check_table.ensures.reply _ c.in_ok-laid.was
    (sym c.is_full.ensures ∙ c.if-is_full.false) known.no_passes _ c.write_code.ensures in
    record { reply = all.0; res = all.1.0; shortest = all.1.1.0; enough = all.1.1.1.0; pushes = all.1.1.1.1.0; within = all.1.1.1.1.1.0; least = all.1.1.1.1.1.1 }
