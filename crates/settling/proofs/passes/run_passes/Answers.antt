-- The invariant: the passes that are left, from the table as it is, come to the whole settling. Assumes nothing.
use Prim.Native.Nat.{ℕ}
use mathlib.Core.Path.{sym, ap, ◌∙◌, subst}
use mathlib.Core.List.{List}
use lib.ListN.{replicate}
use borrow.Author.Tests.{not-true, not-false}
use Rattle.units.specs.Replies.{max_passes}
use Rattle.records.specs.Sections.{Section}
use Rattle.layout.specs.Passes.{Settling, passes}
use Rattle.settling.specs.SectionWalk.{sections_in, MarksFit, passes_reply, passes_table}
use Rattle.settling.proofs.Turns.{settles-narrow, settles-calm, settles_on, settles_out}
use Rattle.settling.proofs.passes.run_passes.Goals as goal
use Rattle.settling.proofs.passes.run_passes.Goals.{After-make_pass, At-loop-passes, Start}

abbrev entry : goal.At-loop-passes → goal.Start
entry c = (goal.at.At-loop-passes c).Start

abbrev sections : goal.At-loop-passes → List Section
sections c = sections_in (entry c).args.store

abbrev comes-to : goal.At-loop-passes → Settling
comes-to c = passes max_passes 1 (sections c) (entry c).args.table.now

pub make_pass-requires : goal.make_pass-requires
make_pass-requires c =
    let turning = (goal.at.make_pass-requires c).At-loop-passes in
    subst (MarksFit _) (sym turning.loop-passes.auto.table) (entry turning).requires

pub returns-in-Err : goal.returns-in-Err
returns-in-Err c =
    let o = (goal.at.returns-in-Err c).At-loop-passes in
    let is = settles-narrow (sections o) _ _ (comes-to o) c.loop-passes-test.true o.loop-passes.invariant _ c.in-Err.ensures in
    record {
      reply = c.refuse.ensures.reply ∙ ap passes_reply (sym is);
      table = c.refuse.ensures.table ∙ ap (λ (n : ℕ). replicate n 0) (c.make_pass.auto.table ∙ o.loop-passes.auto.table) ∙ ap (passes_table _) (sym is);
    }

pub returns-then-not-pass : goal.returns-then-not-pass
returns-then-not-pass c =
    let o = (goal.at.returns-then-not-pass c).At-loop-passes in
    let is = settles-calm (sections o) _ _ (comes-to o) c.loop-passes-test.true o.loop-passes.invariant _ _ _ c.in-Ok.ensures (not-true _ c.if-not-pass.true) in
    record { reply = ap passes_reply (sym is); table = ap (passes_table _) (sym is) }

pub loop-passes-preserved : goal.loop-passes-preserved
loop-passes-preserved c =
    let o = (goal.at.loop-passes-preserved c).At-loop-passes in
    settles_on (sections o) _ _ (comes-to o) c.loop-passes-test.true o.loop-passes.invariant _ _ _ c.in-Ok.ensures (not-false _ c.if-not-pass.false)

pub returns : goal.returns
returns c =
    let o = (goal.at.returns c).At-loop-passes in
    let is = settles_out (sections o) _ _ (comes-to o) c.loop-passes-test.false o.loop-passes.invariant in
    record {
      reply = c.refuse-2.ensures.reply ∙ ap passes_reply (sym is);
      table = c.refuse-2.ensures.table ∙ ap (λ (n : ℕ). replicate n 0) o.loop-passes.auto.table ∙ ap (passes_table _) (sym is);
    }
