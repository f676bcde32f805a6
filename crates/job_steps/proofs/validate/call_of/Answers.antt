-- By the kind: whether the step is listed, and the call that it is.
-- Assumes nothing.
use native.Mathlib.Omega.{arith}
use mathlib.Core.Path.{◌≡◌, sym, ap, ◌∙◌, subst}
use Prim.Native.Nat.{◌≤◌, ◌<◌, ◌-◌}
use borrow.Author.Tests.{le-leb, lt-leb}
use Rattle.std.proofs.Common.{rules, is_some, IfSome}
use Rattle.calls.specs.Calls.{Push, push_op_byte, push_data}
use Rattle.numbers.specs.Forms.{is_form}
use Rattle.job_steps.specs.JobCalls.{push_of, in_form}
use Rattle.job_steps.proofs.JobBytes.{part_slice}
use Rattle.job_steps.proofs.JobSteps.{IsOther, listed_mark, listed_op, listed_direct, listed_other, second_test, first_test, test_listed, test_call, data_listed, data_unlisted, call_mark, call_op, call_data, call_direct, call_delta}
use Rattle.job_steps.proofs.validate.call_of.Goals as goal
use Rattle.job_steps.proofs.validate.call_of.Goals.{In_default}

pub returns-in-1-clause-listed : goal.returns-in-1-clause-listed
returns-in-1-clause-listed c = test_listed _ _ _ c.then_some.ensures ∙ sym (listed_mark _ _ c.in-1.is)

pub returns-in-1-clause-call : goal.returns-in-1-clause-call
returns-in-1-clause-call c = test_call _ _ _ c.then_some.ensures _ (call_mark _ _ c.in-1.is)

pub returns-in_err-ok-in-2-clause-listed : goal.returns-in_err-ok-in-2-clause-listed
returns-in_err-ok-in-2-clause-listed c =
    let over : 255 < c.args.step.first = search rules in
    ap is_some c.from_residual.ensures ∙ first_test _ _ _ (listed_op _ _ c.in-2.is) (lt-leb _ _ over)

pub returns-in_ok-ok-in-2-clause-listed : goal.returns-in_ok-ok-in-2-clause-listed
returns-in_ok-ok-in-2-clause-listed c =
    let fits : c.args.step.first ≤ 255 = search rules in
    test_listed _ _ _ c.then_some-in-2.ensures ∙ second_test _ _ _ (listed_op _ _ c.in-2.is) (le-leb _ _ fits)

pub returns-in_ok-ok-in-2-clause-call : goal.returns-in_ok-ok-in-2-clause-call
returns-in_ok-ok-in-2-clause-call c =
    let same : c.in_ok-ok-in-2.field-0 ≡ c.args.step.first = search rules in
    test_call _ _ _ c.then_some-in-2.ensures _ (ap push_op_byte same ∙ call_op _ _ c.in-2.is)

pub returns-in_err-get-in-3-clause-listed : goal.returns-in_err-get-in-3-clause-listed
returns-in_err-get-in-3-clause-listed c = ap is_some c.from_residual-in_err-get-in-3.ensures ∙ data_unlisted _ _ c.in-3.is c.in_err-get-in-3.ensures.lookup.0

pub returns-in_ok-get-in-3-clause-listed : goal.returns-in_ok-get-in-3-clause-listed
returns-in_ok-get-in-3-clause-listed c = let part = c.in_ok-get-in-3.ensures.lookup.0 in data_listed _ _ c.in-3.is (part.0, part.1)

pub returns-in_ok-get-in-3-clause-call : goal.returns-in_ok-get-in-3-clause-call
returns-in_ok-get-in-3-clause-call c =
    let part = c.in_ok-get-in-3.ensures.lookup.0 in
    ap push_data (part.2 ∙ part_slice _ _ c.args.pool.now part.0) ∙ call_data _ _ c.in-3.is

pub returns-in-4-clause-listed : goal.returns-in-4-clause-listed
returns-in-4-clause-listed c = c.reference.ensures.listed ∙ sym (listed_direct _ _ c.in-4.is)

pub returns-in-4-clause-call : goal.returns-in-4-clause-call
returns-in-4-clause-call c = subst (λ (p : Push). IfSome c.reference.result (λ call. push_of call ≡ p)) (call_direct _ _ c.in-4.is) c.reference.ensures.call

-- no kind below a delta's
other : (c : goal.In_default) → IsOther c.args.step.kind
other c = record { not_mark = λ e. omega (arith, e); not_op = λ e. omega (arith, e); not_data = λ e. omega (arith, e); not_direct = λ e. omega (arith, e) }

pub returns-in_err-checked_sub-in_default-clause-listed : goal.returns-in_err-checked_sub-in_default-clause-listed
returns-in_err-checked_sub-in_default-clause-listed c =
    let none = c.in_err-checked_sub-in_default.ensures in
    let below : c.args.step.kind < 32 = omega (arith, none) in
    ap is_some c.from_residual-in_err-checked_sub-in_default.ensures
    ∙ first_test _ _ _ (listed_other _ _ (other (goal.at.returns-in_err-checked_sub-in_default-clause-listed c).In_default)) (lt-leb _ _ below)

-- the form of a delta, which is a form where the step is listed
formed : (c : goal.After-reference-in_default) → (32 ≤ c.args.step.kind) × (c.in_ok-checked_sub-in_default.field-0 ≡ c.args.step.kind - 32)
formed c = (search rules, search rules)

pub returns-in_ok-checked_sub-in_default-clause-listed : goal.returns-in_ok-checked_sub-in_default-clause-listed
returns-in_ok-checked_sub-in_default-clause-listed c =
    c.reference-in_default.ensures.listed
    ∙ ap is_form (formed c).1
    ∙ second_test _ _ _ (listed_other _ _ (other (goal.at.returns-in_ok-checked_sub-in_default-clause-listed c).In_default)) (le-leb _ _ (formed c).0)

pub returns-in_ok-checked_sub-in_default-clause-call : goal.returns-in_ok-checked_sub-in_default-clause-call
returns-in_ok-checked_sub-in_default-clause-call c =
    subst (λ (p : Push). IfSome c.reference-in_default.result (λ call. push_of call ≡ p))
    (ap (in_form _) (formed c).1 ∙ call_delta _ _ (other (goal.at.returns-in_ok-checked_sub-in_default-clause-call c).In_default))
    c.reference-in_default.ensures.call
