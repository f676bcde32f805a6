-- 1; with a 0 what `begin_op` gives; else three SWAPs, at once where the last section is extended or what adding them gives.
-- Assumes nothing.
use native.Mathlib.Omega.{arith}
use mathlib.Core.Path.{refl, sym, ◌∙◌}
use Rattle.records.specs.Store.{words_per_section}
use Rattle.calls.specs.Calls.{push_exchange}
use Rattle.numbers.specs.Numbers.{store_in}
use Rattle.numbers.proofs.Adds.{push_bad_depth}
use Rattle.short.proofs.Judged.{pushed, push_judged}
use Rattle.building.proofs.Depths.{exchange_depths, exchange_zero_first, exchange_zero_second, exchange_three}
use Rattle.building.proofs.bytes.push_exchange.Goals as goal

pub returns-then-is_bad_exchange : goal.returns-then-is_bad_exchange
returns-then-is_bad_exchange c =
    let a = c.args in
    let st = store_in a.state a.bytes.now a.words.now in
    let all = push_bad_depth words_per_section (push_exchange a.n a.m) st (sym c.is_bad_exchange.ensures ∙ c.if-is_bad_exchange.true) in
    record { reply = c.refusal_number.ensures ∙ all.0; bytes = all.1.0; words = all.1.1 }

pub swap_op-requires : goal.swap_op-requires
swap_op-requires c = omega (arith, exchange_depths c.args.n c.args.m (sym c.is_bad_exchange.ensures ∙ c.if-is_bad_exchange.false))

pub returns-then-n-eq0 : goal.returns-then-n-eq0
returns-then-n-eq0 c =
    let a = c.args in
    let all = pushed a.state a.bytes.now a.words.now (push_exchange a.n a.m) (sym c.is_bad_exchange.ensures ∙ c.if-is_bad_exchange.false, (refl, refl))
    (exchange_zero_first a.n a.m c.if-n-eq0.true c.swap_op.ensures) (c.begin_op.ensures.reply, (c.begin_op.ensures.bytes, c.begin_op.ensures.words)) in
    record { reply = all.0; bytes = all.1.0; words = all.1.1 }

pub swap_op-requires-then-m-eq0 : goal.swap_op-requires-then-m-eq0
swap_op-requires-then-m-eq0 c = omega (arith, exchange_depths c.args.n c.args.m (sym c.is_bad_exchange.ensures ∙ c.if-is_bad_exchange.false))

pub returns-then-m-eq0 : goal.returns-then-m-eq0
returns-then-m-eq0 c =
    let a = c.args in
    let all = pushed a.state a.bytes.now a.words.now (push_exchange a.n a.m) (sym c.is_bad_exchange.ensures ∙ c.if-is_bad_exchange.false, (refl, refl))
    (exchange_zero_second a.n a.m c.if-n-eq0.false c.if-m-eq0.true c.swap_op-then-m-eq0.ensures) (c.begin_op-then-m-eq0.ensures.reply, (c.begin_op-then-m-eq0.ensures.bytes, c.begin_op-then-m-eq0.ensures.words)) in
    record { reply = all.0; bytes = all.1.0; words = all.1.1 }

pub swap_op-first-requires : goal.swap_op-first-requires
swap_op-first-requires c = omega (arith, exchange_depths c.args.n c.args.m (sym c.is_bad_exchange.ensures ∙ c.if-is_bad_exchange.false))

pub swap_op-second-requires : goal.swap_op-second-requires
swap_op-second-requires c = omega (arith, exchange_depths c.args.n c.args.m (sym c.is_bad_exchange.ensures ∙ c.if-is_bad_exchange.false))

pub returns-in-Some : goal.returns-in-Some
returns-in-Some c =
    let a = c.args in
    let all = pushed a.state a.bytes.now a.words.now (push_exchange a.n a.m) (sym c.is_bad_exchange.ensures ∙ c.if-is_bad_exchange.false, (refl, refl))
    (exchange_three a.n a.m c.if-n-eq0.false c.if-m-eq0.false c.swap_op-first.ensures c.swap_op-second.ensures) c.in-Some.ensures.all in
    record { reply = all.0; bytes = all.1.0; words = all.1.1 }

pub returns : goal.returns
returns c =
    let a = c.args in
    let all = push_judged a.state a.bytes.now a.words.now (push_exchange a.n a.m) (sym c.is_bad_exchange.ensures ∙ c.if-is_bad_exchange.false, (refl, refl))
    (exchange_three a.n a.m c.if-n-eq0.false c.if-m-eq0.false c.swap_op-first.ensures c.swap_op-second.ensures) c.in_default.ensures (c.add_bytes.ensures.reply, (c.add_bytes.ensures.bytes, c.add_bytes.ensures.words)) in
    record { reply = all.0; bytes = all.1.0; words = all.1.1 }
