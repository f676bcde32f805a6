-- The five parts in a row, from the buffer's start on.
-- Assumes nothing.
use native.Mathlib.Omega.{arith}
use Prim.Native.Nat.{◌<◌, ◌≤◌, ◌^◌}
use mathlib.Core.Path.{◌≡◌, ap, ◌∙◌}
use mathlib.Core.List.{append_assoc, ◌++◌}
use lib.ListN.{length}
use Rattle.std.proofs.Common.{rules}
use Rattle.opcodes.specs.Text.{as_bytes}
use Rattle.lines.specs.Sink.{added}
use Rattle.lines.specs.Decimal.{decimal}
use Rattle.lines.proofs.Sinks.{then, added_is, counted_small}
use Rattle.jobs.specs.JobText.{refused_text}
use Rattle.jobs.proofs.JobTexts.{refused_most, over_put}
use Rattle.jobs.proofs.text.write_refused.Goals as goal
use Rattle.jobs.proofs.text.write_refused.Goals.{After-place}

-- the sink at the end
put : (c : goal.After-place) → c.put-3.new.self ≡ added c.new-sink.result (refused_text c.args.number c.args.section)
unfolding refused_text as_bytes
put c =
    let short : length c.new-sink.result.text.now < 2 ^ 64 = omega (arith, ap (λ (t : _). length t.now) c.new-sink.ensures.0) in
    let x = as_bytes "refused " in
    let n = decimal c.args.number in
    let i = decimal c.args.section in
    let named = then _ _ _ short (then _ _ _ short c.put.ensures c.put_decimal.ensures) c.put-2.ensures in
    let all = then _ _ _ short (then _ _ _ short named c.put_decimal-2.ensures) c.put-3.ensures in
    added_is _
    (append_assoc ((x ++ n) ++ as_bytes " at ") i (as_bytes "\n") ∙ append_assoc (x ++ n) (as_bytes " at ") (i ++ as_bytes "\n") ∙ append_assoc x n (as_bytes " at " ++ (i ++ as_bytes "\n")))
    all

-- it has room
fits : (c : goal.After-place) → length (refused_text c.args.number c.args.section) ≤ 25
fits c = refused_most c.args.number c.args.section c.requires.1 (omega arith)

-- its place
placed : (c : goal.After-place) → c.place.result ≡ length (refused_text c.args.number c.args.section)
placed c = c.place.ensures ∙ counted_small _ _ (omega (arith, fits c)) c.new-sink.ensures.1 (put c)

pub returns-clause-value : goal.returns-clause-value
returns-clause-value c = placed (goal.at.returns-clause-value c).After-place

pub returns-clause-upper_bound : goal.returns-clause-upper_bound
returns-clause-upper_bound c =
    let sink = (goal.at.returns-clause-upper_bound c).After-place in
    omega (arith, placed sink, fits sink, c.requires.0)

pub returns-clause-text_after : goal.returns-clause-text_after
unfolding added
returns-clause-text_after c =
    let sink = (goal.at.returns-clause-text_after c).After-place in
    let all = put sink in
    over_put c.args.text.now _ (refused_text c.args.number c.args.section) (omega (arith, fits sink, c.requires.0)) (search rules)
