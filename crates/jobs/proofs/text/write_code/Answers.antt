-- The three parts in a row, from the buffer's start on.
-- Assumes nothing.
use native.Mathlib.Omega.{arith}
use Prim.Native.Nat.{◌<◌, ◌^◌}
use mathlib.Core.Path.{◌≡◌, ap, ◌∙◌}
use mathlib.Core.List.{append_assoc}
use lib.ListN.{length}
use Rattle.std.proofs.Common.{rules}
use Rattle.opcodes.specs.Text.{as_bytes}
use Rattle.lines.specs.Sink.{added}
use Rattle.lines.specs.Lines.{hex}
use Rattle.lines.proofs.Sinks.{then, added_is, counted_small}
use Rattle.jobs.specs.JobText.{code_text}
use Rattle.jobs.proofs.JobTexts.{code_length, over_put}
use Rattle.jobs.proofs.text.write_code.Goals as goal
use Rattle.jobs.proofs.text.write_code.Goals.{After-place}

-- the sink at the end
put : (c : goal.After-place) → c.put-2.new.self ≡ added c.new-sink.result (code_text c.args.code.now)
unfolding code_text as_bytes
put c =
    let short : length c.new-sink.result.text.now < 2 ^ 64 = omega (arith, ap (λ (t : _). length t.now) c.new-sink.ensures.0) in
    let code = then _ _ _ short c.put.ensures c.put_hex.ensures in
    added_is _ (append_assoc (as_bytes "code ") (hex c.args.code.now) (as_bytes "\n")) (then _ _ _ short code c.put-2.ensures)

-- its place
placed : (c : goal.After-place) → c.place.result ≡ length (code_text c.args.code.now)
placed c = let long = code_length c.args.code.now in c.place.ensures ∙ counted_small _ _ (omega (arith, long, c.requires)) c.new-sink.ensures.1 (put c)

pub returns-clause-value : goal.returns-clause-value
returns-clause-value c = placed (goal.at.returns-clause-value c).After-place

pub returns-clause-upper_bound : goal.returns-clause-upper_bound
returns-clause-upper_bound c =
    let all = placed (goal.at.returns-clause-upper_bound c).After-place in
    omega (arith, all, code_length c.args.code.now, c.requires)

pub returns-clause-text_after : goal.returns-clause-text_after
unfolding added
returns-clause-text_after c =
    let all = put (goal.at.returns-clause-text_after c).After-place in
    over_put c.args.text.now _ (code_text c.args.code.now) (omega (arith, code_length c.args.code.now, c.requires)) (search rules)
