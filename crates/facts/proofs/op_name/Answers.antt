-- The array is too short for the name, or its first bytes are the name. Assumes nothing.
use mathlib.Core.Path.{◌≡◌, ◌∙◌}
use Rattle.opcodes.specs.Names.{op_name}
use Rattle.facts.proofs.Names.{name_nothing, name_written}
use Rattle.facts.proofs.op_name.Goals as goal

pub returns-then-name-letters : goal.returns-then-name-letters
returns-then-name-letters c =
    let letters : c.as_bytes-letters.result.now ≡ op_name c.args.byte = c.as_bytes-letters.ensures.value ∙ c.name.ensures in
    let all = name_nothing _ _ c.if-name-letters.true in
    rw (← letters) (record { answer = all.0; written = all.1 })

pub returns : goal.returns
returns c =
    let letters : c.as_bytes-letters.result.now ≡ op_name c.args.byte = c.as_bytes-letters.ensures.value ∙ c.name.ensures in
    let all = name_written _ _ _ c.if-name-letters.false c.write_bytes.ensures in
    rw (← letters) (record { answer = all.0; written = all.1 })
