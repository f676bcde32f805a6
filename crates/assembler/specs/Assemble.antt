-- Document 01, modules 3 and 4 and 'Replies': assembly as one definition, from a store, a lent table's length, a lent result and a
-- position to the answer, the table and the result. Refusals 6 to 13 in order, 17 and 18 in 8's place. Assumes nothing.
use Rattle.std.specs.Prelude.{ℕ, ◌-◌, Bool, cond, ◌||◌, List, ltb, length, replicate, Result}
use Rattle.units.specs.Replies.{result_full}
use Rattle.units.specs.declared.reply.LaidOut.{LaidOut}
use Rattle.units.specs.declared.reply.Refusal.{Refusal}
use Rattle.units.specs.Reply.{Reply, accepted, refused}
use Rattle.records.specs.Store.{Store}
use Rattle.records.specs.Sections.{Section, decode}
use Rattle.slices.specs.Over.{over}
use Rattle.layout.specs.Passes.{entry}
use Rattle.layout.specs.Answer.{Laid}
use Rattle.settling.specs.Settle.{settling, settled_reply}
use Rattle.assembler.specs.Emission.{code_of}

-- code is written: 'The answer is length and passes.'
abbrev pub written : ℕ → ℕ → Reply Laid
written size passes = accepted (record { length = size; passes = passes })

-- the code's answer as a reply, as settling's
abbrev pub assembled_reply : Result LaidOut Refusal → Reply Laid
assembled_reply answer = settled_reply answer

-- the answer, and the table and the result afterwards
pub record Outcome : Type 0 where
  pub reply : Reply Laid
  pub table : List ℕ
  pub result : List ℕ

-- refused: the table of length n is all 0, the result unchanged
abbrev pub refusal : ℕ → List ℕ → Reply Laid → Outcome
refusal n result reply = record { reply = reply; table = replicate n 0; result = result }

-- 13: 'the code passes the result, or the position does'
abbrev pub is_full : ℕ → ℕ → ℕ → Bool
is_full room position size = ltb room position || ltb (room - position) size

-- 'Code goes into the lent result from a given position.' By the table and the reply of the settling.
abbrev pub writing : ℕ → List ℕ → ℕ → List Section → List ℕ → Reply Laid → Outcome
writing n result position ss table (refused number i k) = refusal n result (refused number i k)
writing n result position ss table (accepted laid) =
    cond (is_full (length result) position laid.length)
    (refusal n result (refused result_full 0 laid.passes))
    (record { reply = accepted laid; table = table; result = over result position (code_of (entry table) ss) })

-- assembly of a store, w words a section, by a table of length n: settling, 6 to 12, 17 and 18; then 13; then the code
unfoldable pub assembly : ℕ → Store → ℕ → List ℕ → ℕ → Outcome
assembly w st n result position = writing n result position (decode w st) (settling w n st).table (settling w n st).reply
