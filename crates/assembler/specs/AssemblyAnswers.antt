-- Document 01, 'Replies', and document 02, request 5: the condition of each answer of assembly, 6 to 13, 17 and 18. 'Each number comes in its
-- stated condition and in no other': that it is given exactly then is `assembly_law` of proofs/AssemblyAnswers. Assumes nothing.
use Rattle.std.specs.Prelude.{ℕ, ◌+◌, ◌≤◌, ◌<◌, ◌≡◌, ◌⊎◌, List, length}
use Rattle.units.specs.Replies as number
use Rattle.units.specs.Reply.{Reply, accepted, refused, numbers_reply}
use Rattle.records.specs.Store.{Store}
use Rattle.records.specs.Sections.{decode}
use Rattle.undamaged.specs.View.{Undamaged}
use Rattle.layout.specs.Passes.{entry}
use Rattle.layout.specs.Answer as layout
use Rattle.settling.specs.SettlingAnswers as settling
use Rattle.settling.specs.SettlingAnswers.{SettlingSays}
use Rattle.assembler.specs.Emission.{code_of}

-- what assembly can answer
pub data AssemblyAnswer : Type 0 where
  -- the code's length, the passes made
  written : ℕ → ℕ → AssemblyAnswer
  -- 6: the section
  damaged : ℕ → AssemblyAnswer
  -- 7 to 12, 17, 18
  no_layout : layout.LayoutRefusal → AssemblyAnswer
  -- 13: the passes made
  result_full : ℕ → AssemblyAnswer

-- each as a reply
abbrev pub assembly_reply : AssemblyAnswer → Reply layout.Laid
assembly_reply (written size k) = accepted (record { length = size; passes = k })
assembly_reply (damaged i) = refused number.damaged i 0
assembly_reply (no_layout r) = numbers_reply (layout.layout_numbers r)
assembly_reply (result_full k) = refused number.result_full 0 k

-- the condition of each answer, room being the result's length; 6 to 12, 17 and 18 as of settling
abbrev pub AnswerSays : ℕ → Store → ℕ → ℕ → ℕ → AssemblyAnswer → Type 0
AnswerSays w st n room position (written size k) = SettlingSays w st n (settling.laid_out size k) × (position + size ≤ room)
AnswerSays w st n room position (damaged i) = SettlingSays w st n (settling.damaged i)
AnswerSays w st n room position (no_layout r) = SettlingSays w st n (settling.no_layout r)
-- 13: 'the code passes the result, or the position does'
AnswerSays w st n room position (result_full k) = (size : ℕ) × SettlingSays w st n (settling.laid_out size k) × (room < position + size)

-- 13 once more, by the code itself: 6 to 12, 17 and 18 don't hold, and 'the code passes the result, or the position does'. It is answered
-- exactly then (`full_exactly` of proofs/AssemblyAnswers).
abbrev pub CodePasses : ℕ → Store → ℕ → ℕ → ℕ → ℕ → Type 0
CodePasses w st n room position passes =
    (table : List ℕ) × (code : List ℕ) × (code ≡ code_of (entry table) (decode w st)) × Undamaged w st
    × layout.Says n (decode w st) (layout.laid_out table (length code) passes)
    × ((room < position) ⊎ (room < position + length code))
