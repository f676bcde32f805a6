-- Demand 2, 'the code is also proved against the Yellow Paper and EIP-3855': of the answer, table and result that assembly or a write leaves,
-- of any store. The proofs are in proofs/Instructions and proofs/WriteLaws. Assumes nothing.
use Rattle.std.specs.Prelude.{ℕ, ◌≡◌, List}
use Rattle.units.specs.Reply.{Reply}
use Rattle.records.specs.Store.{Store}
use Rattle.records.specs.Sections.{decode}
use Rattle.assembler.specs.Pushes.{ReferencesHere}
use Rattle.layout.specs.Answer.{Laid}
use Rattle.assembler.specs.Assemble.{written}

-- where code is written, each pushed reference is one push instruction in the result, at the position plus the widths before it
abbrev pub CodePushes : ℕ → Store → ℕ → Reply Laid → List ℕ → List ℕ → Type 0
CodePushes w st position reply table' result' =
    (size passes : ℕ) → reply ≡ written size passes → ReferencesHere (decode w st) table' result' position
