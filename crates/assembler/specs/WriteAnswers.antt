-- Document 02, requests 3 and 5: the condition of each answer of the write, 6 to 10, 12, 13 and 16 to 18. 'Each number comes in its stated
-- condition and in no other': that it is given exactly then is `write_law` of proofs/WriteLaws. Assumes nothing.
use Rattle.std.specs.Prelude.{ℕ, ◌+◌, ◌≤◌, ◌<◌, ◌≡◌, ◌⊎◌, List, length}
use Rattle.units.specs.Replies as number
use Rattle.units.specs.Reply.{Reply, accepted, refused, numbers_reply}
use Rattle.records.specs.Store.{Store}
use Rattle.records.specs.Sections.{decode}
use Rattle.layout.specs.Passes.{entry}
use Rattle.layout.specs.Answer.{Laid}
use Rattle.tables.specs.TableTests.{TableRefusal, table_numbers}
use Rattle.tables.specs.TableTests as tests
use Rattle.tables.specs.TableAnswers as test
use Rattle.tables.specs.TableAnswers.{TestSays}
use Rattle.assembler.specs.Emission.{code_of}

-- what the write can answer
pub data WriteAnswer : Type 0 where
  -- the code's length
  written : ℕ → WriteAnswer
  -- 6: the section
  damaged : ℕ → WriteAnswer
  -- 7; 8, 17 or 18; 9; 16 or 10; 12
  refuses : TableRefusal → WriteAnswer
  -- 13
  result_full : WriteAnswer

-- each as a reply: 'the write reports 0 passes'
abbrev pub write_reply : WriteAnswer → Reply Laid
write_reply (written size) = accepted (record { length = size; passes = 0 })
write_reply (damaged i) = refused number.damaged i 0
write_reply (refuses r) = numbers_reply (table_numbers r)
write_reply result_full = refused number.result_full 0 0

-- the condition of each answer, room being the result's length; all but 13 as of the tests of store and table
abbrev pub WriteSays : ℕ → Store → List ℕ → ℕ → ℕ → WriteAnswer → Type 0
WriteSays w st table room position (written size) = TestSays w st table (test.by_sections (tests.accepts size)) × (position + size ≤ room)
WriteSays w st table room position (damaged i) = TestSays w st table (test.damaged i)
WriteSays w st table room position (refuses r) = TestSays w st table (test.by_sections (tests.refuses r))
-- 13: 'the code passes the result, or the position does'
WriteSays w st table room position result_full =
    (size : ℕ) × TestSays w st table (test.by_sections (tests.accepts size)) × (room < position + size)

-- 13 once more, by the code itself: the tests accept the table, and 'the code passes the result, or the position does'. It is answered
-- exactly then (`write_full_exactly` of proofs/WriteLaws).
abbrev pub WriteCodePasses : ℕ → Store → List ℕ → ℕ → ℕ → Type 0
WriteCodePasses w st table room position =
    (code : List ℕ) × (code ≡ code_of (entry table) (decode w st)) × TestSays w st table (test.by_sections (tests.accepts (length code)))
    × ((room < position) ⊎ (room < position + length code))
