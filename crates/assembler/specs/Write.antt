-- Document 02, request 3: the write as one definition, from a store, a lent table, a lent result and a position to the answer and the
-- result. 6 to 9 with 17 and 18, 16 or 10, and 12 are the tests of store and table (tables/specs/TableTests); then 13. The table is lent to
-- read only. Assumes nothing.
use Rattle.std.specs.Prelude.{ℕ, cond, List, length}
use Rattle.units.specs.Replies.{result_full}
use Rattle.units.specs.Reply.{Reply, accepted, refused}
use Rattle.records.specs.Store.{Store}
use Rattle.records.specs.Sections.{decode}
use Rattle.slices.specs.Over.{over}
use Rattle.layout.specs.Passes.{entry}
use Rattle.layout.specs.Answer.{Laid}
use Rattle.tables.specs.TableTests.{table_test}
use Rattle.assembler.specs.Emission.{code_of}
use Rattle.assembler.specs.Assemble.{is_full}

-- the answer, and the result afterwards
pub record WriteOutcome : Type 0 where
  pub reply : Reply Laid
  pub result : List ℕ

-- refused: the result is unchanged
abbrev pub not_written : List ℕ → Reply Laid → WriteOutcome
not_written result reply = record { reply = reply; result = result }

-- the code into the result from the position on, by the tests' reply; 13 before the first byte. 'the write reports 0 passes'
abbrev pub after_tests : List ℕ → ℕ → List ℕ → Reply Laid → WriteOutcome
after_tests result position code (refused number i k) = not_written result (refused number i k)
after_tests result position code (accepted laid) =
    cond (is_full (length result) position laid.length)
    (not_written result (refused result_full 0 0))
    (record { reply = accepted laid; result = over result position code })

-- the write of a store, w words a section, by a table: its tests; then 13; then the code by that table
unfoldable pub write_by : ℕ → Store → List ℕ → List ℕ → ℕ → WriteOutcome
write_by w st table result position = after_tests result position (code_of (entry table) (decode w st)) (table_test w st table)
