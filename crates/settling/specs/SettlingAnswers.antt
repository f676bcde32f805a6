-- Document 01, 'Replies', and document 02, request 5: the condition of each answer of settling, 6 to 12, 17 and 18. 'Each number comes in its
-- stated condition and in no other': that it is given exactly then is `settling_law` of proofs/SettlingLaw. Assumes nothing.
use Rattle.std.specs.Prelude.{ℕ, List}
use Rattle.units.specs.Replies as number
use Rattle.units.specs.Reply.{Reply, accepted, refused, numbers_reply}
use Rattle.records.specs.Store.{Store}
use Rattle.records.specs.Sections.{decode}
use Rattle.undamaged.specs.View.{Undamaged, DamagedAt}
use Rattle.layout.specs.Conditions.{Never, short_at, Missing}
use Rattle.layout.specs.ConditionLaws.{FirstMisses}
use Rattle.layout.specs.Answer as layout

-- what settling can answer
pub data SettlingAnswer : Type 0 where
  -- the length in all, the passes made
  laid_out : ℕ → ℕ → SettlingAnswer
  -- 6: the section
  damaged : ℕ → SettlingAnswer
  -- 7 to 12, 17, 18
  no_layout : layout.LayoutRefusal → SettlingAnswer

-- each as a reply
abbrev pub settling_reply : SettlingAnswer → Reply layout.Laid
settling_reply (laid_out size k) = accepted (record { length = size; passes = k })
settling_reply (damaged i) = refused number.damaged i 0
settling_reply (no_layout r) = numbers_reply (layout.layout_numbers r)

-- the condition of each answer, n being the table's length
abbrev pub SettlingSays : ℕ → Store → ℕ → SettlingAnswer → Type 0
-- laid out in so many bytes by so many passes: 6 to 12, 17 and 18 don't hold
SettlingSays w st n (laid_out size k) = (table : List ℕ) × Undamaged w st × layout.Says n (decode w st) (layout.laid_out table size k)
-- 6: a bad count, and the section is 0; or the first section that breaks a rule
SettlingSays w st n (damaged i) = DamagedAt w st i
-- 7 to 12, 17 and 18 over the sections of an undamaged store: Says, of layout/specs/Answer
SettlingSays w st n (no_layout r) = Undamaged w st × layout.Says n (decode w st) (layout.no_layout r)

-- 8, 17 and 18 once more, by positions in the list: the store is undamaged, 7 doesn't hold, and section i is the first that misses a mark,
-- x being which. Settling, assembly and the write answer x's number at i exactly then (`missing_exactly` of proofs/SettlingLaw,
-- `assembly_missing` and `write_missing` of the assembler).
abbrev pub StoreMisses : ℕ → Store → ℕ → ℕ → Missing → Type 0
StoreMisses w st n i x = Undamaged w st × Never (decode w st) (short_at n (decode w st)) × FirstMisses (decode w st) i x
