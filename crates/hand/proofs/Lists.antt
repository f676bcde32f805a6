-- Lists of sections that a wrong settling answers otherwise. Assumes nothing.
use Rattle.std.specs.Prelude.{None, Option, Some}
use Prim.Native.Nat.{ℕ}
use mathlib.Core.Path.{◌≡◌, refl}
use mathlib.Core.Bool.{Bool, true, false}
use mathlib.Core.List.{List, [], ◌∷◌, map}
use lib.ListN.{replicate}
use Rattle.units.specs.declared.RefSize.{RefSize}
use Rattle.units.specs.Numbers.{held_bytes}
use Rattle.units.specs.Reference.{least_size, size, too_narrow}
use Rattle.units.specs.declared.RefSize.TheVariants.{S1}
use Rattle.units.specs.declared.MarkReference.TheVariants.{Direct, Delta}
use Rattle.records.specs.Sections.{Section, mark, bytes, reference}
use Rattle.slices.specs.First.{least_from}
use Rattle.layout.specs.Passes.{start_from, start, walk_from, pass, passes, settle}
use Rattle.layout.specs.Conditions.{direct_mark, delta_start, delta_end, missing_at}
use Rattle.layout.specs.Conditions.{placed, short_at, first_short, unplaced_at, first_unplaced, some_bytes, apart_at, first_apart, backward_at, first_backward}
use Rattle.layout.specs.Answer.{short_table, unplaced, placed_apart, too_narrow as narrowAnswer, Answer, laid_out, no_layout, answer}

-- a reference to mark m
abbrev pub direct : Bool → Option RefSize → ℕ → Section
direct pushed size m = reference (record { mark_ref = Direct (record { 0 = m }); set_size = size; pushed = pushed })

-- the pushed delta from mark a to mark b
abbrev pub delta : ℕ → ℕ → Section
delta a b = reference (record { mark_ref = Delta (record { start = record { 0 = a }; end = record { 0 = b } }); set_size = None; pushed = true })

-- a table's length, a list of sections, and the answer
pub record Tried : Type 0 where
  pub marks : ℕ
  pub sections : List Section
  pub expected : Answer

-- a line
abbrev tried : ℕ → List Section → Answer → Tried
tried n ss a = record { marks = n; sections = ss; expected = a }

-- lists that a wrong settling answers otherwise
abbrev pub lines : List Tried
lines =
    -- sizes by the table as it is then: the raw reference of size 1 is found too narrow in pass 1
    tried 1 (direct true None 0 ∷ bytes (replicate 254 0) ∷ mark 0 ∷ direct false (Some S1) 0 ∷ []) (no_layout (narrowAnswer 3 1))
    -- a delta that is backward in pass 1 only
    ∷ tried 2 (direct true None 1 ∷ direct true None 0 ∷ mark 1 ∷ delta 1 0 ∷ mark 0 ∷ []) (laid_out (6 ∷ 4 ∷ []) 6 3)
    -- an empty section is no bytes between placings, a reference is
    ∷ tried 1 (mark 0 ∷ bytes [] ∷ mark 0 ∷ []) (laid_out (0 ∷ []) 0 1)
    ∷ tried 1 (mark 0 ∷ direct true None 0 ∷ mark 0 ∷ []) (no_layout (placed_apart 2))
    -- 7 at section 2 comes before 8 at section 0
    ∷ tried 1 (direct true None 0 ∷ delta 0 0 ∷ mark 1 ∷ []) (no_layout (short_table 2))
    ∷ tried 2 (direct true None 0 ∷ delta 0 0 ∷ mark 1 ∷ []) (no_layout (unplaced direct_mark 0))
    -- 8, 17 and 18 by the first section with an unplaced mark: a delta's end before a direct reference, a direct reference before a delta
    ∷ tried 3 (mark 0 ∷ delta 0 1 ∷ direct true None 2 ∷ []) (no_layout (unplaced delta_end 1))
    ∷ tried 3 (mark 0 ∷ direct true None 2 ∷ delta 1 0 ∷ []) (no_layout (unplaced direct_mark 1))
    -- a delta's start; both ends; one mark as both ends; a start that is placed behind the delta
    ∷ tried 2 (mark 0 ∷ delta 1 0 ∷ []) (no_layout (unplaced delta_start 1))
    ∷ tried 2 (delta 0 1 ∷ []) (no_layout (unplaced delta_start 0))
    ∷ tried 1 (delta 0 0 ∷ []) (no_layout (unplaced delta_start 0))
    ∷ tried 2 (delta 0 1 ∷ mark 0 ∷ []) (no_layout (unplaced delta_end 0))
    ∷ []

-- the answers of a list of lines are those expected
abbrev pub AsExpected : List Tried → Type 0
AsExpected ts = map (λ (t : Tried). answer t.marks t.sections) ts ≡ map (λ (t : Tried). t.expected) ts

-- each line's answer is the one expected
pub tried_lists : AsExpected lines
unfolding answer settle passes pass walk_from start start_from first_short short_at first_unplaced unplaced_at missing_at first_apart apart_at first_backward backward_at least_from placed some_bytes least_size size too_narrow held_bytes
tried_lists = refl
