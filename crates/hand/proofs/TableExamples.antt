-- Tables tried by hand against lists of sections (document 02, request 3): what a write's tests answer. The tables 255 and 256 are both
-- accepted for line 6, and only 255 is the least: so demand 3 is claimed of the pair 'and no write from another table'. Assumes nothing.
use Rattle.std.specs.Prelude.{None, Some}
use Prim.Native.Nat.{ℕ}
use native.Mathlib.Omega.{arith}
use mathlib.Core.Path.{◌≡◌, refl, subst}
use mathlib.Core.Bool.{true}
use mathlib.Core.List.{List, [], ◌∷◌, map}
use Rattle.units.specs.Numbers.{held_bytes}
use Rattle.units.specs.Reference.{least_size, size, too_narrow}
use Rattle.units.specs.declared.RefSize.TheVariants.{S1}
use Rattle.records.specs.Sections.{Section, mark, bytes}
use Rattle.slices.specs.First.{least_from}
use Rattle.layout.specs.Layout.{total}
use Rattle.layout.specs.Passes.{start_from, start, walk_from, pass, passes, settle}
use Rattle.layout.specs.Conditions.{direct_mark, delta_start, delta_end, missing_at}
use Rattle.layout.specs.Conditions.{placed, short_at, first_short, unplaced_at, first_unplaced, some_bytes, apart_at, first_apart, backward_at, first_backward, sum_of, delta_at}
use Rattle.layout.specs.Shortest.{settled_layout, LeastLayout}
use Rattle.layout.specs.Answer.{Answer, laid_out, answer, answer_reply, answer_table}
use Rattle.layout.specs.Tight.{SaysLeast}
use Rattle.layout.proofs.Least.{never_law}
use Rattle.layout.proofs.Tight.{answer_least}
use Rattle.tables.specs.TableTests.{differs_at, too_narrow_at, first_wrong, TableAnswer, accepts, refuses, table_answer}
use Rattle.tables.specs.TableTests.{short_table, unplaced, placed_apart, differs, too_narrow as narrowRefusal, backward}
use Rattle.hand.proofs.Lists.{direct, delta}
use Rattle.hand.proofs.Shortest.{far}

-- a table, a list of sections, and the answer
pub record TriedTable : Type 0 where
  pub table : List ℕ
  pub sections : List Section
  pub expected : TableAnswer

-- a line
abbrev tried : List ℕ → List Section → TableAnswer → TriedTable
tried table ss a = record { table = table; sections = ss; expected = a }

-- a byte between marks 0 and 1, the delta from 1 back to 0, mark 2
abbrev turned : List Section
turned = mark 0 ∷ bytes (0 ∷ []) ∷ mark 1 ∷ delta 1 0 ∷ mark 2 ∷ []

-- tables that a wrong walk answers otherwise
abbrev pub lines : List TriedTable
lines =
    -- line 6: the reference takes 2 bytes by the table 255 and 3 by 256, which puts the mark there; by 254 and 257 it doesn't
    tried (255 ∷ []) (far None 253) (accepts 255)
    ∷ tried (256 ∷ []) (far None 253) (accepts 256)
    ∷ tried (254 ∷ []) (far None 253) (refuses (differs 2))
    ∷ tried (257 ∷ []) (far None 253) (refuses (differs 2))
    -- 16 and 10: the earlier section wins
    ∷ tried (256 ∷ []) (mark 0 ∷ direct true (Some S1) 0 ∷ []) (refuses (differs 0))
    ∷ tried (256 ∷ []) (direct true (Some S1) 0 ∷ mark 0 ∷ []) (refuses (narrowRefusal 0))
    -- the entry of a mark that isn't placed is free
    ∷ tried (0 ∷ 7 ∷ []) (mark 0 ∷ []) (accepts 0)
    -- a backward delta reads 0 in the walk, so it is one byte; 16 behind it comes before 12
    ∷ tried (0 ∷ 1 ∷ 2 ∷ []) turned (refuses (backward 3))
    ∷ tried (0 ∷ 1 ∷ 3 ∷ []) turned (refuses (differs 4))
    -- 7, 8, 17, 18 and 9 come before 16; 8, 17 and 18 whatever the entry of the mark that is never placed
    ∷ tried (1 ∷ []) (mark 0 ∷ mark 1 ∷ []) (refuses (short_table 1))
    ∷ tried (1 ∷ 7 ∷ []) (mark 0 ∷ direct true None 1 ∷ []) (refuses (unplaced direct_mark 1))
    ∷ tried (1 ∷ 7 ∷ []) (mark 0 ∷ delta 1 0 ∷ direct true None 1 ∷ []) (refuses (unplaced delta_start 1))
    ∷ tried (1 ∷ 7 ∷ []) (mark 0 ∷ delta 0 1 ∷ direct true None 1 ∷ []) (refuses (unplaced delta_end 1))
    ∷ tried (1 ∷ 7 ∷ []) (mark 0 ∷ delta 1 1 ∷ []) (refuses (unplaced delta_start 1))
    ∷ tried (1 ∷ []) (mark 0 ∷ bytes (0 ∷ []) ∷ mark 0 ∷ []) (refuses (placed_apart 2))
    ∷ []

-- each line's answer is the one expected
pub tried_tables : map (λ (t : TriedTable). table_answer t.table t.sections) lines ≡ map (λ (t : TriedTable). t.expected) lines
unfolding table_answer first_wrong differs_at too_narrow_at first_short short_at first_unplaced unplaced_at missing_at first_apart apart_at first_backward backward_at least_from placed some_bytes sum_of size too_narrow held_bytes
tried_tables = refl

-- the table 255 is settled for line 6
settled_6 : answer 1 (far None 253) ≡ laid_out (255 ∷ []) 255 2
unfolding answer settle passes pass walk_from start start_from first_short short_at first_unplaced unplaced_at first_apart apart_at first_backward backward_at least_from placed some_bytes least_size size too_narrow held_bytes
settled_6 = refl

-- and the least
pub least_255 : LeastLayout (far None 253) (settled_layout (255 ∷ []) (far None 253))
unfolding delta_at sum_of least_from
least_255 =
    let q = answer_least 1 (far None 253) (omega arith) ((never_law (far None 253) (delta_at (far None 253))).0 refl) in
    ((subst (λ (a : Answer). SaysLeast (far None 253) (answer_reply a) (settled_layout (answer_table 1 a) (far None 253))) settled_6 q).if_laid _ refl).0

-- the table 256 isn't
pub not_least_256 : LeastLayout (far None 253) (settled_layout (256 ∷ []) (far None 253)) → ⊥
unfolding total size held_bytes
not_least_256 h = omega (arith, (h.least (settled_layout (255 ∷ []) (far None 253)) least_255.enough).1)

-- so not every accepted table is the least
pub accepted_not_least : ((table : List ℕ) (ss : List Section) (size : ℕ) → table_answer table ss ≡ accepts size → LeastLayout ss (settled_layout table ss)) → ⊥
unfolding table_answer first_wrong differs_at too_narrow_at first_short short_at first_unplaced unplaced_at first_apart apart_at first_backward backward_at least_from placed some_bytes sum_of size too_narrow held_bytes
accepted_not_least h = not_least_256 (h (256 ∷ []) (far None 253) 256 refl)
