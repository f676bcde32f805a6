-- One turn of each walk that changes the table: the table of first placings, the start table, and a pass; and what the passes come to.
-- Each says that what remains equals the whole. Assumes nothing.
use Rattle.std.specs.Prelude.{None, Some}
use Prim.Native.Nat.{ℕ, suc, ◌+◌, ◌-◌, ◌≤◌, ◌<◌}
use native.Mathlib.Numerals.{add-one}
use native.Mathlib.Omega.{arith}
use mathlib.Core.Path.{◌≡◌, refl, sym, ap, ap₂, ◌∙◌}
use mathlib.Core.Bool.{Bool, true, false, ◌||◌}
use mathlib.Core.List.{List, [], ◌∷◌}
use lib.ListN.{length, set, drop, replicate, drop_of_length-le}
use lib.Seq.{drop-cons}
use Rattle.units.specs.Reference.{least_size}
use Rattle.units.proofs.Forms.{size_found, narrow_found}
use Rattle.records.specs.Sections.{Section, mark, ops, bytes, reference}
use Rattle.layout.specs.Passes.{entry, value_by, start_from, start, Walked, through, left_at, unlike, walk_from, pass}
use Rattle.layout.specs.Passes.{Settling, settled, narrow_at, unsettled, ended, passes}
use Rattle.layout.specs.Conditions.{section_at}
use Rattle.layout.proofs.Moves.{width_by}
use Rattle.layout.proofs.Walks.{walk_mark_lem}
use Rattle.settling.specs.SectionWalk.{place_mark, place_from, first_sums}
use Rattle.settling.proofs.SectionWords.{size_section, NotMark}
use Rattle.settling.proofs.Sections.{Room}

-- ---- one section that isn't a mark

place_other : (s : Section) (ss : List Section) (sum : ℕ) (table : List ℕ) → NotMark s → place_from (s ∷ ss) sum table ≡ place_from ss (sum + width_by least_size s) table
unfolding place_from
place_other (mark m) ss sum table n = absurd n
place_other (ops bs) ss sum table n = refl
place_other (bytes bs) ss sum table n = refl
place_other (reference r) ss sum table n = refl

start_other : (s : Section) (ss : List Section) (sum : ℕ) (table : List ℕ) → NotMark s → start_from (s ∷ ss) sum table ≡ start_from ss (sum + width_by least_size s) table
unfolding start_from
start_other (mark m) ss sum table n = absurd n
start_other (ops bs) ss sum table n = refl
start_other (bytes bs) ss sum table n = refl
start_other (reference r) ss sum table n = refl

module _ (ss : List Section) (i sum : ℕ) (moved : Bool) (table : List ℕ) where
  walk_other : (s : Section) (n : ℕ) → NotMark s → size_section (entry table) s ≡ Some n → walk_from (s ∷ ss) i sum moved table ≡ walk_from ss (suc i) (sum + n) moved table
  unfolding walk_from
  walk_other (mark m) n o e = absurd o
  walk_other (ops bs) n o e = let same : length bs ≡ n = cc in rw same
  walk_other (bytes bs) n o e = let same : length bs ≡ n = cc in rw same
  walk_other (reference r) n o e =
      let found = size_found r (value_by (entry table) r.mark_ref) n e in
      rw (found.0, ← found.1)

  walk_left : (s : Section) → NotMark s → size_section (entry table) s ≡ None → walk_from (s ∷ ss) i sum moved table ≡ left_at i
  unfolding walk_from
  walk_left (mark m) o e = absurd o
  walk_left (ops bs) o e = let z : ◌≡◌ {A = ℕ} 0 1 = cc in absurd (omega arith)
  walk_left (bytes bs) o e = let z : ◌≡◌ {A = ℕ} 0 1 = cc in absurd (omega arith)
  walk_left (reference r) o e = rw (narrow_found r (value_by (entry table) r.mark_ref) e)

-- ---- a turn at section i

module _ (ss : List Section) (i : ℕ) (l : i < length ss) where
  -- what is left after it
  abbrev rest : List Section
  rest = drop (i + 1) ss

  -- what is left, the section first
  left_cons : drop i ss ≡ section_at ss i ∷ rest
  left_cons = rw (add-one i) (drop-cons ss i (mark 0) l)

  left_mark : (m : ℕ) → section_at ss i ≡ mark m → drop i ss ≡ mark m ∷ rest
  left_mark m e = left_cons ∙ ap (λ (x : Section). x ∷ rest) e

  -- the table of first placings
  pub place_at : (sum : ℕ) (table : List ℕ) (m : ℕ) → section_at ss i ≡ mark m → place_from (drop i ss) sum table ≡ place_from rest sum (place_mark table m sum)
  unfolding place_from
  place_at sum table m e = ap (λ (x : List Section). place_from x sum table) (left_mark m e)

  pub place_past : (sum : ℕ) (table : List ℕ) → NotMark (section_at ss i) → place_from (drop i ss) sum table ≡ place_from rest (sum + width_by least_size (section_at ss i)) table
  place_past sum table n = ap (λ (x : List Section). place_from x sum table) left_cons ∙ place_other (section_at ss i) rest sum table n

  -- the start table
  pub start_at : (sum : ℕ) (table : List ℕ) (m : ℕ) → section_at ss i ≡ mark m → start_from (drop i ss) sum table ≡ start_from rest sum (set table m sum)
  unfolding start_from
  start_at sum table m e = ap (λ (x : List Section). start_from x sum table) (left_mark m e)

  pub start_past : (sum : ℕ) (table : List ℕ) → NotMark (section_at ss i) → start_from (drop i ss) sum table ≡ start_from rest (sum + width_by least_size (section_at ss i)) table
  start_past sum table n = ap (λ (x : List Section). start_from x sum table) left_cons ∙ start_other (section_at ss i) rest sum table n

  -- a pass
  pub pass_at : (sum : ℕ) (moved : Bool) (table : List ℕ) (m : ℕ) → section_at ss i ≡ mark m
      → walk_from (drop i ss) i sum moved table ≡ walk_from rest (i + 1) sum (moved || unlike table m sum) (set table m sum)
  pass_at sum moved table m e =
      ap (λ (x : List Section). walk_from x i sum moved table) (left_mark m e)
      ∙ walk_mark_lem m rest i sum moved table
      ∙ ap (λ (j : ℕ). walk_from rest j sum (moved || unlike table m sum) (set table m sum)) (sym (add-one i))

  pub pass_past : (sum n : ℕ) (moved : Bool) (table : List ℕ) → NotMark (section_at ss i) → size_section (entry table) (section_at ss i) ≡ Some n
      → walk_from (drop i ss) i sum moved table ≡ walk_from rest (i + 1) (sum + n) moved table
  pass_past sum n moved table o e =
      ap (λ (x : List Section). walk_from x i sum moved table) left_cons
      ∙ walk_other rest i sum moved table (section_at ss i) n o e
      ∙ ap (λ (j : ℕ). walk_from rest j (sum + n) moved table) (sym (add-one i))

  pub pass_left : (sum : ℕ) (moved : Bool) (table : List ℕ) → NotMark (section_at ss i) → size_section (entry table) (section_at ss i) ≡ None
      → walk_from (drop i ss) i sum moved table ≡ left_at i
  pass_left sum moved table o e =
      ap (λ (x : List Section). walk_from x i sum moved table) left_cons ∙ walk_left rest i sum moved table (section_at ss i) o e

-- ---- the end of a walk

module _ (ss : List Section) (i sum : ℕ) (l : length ss ≤ i) where
  -- nothing is left
  left_none : drop i ss ≡ []
  left_none = drop_of_length-le ss l

  pub place_done : (table : List ℕ) → place_from (drop i ss) sum table ≡ table
  unfolding place_from
  place_done table = ap (λ (x : List Section). place_from x sum table) left_none

  pub start_done : (table : List ℕ) → start_from (drop i ss) sum table ≡ table
  unfolding start_from
  start_done table = ap (λ (x : List Section). start_from x sum table) left_none

  pub pass_done : (moved : Bool) (table : List ℕ) → walk_from (drop i ss) i sum moved table ≡ through sum moved table
  unfolding walk_from
  pass_done moved table = ap (λ (x : List Section). walk_from x i sum moved table) left_none

-- ---- the start of a walk, from the table all 0

pub place_start : (n : ℕ) (ss : List Section) (table : List ℕ) → table ≡ replicate n 0 → place_from (drop 0 ss) 0 table ≡ first_sums n ss
unfolding first_sums
place_start n ss table e = ap (place_from ss 0) e

pub start_start : (n : ℕ) (ss : List Section) (table : List ℕ) → table ≡ replicate n 0 → start_from (drop 0 ss) 0 table ≡ start n ss
unfolding start
start_start n ss table e = ap (start_from ss 0) e

pub pass_start : (ss : List Section) (table : List ℕ) → walk_from (drop 0 ss) 0 0 false table ≡ pass ss table
unfolding pass
pass_start ss table = refl

-- ---- the passes

-- the passes that are left from pass k on
abbrev pub Left : List Section → ℕ → List ℕ → Settling
Left ss k table = passes (1025 - k) k ss table

-- one pass more
passes_turn : (ss : List Section) (k : ℕ) (table : List ℕ) → k ≤ 1024 → Left ss k table ≡ ended k (λ next. Left ss (k + 1) next) (pass ss table)
unfolding passes
passes_turn ss k table l =
    let d : 1025 - k ≡ suc (1025 - (k + 1)) = omega arith in
    ap (λ (n : ℕ). passes n k ss table) d ∙ ap (λ (j : ℕ). ended k (λ next. passes (1025 - (k + 1)) j ss next) (pass ss table)) (sym (add-one k))

-- s is what the passes come to, and pass k starts from `from`
module _ (ss : List Section) (k : ℕ) (from : List ℕ) (s : Settling) (l : k ≤ 1024) (whole : Left ss k from ≡ s) where
  -- how it ends
  walked_to : (w : Walked) → w ≡ pass ss from → ended k (λ next. Left ss (k + 1) next) w ≡ s
  walked_to w e = ap (ended k (λ next. Left ss (k + 1) next)) e ∙ sym (passes_turn ss k from l) ∙ whole

  -- it is left at section i
  pub settles-narrow : (i : ℕ) → left_at i ≡ pass ss from → s ≡ narrow_at i k
  settles-narrow i e = sym (walked_to (left_at i) e)

  -- it ends without a move
  pub settles-calm : (sum : ℕ) (moved : Bool) (table : List ℕ) → through sum moved table ≡ pass ss from → moved ≡ false → s ≡ settled table sum k
  settles-calm sum moved table e m = sym (walked_to (through sum false table) (ap (λ (b : Bool). through sum b table) (sym m) ∙ e))

  -- or with one
  pub settles_on : (sum : ℕ) (moved : Bool) (table : List ℕ) → through sum moved table ≡ pass ss from → moved ≡ true → Left ss (k + 1) table ≡ s
  settles_on sum moved table e m = walked_to (through sum true table) (ap (λ (b : Bool). through sum b table) (sym m) ∙ e)

-- no pass is left
pub settles_out : (ss : List Section) (k : ℕ) (table : List ℕ) (s : Settling) → 1024 < k → Left ss k table ≡ s → s ≡ unsettled
unfolding passes
settles_out ss k table s l whole =
    let d : 1025 - k ≡ 0 = omega arith in
    sym whole ∙ ap (λ (n : ℕ). passes n k ss table) d

-- ---- the invariants

-- a walk F over k sections that is to come to `whole`: what remains does, the sum is in bounds and the table has its length
abbrev pub Walk : (List Section → ℕ → List ℕ → List ℕ) → ℕ → List Section → List ℕ → ℕ → ℕ → ℕ → List ℕ → Type 0
Walk F n ss whole k i sum table = (i ≤ k) × Room ss i sum × (length table ≡ n) × (F (drop i ss) sum table ≡ whole)

-- one turn of it, to the sum and table that the code has then
pub walk_next : (F : List Section → ℕ → List ℕ → List ℕ) (n : ℕ) (ss : List Section) (whole : List ℕ) (k i sum : ℕ) (table : List ℕ) (sum' : ℕ) (table' : List ℕ) {x : ℕ} {y : List ℕ}
    → Walk F n ss whole k i sum table → i < k → Room ss (i + 1) sum' → length table' ≡ length table → F (drop i ss) sum table ≡ F (drop (i + 1) ss) x y → sum' ≡ x → table' ≡ y
    → Walk F n ss whole k (i + 1) sum' table'
walk_next F n ss whole k i sum table sum' table' inv l room long step e d =
    (omega arith, room, long ∙ inv.2, ap₂ (F (drop (i + 1) ss)) e d ∙ sym step ∙ inv.3)

-- one turn of a pass
pub pass_next : (ss : List Section) (i sum : ℕ) (moved : Bool) (table from : List ℕ) (sum' : ℕ) (moved' : Bool) (table' : List ℕ) {x : ℕ} {b : Bool} {y : List ℕ}
    → walk_from (drop i ss) i sum moved table ≡ pass ss from → walk_from (drop i ss) i sum moved table ≡ walk_from (drop (i + 1) ss) (i + 1) x b y → sum' ≡ x → moved' ≡ b → table' ≡ y
    → walk_from (drop (i + 1) ss) (i + 1) sum' moved' table' ≡ pass ss from
pass_next ss i sum moved table from sum' moved' table' {x} {b} {y} inv step e d f =
    ap (λ (z : ℕ). walk_from (drop (i + 1) ss) (i + 1) z moved' table') e
    ∙ ap (λ (z : Bool). walk_from (drop (i + 1) ss) (i + 1) x z table') d
    ∙ ap (λ (z : List ℕ). walk_from (drop (i + 1) ss) (i + 1) x b z) f
    ∙ sym step
    ∙ inv
