-- The premise of demand 3, from sections by index to the forms that the theory uses. Assumes nothing.
use Rattle.std.specs.Prelude.{None, Option, Some}
use Prim.Native.Nat.{ℕ, suc, ◌+◌, ◌*◌, ◌^◌, ◌≤◌, ◌<◌, suc-le-suc}
use native.Mathlib.Omega.{arith}
use mathlib.Core.Path.{◌≡◌, refl, sym, ◌∙◌}
use mathlib.Core.Bool.{Bool, true, false, cond, not, ◌&&◌, ◌||◌, true≢false, false≢true}
use mathlib.Core.List.{List, [], ◌∷◌}
use lib.Dec.{eqb, leb}
use lib.ListN.{length, take}
use borrow.Author.Tests.{eqb-true, eq-eqb, not-false}
use Rattle.units.specs.declared.RefSize.{RefSize}
use Rattle.units.specs.Reference.{least_size}
use Rattle.units.specs.declared.AsmReference.{AsmReference}
use Rattle.units.specs.declared.MarkReference.{MarkReference}
use Rattle.units.specs.declared.MarkReference.TheVariants.{Direct, Delta}
use Rattle.records.specs.Sections.{Section, mark, ops, bytes, reference}
use Rattle.layout.specs.Layout.{HasValue}
use Rattle.layout.specs.Passes.{value_by}
use Rattle.layout.specs.Conditions.{section_at, some_below, Never, places_some, some_mark, refers, names_some, placed, short_at, unplaced_at, has_bytes, some_bytes, bytes_between, apart_at}
use Rattle.layout.specs.Conditions.{sum_of, one_if_unsized, stored_bytes, references, pass_bound, is_delta, delta_at, backward_by, backward_at}
use Rattle.layout.specs.Tight.{unsized_count, PlainSections}
use Rattle.layout.proofs.Runs.{TameRef, Tame, pass_mark, after, none}
use Rattle.layout.proofs.Moves.{Still, Close, Together, width_by}
use Rattle.slices.proofs.Tests.{or-false}
use Rattle.layout.proofs.Rule.{Sizes}
use Rattle.layout.proofs.WidthRule.{growth, step, size_five, width_rule}
use Rattle.layout.proofs.Rising.{growths, steps_of}
use Rattle.layout.proofs.Walks.{All, InTable}
use Rattle.layout.proofs.Layouts.{Readable}
use Rattle.layout.proofs.Least.{none_below}

-- what holds at every index holds of every section
pub all_at : (P : Section → Type 0) (ss : List Section) → ((i : ℕ) → i < length ss → P (section_at ss i)) → All P ss
all_at P [] h = tt
all_at P (s ∷ ss) h = (h 0 (omega arith), all_at P ss (λ i l. h (suc i) (suc-le-suc l)))

-- 7 holds of no section
pub in_table_lem : (n : ℕ) (ss : List Section) → Never ss (short_at n ss) → InTable n ss
unfolding short_at
in_table_lem n ss h = all_at (λ s. places_some (leb n) s ≡ false) ss (λ i l. (or-false (places_some (leb n) (section_at ss i)) (names_some (leb n) (section_at ss i)) (h i l)).0)

-- direct references are tame
direct_tame : (c p : ℕ → Bool) (r : MarkReference) → is_delta r ≡ false → TameRef c p r
direct_tame c p (Direct m) h = tt
direct_tame c p (Delta d) h = absurd (true≢false h)

-- so is a list of them
pub tame_direct : (c p : ℕ → Bool) (ss : List Section) → All (λ s. refers is_delta s ≡ false) ss → Tame c p ss
tame_direct c p [] h = tt
tame_direct c p (mark m ∷ ss) h = tame_direct c (pass_mark p m) ss h.1
tame_direct c p (ops bs ∷ ss) h = tame_direct c p ss h.1
tame_direct c p (bytes bs ∷ ss) h = tame_direct c p ss h.1
tame_direct c p (reference r ∷ ss) h = (direct_tame c p r.mark_ref h.0, tame_direct c p ss h.1)

-- ---- no bytes between placings

-- no two placings of a mark have bytes between them
abbrev Unparted : List Section → Type 0
Unparted ss = (i j m : ℕ) → i < length ss → j < i → places_some (eqb m) (section_at ss i) ≡ true → places_some (eqb m) (section_at ss j) ≡ true → bytes_between ss j i ≡ false

-- a section that places a mark with no property of all marks placed by it
places_other : (test : ℕ → Bool) (m : ℕ) (s : Section) → places_some test s ≡ false → places_some (eqb m) s ≡ true → test m ≡ false
places_other test m (mark a) h k = rw (eqb-true m a k) h
places_other test m (ops bs) h k = absurd (false≢true k)
places_other test m (bytes bs) h k = absurd (false≢true k)
places_other test m (reference r) h k = absurd (false≢true k)

-- where one of two tests holds and not both, the other does not
and_right : (a b : Bool) → (a && b) ≡ false → a ≡ true → b ≡ false
and_right true b h k = h
and_right false b h k = absurd (false≢true k)

-- 9 holds of no section
unparted : (ss : List Section) → Never ss (apart_at ss) → Unparted ss
unfolding apart_at
unparted ss h i j m l k a b =
    let q : some_below i (λ d. places_some (eqb m) (section_at ss d) && bytes_between ss d i) ≡ false =
    places_other (λ n. some_below i (λ d. places_some (eqb n) (section_at ss d) && bytes_between ss d i)) m (section_at ss i) (h i l) a in
    and_right (places_some (eqb m) (section_at ss j)) (bytes_between ss j i) (none_below i (λ d. places_some (eqb m) (section_at ss d) && bytes_between ss d i) j q k) b

-- a mark that no section places
absent : (m : ℕ) (ss : List Section) → ((i : ℕ) → i < length ss → places_some (eqb m) (section_at ss i) ≡ true → ⊥) → placed ss m ≡ false
unfolding placed
absent m [] h = refl
absent m (s ∷ ss) h = go (places_some (eqb m) s) refl (absent m ss (λ i l. h (suc i) (suc-le-suc l)))
  where
    go : (q : Bool) → places_some (eqb m) s ≡ q → placed ss m ≡ false → (q || placed ss m) ≡ false
    go true e rest = absurd (h 0 (omega arith) e)
    go false e rest = rest

-- a mark none of whose placings has bytes before it
close : (m : ℕ) (ss : List Section) → ((i : ℕ) → i < length ss → places_some (eqb m) (section_at ss i) ≡ true → some_bytes (take i ss) ≡ false) → Close m ss
unfolding some_bytes
close m [] h = tt
close m (s ∷ ss) h = go (has_bytes s) refl (λ e. close m ss (λ i l k. (or-false (has_bytes s) (some_bytes (take i ss)) (h (suc i) (suc-le-suc l) k)).1))
  where
    go : (q : Bool) → has_bytes s ≡ q → (has_bytes s ≡ false → Close m ss) → cond q (placed ss m ≡ false) (Close m ss)
    go true e rest = absent m ss (λ i l k. true≢false (sym e ∙ (or-false (has_bytes s) (some_bytes (take i ss)) (h (suc i) (suc-le-suc l) k)).0))
    go false e rest = rest e

-- by index, and as the theory has it
unparted_together : (ss : List Section) → Unparted ss → Together ss
unparted_together [] h = tt
unparted_together (mark m ∷ ss) h =
    (close m ss (λ i l k. h (suc i) 0 m (suc-le-suc l) (omega arith) k (eq-eqb m m refl)), unparted_together ss (λ i j a l k. h (suc i) (suc j) a (suc-le-suc l) (suc-le-suc k)))
unparted_together (ops bs ∷ ss) h = unparted_together ss (λ i j a l k. h (suc i) (suc j) a (suc-le-suc l) (suc-le-suc k))
unparted_together (bytes bs ∷ ss) h = unparted_together ss (λ i j a l k. h (suc i) (suc j) a (suc-le-suc l) (suc-le-suc k))
unparted_together (reference r ∷ ss) h = unparted_together ss (λ i j a l k. h (suc i) (suc j) a (suc-le-suc l) (suc-le-suc k))

-- so no mark has bytes between two placings
pub together : (ss : List Section) → Never ss (apart_at ss) → Together ss
together ss h = unparted_together ss (unparted ss h)

-- ---- sums

-- what a reference may grow by, of 4 × A + 3 × B
growth_counts : (z : Option RefSize) (p : Bool) → growth z p ≡ 4 * one_if_unsized p z + 3 * one_if_unsized (not p) z
growth_counts (Some s) p = refl
growth_counts None true = refl
growth_counts None false = refl

-- so all may grow by 4 × A + 3 × B
pub growths_are : (ss : List Section) → growths width_rule ss ≡ pass_bound ss
unfolding sum_of
growths_are [] = refl
growths_are (mark m ∷ ss) = omega (arith, growths_are ss)
growths_are (ops bs ∷ ss) = omega (arith, growths_are ss)
growths_are (bytes bs ∷ ss) = omega (arith, growths_are ss)
growths_are (reference r ∷ ss) = omega (arith, growths_are ss, growth_counts r.set_size r.pushed)

-- one step for an unsized reference, pushed or raw
step_counts : (z : Option RefSize) (p : Bool) → step z ≡ one_if_unsized p z + one_if_unsized (not p) z
step_counts (Some s) p = refl
step_counts None true = refl
step_counts None false = refl

-- so the steps of all are A + B
pub steps_are : (ss : List Section) → steps_of width_rule ss ≡ unsized_count ss
unfolding sum_of
steps_are [] = refl
steps_are (mark m ∷ ss) = omega (arith, steps_are ss)
steps_are (ops bs ∷ ss) = omega (arith, steps_are ss)
steps_are (bytes bs ∷ ss) = omega (arith, steps_are ss)
steps_are (reference r ∷ ss) = omega (arith, steps_are ss, step_counts r.set_size r.pushed)

-- the width of a reference at its widest
abbrev pub most : AsmReference → ℕ
most r = least_size r + growth r.set_size r.pushed

-- at their widest, stored bytes and five for each reference
pub sum_five : (ss : List Section) → sum_of (width_by most) ss ≤ stored_bytes ss + 5 * references ss
unfolding sum_of
sum_five [] = omega arith
sum_five (mark m ∷ ss) = omega (arith, sum_five ss)
sum_five (ops bs ∷ ss) = omega (arith, sum_five ss)
sum_five (bytes bs ∷ ss) = omega (arith, sum_five ss)
sum_five (reference r ∷ ss) = omega (arith, sum_five ss, size_five r)

-- ---- values

-- a direct reference to a placed mark has a value in a layout, and one below 2^32, where the placed marks' offsets are
direct_readable : (t : ℕ → ℕ) (p : ℕ → Bool) (r : MarkReference) → ((m : ℕ) → p m ≡ true → t m < 2 ^ 32)
    → is_delta r ≡ false → some_mark (λ m. not (p m)) r ≡ false → HasValue t r (value_by t r) × (value_by t r < 2 ^ 32)
direct_readable t p (Direct m) h d q = (refl, h m.0 (not-false (p m.0) q))
direct_readable t p (Delta s) h d q = absurd (true≢false d)

-- so of a section
section_readable : (t : ℕ → ℕ) (p : ℕ → Bool) (s : Section) → ((m : ℕ) → p m ≡ true → t m < 2 ^ 32)
    → refers is_delta s ≡ false → names_some (λ m. not (p m)) s ≡ false → Readable t s
section_readable t p (mark m) h d q = tt
section_readable t p (ops bs) h d q = tt
section_readable t p (bytes bs) h d q = tt
section_readable t p (reference r) h d q = direct_readable t p r.mark_ref h d q

-- so of a list, where every reference is direct and its mark placed
pub readable : (t : ℕ → ℕ) (ss : List Section) → ((m : ℕ) → placed ss m ≡ true → t m < 2 ^ 32)
    → Never ss (delta_at ss) → Never ss (unplaced_at ss) → All (Readable t) ss
unfolding unplaced_at delta_at
readable t ss h d q = all_at (Readable t) ss (λ i l. section_readable t (placed ss) (section_at ss i) h (d i l) (q i l))

-- a direct reference is never backward
direct_forward : (table : List ℕ) (r : MarkReference) → is_delta r ≡ false → backward_by table r ≡ false
direct_forward table (Direct m) h = refl
direct_forward table (Delta d) h = absurd (true≢false h)

-- so of a section
section_forward : (table : List ℕ) (s : Section) → refers is_delta s ≡ false → refers (backward_by table) s ≡ false
section_forward table (mark m) h = refl
section_forward table (ops bs) h = refl
section_forward table (bytes bs) h = refl
section_forward table (reference r) h = direct_forward table r.mark_ref h

-- so of a list
pub never_backward : (table : List ℕ) (ss : List Section) → Never ss (delta_at ss) → Never ss (backward_at table ss)
unfolding delta_at backward_at
never_backward table ss h i l = section_forward table (section_at ss i) (h i l)

-- ---- the premise

-- a list of sections as the theory needs it
pub record Ready (n : ℕ) (ss : List Section) : Type 0 where
  pub in_table : InTable n ss
  pub tame : Tame (after ss none) none ss
  -- so no mark has bytes between two placings
  pub together : Together ss
  pub small : stored_bytes ss + 5 * references ss < 2 ^ 32
  -- offsets by which a pass stands still give values to a layout, if those of placed marks are below 2^32
  pub reads : (t : ℕ → ℕ) (e : ℕ) → Still (Sizes width_rule) ss 0 t e → ((m : ℕ) → placed ss m ≡ true → t m < 2 ^ 32) → All (Readable t) ss

-- demand 3's premises make it so, whatever A and B are
pub ready : {n : ℕ} {ss : List Section} → PlainSections n ss → stored_bytes ss + 5 * references ss < 2 ^ 32 → Ready n ss
unfolding delta_at
ready {n} {ss} plain small =
    record {
      in_table = in_table_lem n ss plain.in_table;
      tame = tame_direct (after ss none) none ss (all_at (λ s. refers is_delta s ≡ false) ss plain.direct);
      together = together ss plain.together;
      small = small;
      reads = λ t e still h. readable t ss h plain.direct plain.marks_placed;
    }
