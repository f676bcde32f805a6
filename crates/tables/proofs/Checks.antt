-- What the walk and the searches found, as the answer of the tests; and that a table which agrees has no mark placed apart, so that 9 is
-- looked for only where a 16 or a 10 was found. Assumes nothing.
use Prim.Native.Nat.{ℕ, zero, suc, ◌+◌, ◌≤◌, ◌<◌}
use native.Mathlib.Omega.{arith}
use mathlib.Core.Path.{◌≡◌, refl, sym, ◌∙◌, ap, subst}
use mathlib.Core.Bool.{Bool, true, false, ◌||◌}
use mathlib.Core.List.{List, [], ◌∷◌}
use lib.ListN.{length, take}
use Rattle.std.proofs.Common.{Result, Ok, Err, unwrap_or}
use Rattle.std.specs.Result.{result_err}
use Rattle.units.specs.Replies as number
use Rattle.units.specs.Reply.{Reply, accepted, refused, numbers_reply}
use Rattle.units.specs.Reference.{least_size}
use Rattle.records.specs.Sections.{Section, mark, ops, bytes, reference}
use Rattle.slices.proofs.First.{NoneBefore}
use Rattle.slices.proofs.Tests.{or-false}
use Rattle.layout.specs.Passes.{entry, value_by, size_by}
use Rattle.layout.specs.Conditions.{section_at, IsFirst, Never, short_at, unplaced_at, apart_at, backward_at, sum_of}
use Rattle.layout.specs.Conditions.{Missing, missing_at}
use Rattle.layout.specs.Answer.{Laid, unplaced as layoutUnplaced, layout_numbers}
use Rattle.layout.proofs.Apart.{ApartBySums, apart_sums}
use Rattle.layout.proofs.Moves.{width_by}
use Rattle.layout.proofs.WidthRule.{width_rule}
use Rattle.tables.specs.TableTests.{sum_before, too_narrow_at, wrong_at, table_answer, table_reply, accepts, refuses, short_table, unplaced, placed_apart, differs, too_narrow, backward}
use Rattle.tables.specs.MarkMap.{Marked}
use Rattle.tables.specs.TableWalk.{stops_at, ComparedTo}
use Rattle.tables.specs.declared.compare.Agreed.{Agreed}
use Rattle.tables.proofs.TableLaws.{differs_iff, narrow_iff, table_law, right_all, right_before}
use Rattle.settling.proofs.SectionWords.{NotMark}
use Rattle.tables.specs.TableAnswers.{Differs, Narrow}
use Rattle.tables.proofs.Turns.{mark_wrong, other_wrong}

-- ---- sizes and least sizes

-- a sum of no less is no less
sum_le : (f g : Section → ℕ) → ((s : Section) → g s ≤ f s) → (ss : List Section) (i : ℕ) → sum_of g (take i ss) ≤ sum_of f (take i ss)
unfolding sum_of
sum_le f g h ss zero = omega arith
sum_le f g h [] (suc i) = omega arith
sum_le f g h (s ∷ ss) (suc i) = omega (arith, h s, sum_le f g h ss i)

-- and grows by no less
gap_le : (f g : Section → ℕ) → ((s : Section) → g s ≤ f s) → (ss : List Section) (j i : ℕ) → j ≤ i
    → sum_of f (take j ss) + sum_of g (take i ss) ≤ sum_of f (take i ss) + sum_of g (take j ss)
unfolding sum_of
gap_le f g h ss zero i l = omega (arith, sum_le f g h ss i)
gap_le f g h ss (suc j) zero l = absurd (omega arith)
gap_le f g h [] (suc j) (suc i) l = omega arith
gap_le f g h (s ∷ ss) (suc j) (suc i) l = omega (arith, gap_le f g h ss j i (omega arith))

-- a section's size is at least its least size
least_le : (t : ℕ → ℕ) (s : Section) → width_by least_size s ≤ size_by t s
least_le t (mark m) = omega arith
least_le t (ops bs) = omega arith
least_le t (bytes bs) = omega arith
least_le t (reference r) = width_rule.at_least r (value_by t r.mark_ref)

module _ (table : List ℕ) (ss : List Section) where
  -- equal sums mean no bytes between: a table that agrees has no mark placed apart
  pub right_together : Never ss (wrong_at table ss) → Never ss (apart_at ss)
  right_together h i l = go (apart_at ss i) refl
    where
      apart : ApartBySums ss i → ⊥
      apart (m, j, e, k, at, sums) =
          let agrees_at = ((right_all table ss).0 h).0 in
          let j-in : j < length ss = omega arith in
          let same : sum_before table ss j ≡ sum_before table ss i = sym (agrees_at j m (j-in, at)) ∙ agrees_at i m (l, e) in
          omega (arith, gap_le (size_by (entry table)) (width_by least_size) (least_le (entry table)) ss j i (omega arith))

      go : (b : Bool) → apart_at ss i ≡ b → apart_at ss i ≡ false
      go true e = absurd (apart ((apart_sums ss i l).0 e))
      go false e = e

  -- ---- where the walk stopped

  module _ {at : ℕ} (h : IsFirst ss (stops_at table ss) at) where
    -- neither 7 nor 16 nor 10 before it
    pub none_short : NoneBefore (short_at (length table) ss) at
    none_short j l = (or-false (short_at (length table) ss j) (wrong_at table ss j) (h.2 j l)).0

    -- where no section is a 7, it is the first 16 or 10
    pub first_wrong_lem : Never ss (short_at (length table) ss) → IsFirst ss (wrong_at table ss) at
    first_wrong_lem never =
        (h.0, ap (λ (b : Bool). b || wrong_at table ss at) (sym (never at h.0)) ∙ h.1, λ j k. (or-false (short_at (length table) ss j) (wrong_at table ss j) (h.2 j k)).1)

  -- or it went through
  pub none_wrong : Never ss (stops_at table ss) → Never ss (wrong_at table ss)
  none_wrong h j k = (or-false (short_at (length table) ss j) (wrong_at table ss j) (h j k)).1

  -- what is known where it stopped, the count of sections where it went through
  pub walked : (map : List ℕ) (compared : Result Agreed ℕ) (n : ℕ) → length ss ≡ n → ComparedTo table ss map compared
      → let at = unwrap_or (result_err compared) n in
      (at ≤ n) × NoneBefore (short_at (length table) ss) at × Marked ss at map
  walked map (Ok agreed) n e h =
      (omega arith, λ j l. (or-false (short_at (length table) ss j) (wrong_at table ss j) (h.0 j (omega arith))).0, subst (λ (k : ℕ). Marked ss k map) e h.1)
  walked map (Err at) n e h = (omega (arith, h.0.0), none_short h.0, h.1)

  -- it is a 16 if it is a mark
  wrong_mark : (i m : ℕ) → section_at ss i ≡ mark m → IsFirst ss (wrong_at table ss) i → Differs table ss i
  wrong_mark i m e h = (differs_iff table ss i h.0).0 (mark_wrong table ss i m e h.1)

  -- and else a 10
  wrong_other : (i : ℕ) → NotMark (section_at ss i) → IsFirst ss (wrong_at table ss) i → Narrow table ss i
  unfolding too_narrow_at
  wrong_other i o h = (narrow_iff table ss i h.0).0 (sym (other_wrong table ss i o) ∙ h.1)

  -- ---- the answers

  -- what is answered is the defined reply
  abbrev Is : Reply Laid → Type 0
  Is reply = reply ≡ table_reply (table_answer table ss)

  -- 7
  pub is_short : (i : ℕ) → IsFirst ss (short_at (length table) ss) i → Is (refused number.short_table i 0)
  is_short i h = sym (ap table_reply ((table_law table ss (refuses (short_table i))).1 h))

  module _ (short : Never ss (short_at (length table) ss)) where
    -- 8, 17 or 18
    pub is_unplaced : (x : Missing) (i : ℕ) → IsFirst ss (unplaced_at ss) i → missing_at ss i ≡ x → Is (numbers_reply (layout_numbers (layoutUnplaced x i)))
    is_unplaced x i h e = sym (ap table_reply ((table_law table ss (refuses (unplaced x i))).1 (short, h, e)))

    module _ (placed : Never ss (unplaced_at ss)) where
      -- 9
      pub is_apart : (i : ℕ) → IsFirst ss (apart_at ss) i → Is (refused number.placed_apart i 0)
      is_apart i h = sym (ap table_reply ((table_law table ss (refuses (placed_apart i))).1 (short, placed, h)))

      module _ (together : Never ss (apart_at ss)) (i : ℕ) (h : IsFirst ss (wrong_at table ss) i) where
        -- 16: the section is a mark
        pub is-differs : (m : ℕ) → section_at ss i ≡ mark m → Is (refused number.entry_differs i 0)
        is-differs m e = sym (ap table_reply ((table_law table ss (refuses (differs i))).1 ((short, placed, together), wrong_mark i m e h, (right_before table ss i (omega (arith, h.0))).0 h.2)))

        -- 10: it isn't
        pub is-narrow : NotMark (section_at ss i) → Is (refused number.too_narrow i 0)
        is-narrow o = sym (ap table_reply ((table_law table ss (refuses (too_narrow i))).1 ((short, placed, together), wrong_other i o h, (right_before table ss i (omega (arith, h.0))).0 h.2)))

      module _ (right : Never ss (wrong_at table ss)) where
        -- 12
        pub is-backward : (i : ℕ) → IsFirst ss (backward_at table ss) i → Is (refused number.backward i 0)
        is-backward i h =
            let q = (right_all table ss).0 right in
            sym (ap table_reply ((table_law table ss (refuses (backward i))).1 ((short, placed, right_together right), q.0, q.1, h)))

        -- accepted
        pub is-agreed : (n : ℕ) → n ≡ sum_of (size_by (entry table)) ss → Never ss (backward_at table ss) → Is (accepted (record { length = n; passes = 0 }))
        is-agreed n e h =
            let q = (right_all table ss).0 right in
            sym (ap table_reply ((table_law table ss (accepts n)).1 ((short, placed, right_together right), q.0, q.1, h, e)))
