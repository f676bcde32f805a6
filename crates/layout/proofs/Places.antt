-- The places of marks in a settled table: each placing of a mark stands at the sum of the sizes before it, no reference is too narrow,
-- and the length answered is the code's. For every list that is settled, deltas too. Assumes nothing.
use Prim.Native.Nat.{ℕ, zero, suc, ◌+◌, ◌*◌, ◌≤◌, ◌<◌}
use native.Mathlib.Omega.{arith}
use native.Mathlib.Nat.{add-zero}
use mathlib.Core.Path.{◌≡◌, refl, sym, ◌∙◌, ap, subst}
use mathlib.Core.Bool.{true, false, not}
use mathlib.Core.List.{List, [], ◌∷◌, map}
use lib.ListN.{length, take, replicate, length-replicate}
use Rattle.units.specs.Reference.{size, too_narrow}
use borrow.Author.Tests.{not-false}
use Rattle.units.specs.declared.MarkReference.{MarkReference}
use Rattle.units.specs.declared.MarkReference.TheVariants.{Direct, Delta}
use Rattle.units.specs.declared.AsmReference.{AsmReference}
use Rattle.records.specs.Sections.{Section, mark, ops, bytes, reference}
use Rattle.layout.specs.Layout.{total}
use Rattle.layout.specs.Passes.{entry, value_by, size_by, start_from, start, pass, settled, settle}
use Rattle.layout.specs.Conditions.{section_at, Never, some_mark, placed, short_at, Moving, sum_of, stored_bytes, references}
use Rattle.slices.proofs.Tests.{or-false}
use Rattle.layout.proofs.Answers.{settle_law}
use Rattle.layout.proofs.Layouts.{still_placed}
use Rattle.layout.proofs.Moves.{Still, run_absent}
use Rattle.layout.proofs.Premises.{in_table_lem}
use Rattle.layout.proofs.Rule.{Starts, Sizes}
use Rattle.layout.proofs.WidthRule.{width_rule, size_five}
use Rattle.layout.proofs.Walks.{InTable, start_run, walk_through}

-- ---- a pass that stood still

-- what holds of a section in it, `at` being the sum of sizes before the section
abbrev pub StillAt : (ℕ → ℕ) → Section → ℕ → Type 0
StillAt t (mark m) at = t m ≡ at
StillAt t (ops bs) at = Unit
StillAt t (bytes bs) at = Unit
StillAt t (reference r) at = too_narrow r (value_by t r.mark_ref) ≡ false

-- what holds of a section, and that the others stood still
abbrev Goes : (ℕ → ℕ) → Section → List Section → ℕ → ℕ → Type 0
Goes t x ss s e = StillAt t x s × Still (Sizes width_rule) ss (s + size_by t x) t e

-- a pass that stood still goes one section on
still_cons : (t : ℕ → ℕ) (x : Section) (ss : List Section) (s e : ℕ) → Still (Sizes width_rule) (x ∷ ss) s t e → Goes t x ss s e
still_cons t (mark m) ss s e h = (h.0, rw (add-zero s) h.1)
still_cons t (ops bs) ss s e h = (tt, h)
still_cons t (bytes bs) ss s e h = (tt, h)
still_cons t (reference r) ss s e h = (h.1.1, subst (λ (n : ℕ). Still (Sizes width_rule) ss (s + n) t e) h.1.0 h.2)

-- so of section j
pub still_at : (t : ℕ → ℕ) (ss : List Section) (s e : ℕ) → Still (Sizes width_rule) ss s t e → (j : ℕ) → j < length ss
    → StillAt t (section_at ss j) (s + total (take j (map (size_by t) ss)))
unfolding total
still_at t [] s e h j l = absurd (omega arith)
still_at t (x ∷ ss) s e h zero l = subst (StillAt t x) (sym (add-zero s)) (still_cons t x ss s e h).0
still_at t (x ∷ ss) s e h (suc j) l =
    let a : s + size_by t x + total (take j (map (size_by t) ss)) ≡ s + (size_by t x + total (take j (map (size_by t) ss))) = omega arith in
    subst (StillAt t (section_at ss j)) a (still_at t ss (s + size_by t x) e (still_cons t x ss s e h).1 j (omega arith))

-- it comes to the sum of sizes
pub still_sum : (t : ℕ → ℕ) (ss : List Section) (s e : ℕ) → Still (Sizes width_rule) ss s t e → e ≡ s + total (map (size_by t) ss)
unfolding total
still_sum t [] s e h = omega arith
still_sum t (x ∷ ss) s e h = omega (arith, still_sum t ss (s + size_by t x) e (still_cons t x ss s e h).1)

-- a reference whose marks are placed has a value of at most that
pub still_value : (t : ℕ → ℕ) (ss : List Section) (e : ℕ) → Still (Sizes width_rule) ss 0 t e
    → (r : MarkReference) → some_mark (λ m. not (placed ss m)) r ≡ false → value_by t r ≤ e
still_value t ss e still (Direct m) p = still_placed (Sizes width_rule) m.0 ss 0 t e (not-false (placed ss m.0) p) still
still_value t ss e still (Delta d) p =
    let q = or-false (not (placed ss d.start.0)) (not (placed ss d.end.0)) p in
    omega (arith, still_placed (Sizes width_rule) d.end.0 ss 0 t e (not-false (placed ss d.end.0) q.1) still)

-- ---- the table that is settled

-- passes keep the table's length
moving_long : (n : ℕ) (ss : List Section) → InTable n ss → (k : ℕ) (table last : List ℕ) → length table ≡ n → Moving ss k table last → length last ≡ n
unfolding Moving pass
moving_long n ss i zero table last e h = ap length h ∙ e
moving_long n ss i (suc k) table last e h =
    let q = walk_through ss 0 0 false table h.0 true h.1 (subst (λ (x : ℕ). InTable x ss) (sym e) i) h.2 in
    moving_long n ss i k h.1 last (q.long ∙ e) h.3

-- so does the start
start_long : (n : ℕ) (ss : List Section) → InTable n ss → length (start n ss) ≡ n
unfolding start
start_long n ss i =
    let zeros : List ℕ = replicate n 0 in
    let z : length zeros ≡ n = length-replicate n 0 in
    (start_run ss 0 zeros (subst (λ (x : ℕ). InTable x ss) (sym z) i)).2 ∙ z

-- a settled table has the table's length, and the last pass stood still by it
pub settled_still : (n : ℕ) (ss : List Section) (table : List ℕ) (e k : ℕ) → Never ss (short_at n ss) → settle n ss ≡ settled table e k
    → (length table ≡ n) × Still (Sizes width_rule) ss 0 (entry table) e
unfolding pass
settled_still n ss table e k short h =
    let i : InTable n ss = in_table_lem n ss short in
    let q = (settle_law n ss (settled table e k)).0 h in
    let long : length q.1 ≡ n = moving_long n ss i q.0 (start n ss) q.1 (start_long n ss i) q.4 in
    let w = walk_through ss 0 0 false q.1 e false table (subst (λ (x : ℕ). InTable x ss) (sym long) i) q.5 in
    let calm = w.calm refl in
    (w.long ∙ long, subst (λ (x : List ℕ). Still (Sizes width_rule) ss 0 (entry x) e) (sym calm.1) calm.2)

-- ---- marks that aren't placed

-- the table starts at 0
zeros : (n m : ℕ) → entry (replicate n 0) m ≡ 0
zeros zero m = refl
zeros (suc n) zero = refl
zeros (suc n) (suc m) = zeros n m

-- passes leave their entries
moving_absent : (n : ℕ) (ss : List Section) → InTable n ss → (k : ℕ) (table last : List ℕ) → length table ≡ n → Moving ss k table last
    → (m : ℕ) → placed ss m ≡ false → entry last m ≡ entry table m
unfolding Moving pass
moving_absent n ss i zero table last e h m p = ap (λ (t : List ℕ). entry t m) h
moving_absent n ss i (suc k) table last e h m p =
    let q = walk_through ss 0 0 false table h.0 true h.1 (subst (λ (x : ℕ). InTable x ss) (sym e) i) h.2 in
    moving_absent n ss i k h.1 last (q.long ∙ e) h.3 m p ∙ run_absent (Sizes width_rule) m ss 0 (entry table) h.0 (entry h.1) p q.run

-- 'Unplaced entries of the table are 0'
pub settled_absent : (n : ℕ) (ss : List Section) (table : List ℕ) (e k : ℕ) → Never ss (short_at n ss) → settle n ss ≡ settled table e k
    → (m : ℕ) → placed ss m ≡ false → entry table m ≡ 0
unfolding pass start
settled_absent n ss table e k short h m p =
    let i : InTable n ss = in_table_lem n ss short in
    let q = (settle_law n ss (settled table e k)).0 h in
    let long : length q.1 ≡ n = moving_long n ss i q.0 (start n ss) q.1 (start_long n ss i) q.4 in
    let w = walk_through ss 0 0 false q.1 e false table (subst (λ (x : ℕ). InTable x ss) (sym long) i) q.5 in
    let table₀ : List ℕ = replicate n 0 in
    let s = start_run ss 0 table₀ (subst (λ (x : ℕ). InTable x ss) (sym (length-replicate n 0)) i) in
    ap (λ (t : List ℕ). entry t m) (w.calm refl).1
    ∙ moving_absent n ss i q.0 (start n ss) q.1 (start_long n ss i) q.4 m p
    ∙ run_absent (Starts width_rule) m ss 0 (entry table₀) s.0 (entry (start_from ss 0 table₀)) p s.1
    ∙ zeros n m

-- ---- a bound

-- a reference is at most five bytes
size_small : (r : AsmReference) (v : ℕ) → size r v ≤ 5
size_small r v = omega (arith, width_rule.at_most r v, size_five r)

-- so the sizes come to at most the stored bytes and five for each reference
pub sizes_five : (t : ℕ → ℕ) (ss : List Section) → total (map (size_by t) ss) ≤ stored_bytes ss + 5 * references ss
unfolding total sum_of
sizes_five t [] = omega arith
sizes_five t (mark m ∷ ss) = omega (arith, sizes_five t ss)
sizes_five t (ops bs ∷ ss) = omega (arith, sizes_five t ss)
sizes_five t (bytes bs ∷ ss) = omega (arith, sizes_five t ss)
sizes_five t (reference r ∷ ss) = omega (arith, sizes_five t ss, size_small r (value_by t r.mark_ref))
