-- Document 01's line 11 as a theorem of the definitions, for any N up to 1,023: pass 1 brings mark 1 to 65,536, and each pass after it one
-- more reference to four bytes. In state j the references to marks 1 to j have four bytes, the others three, and mark m is at
-- 65,537 + j - m. So N references take N + 2 passes, which for 1,022 is 1,024, and 1,023 are number 11. Assumes nothing.
use Prim.Native.Nat.{ℕ, zero, suc, ◌+◌, ◌-◌, ◌*◌, ◌^◌, ◌≤◌, ◌<◌}
use native.Mathlib.Omega.{arith}
use mathlib.Core.Path.{◌≡◌, refl, sym, ◌∙◌, ap, ap₂, subst}
use mathlib.Core.Bool.{Bool, true, false, cond, not, ◌||◌}
use mathlib.Core.Logic.{inr}
use mathlib.Core.List.{List, [], ◌∷◌, ◌++◌}
use lib.Dec.{eqb, leb, ltb}
use lib.ListN.{length, set, length-set, replicate, length-replicate}
use lib.Seq.{get_or-set_same, get_or-set_other}
use borrow.Author.Tests.{eqb-true, eqb-false, eq-eqb, ne_eqb, leb-true, leb-false, ltb-true, ltb-false}
use Rattle.units.specs.Numbers.{held_bytes}
use Rattle.units.specs.Reference.{unsized_pushed, least_size, size, too_narrow}
use Rattle.units.specs.declared.AsmReference.{AsmReference}
use Rattle.units.specs.declared.MarkReference.TheVariants.{Direct}
use Rattle.units.proofs.Held.{held_2, held_3}
use Rattle.records.specs.Sections.{Section, mark, bytes, reference}
use Rattle.layout.specs.Layout.{EnoughFrom}
use Rattle.layout.specs.Passes.{entry, start_from, start, walk_from, through, unlike, pass, settled, unsettled, settle}
use Rattle.layout.specs.Conditions.{sum_of, Moving}
use Rattle.layout.specs.Shortest.{SomeLayout}
use Rattle.layout.specs.Tight.{unsized_count, passes_for, most_unsized}
use Rattle.layout.proofs.Walks.{walk_mark_lem}
use Rattle.layout.proofs.Answers.{settle_law}

-- ---- the list

-- an unsized pushed reference to mark m
abbrev to : ℕ → AsmReference
to m = unsized_pushed (Direct (record { 0 = m }))

-- 'N pushed refs to marks N down to 1'
abbrev pub refs_down : ℕ → List Section
refs_down zero = []
refs_down (suc n) = reference (to (suc n)) ∷ refs_down n

-- 'marks N down to 1, one data byte between neighbours', for n + 1 of them
abbrev pub marks_down : ℕ → List Section
marks_down zero = mark 1 ∷ []
marks_down (suc n) = mark (suc (suc n)) ∷ bytes (0 ∷ []) ∷ marks_down n

-- 'P data bytes', 65,537 - 4 × N for N = n + 1
abbrev pub filler : ℕ → List ℕ
filler n = replicate (65537 - 4 * suc n) 0

filler_long : (n : ℕ) → length (filler n) ≡ 65537 - 4 * suc n
filler_long n = let a : length (filler n) ≡ 65537 - 4 * suc n = length-replicate (65537 - 4 * suc n) _ in a

-- line 11 with N = n + 1
abbrev pub line11 : ℕ → List Section
line11 n = refs_down (suc n) ++ bytes (filler n) ∷ marks_down n

-- ---- references

-- a value of two bytes, of three
width_3 : (m v : ℕ) → 256 ≤ v → v < 65536 → size (to m) v ≡ 3
unfolding size
width_3 m v l h = go (eqb v 0) refl
  where
    go : (q : Bool) → eqb v 0 ≡ q → cond q 1 (held_bytes v + 1) ≡ 3
    go true e = absurd (omega (arith, eqb-true v 0 e))
    go false e = omega (arith, held_2 v l h)

width_4 : (m v : ℕ) → 65536 ≤ v → v < 16777216 → size (to m) v ≡ 4
unfolding size
width_4 m v l h = go (eqb v 0) refl
  where
    go : (q : Bool) → eqb v 0 ≡ q → cond q 1 (held_bytes v + 1) ≡ 4
    go true e = absurd (omega (arith, eqb-true v 0 e))
    go false e = omega (arith, held_3 v l h)

-- the sizes of the references to marks k down to 1
abbrev widths : (ℕ → ℕ) → ℕ → ℕ
widths t zero = 0
widths t (suc k) = size (to (suc k)) (t (suc k)) + widths t k

-- marks 1 to k stand at b - m
abbrev Falling : (ℕ → ℕ) → ℕ → ℕ → Type 0
Falling t b k = (m : ℕ) → 1 ≤ m → m ≤ k → t m ≡ b - m

-- all below 65,536, three bytes each
widths_low : (t : ℕ → ℕ) (b k : ℕ) → Falling t b k → b ≤ 65536 → 256 + k ≤ b → widths t k ≡ 3 * k
widths_low t b zero f l h = refl
widths_low t b (suc k) f l h =
    let v : t (suc k) ≡ b - suc k = f (suc k) (omega arith) (omega arith) in
    let w : size (to (suc k)) (t (suc k)) ≡ 3 = width_3 (suc k) (t (suc k)) (omega arith) (omega arith) in
    omega (arith, widths_low t b k (λ m i j. f m i (omega arith)) l (omega arith))

-- in state j the next pass gives four bytes to j + 1 of them, or to all
widths_state : (t : ℕ → ℕ) (j k : ℕ) → Falling t (65537 + j) k → j ≤ 1023 → k ≤ 1023 → widths t k + (k - (j + 1)) ≡ 4 * k
widths_state t j zero f l h = omega arith
widths_state t j (suc k) f l h = go (ltb j k) refl (widths_state t j k (λ m i i'. f m i (omega arith)) l (omega arith))
  where
    v : t (suc k) ≡ 65537 + j - suc k
    v = f (suc k) (omega arith) (omega arith)

    go : (q : Bool) → ltb j k ≡ q → widths t k + (k - (j + 1)) ≡ 4 * k → widths t (suc k) + (suc k - (j + 1)) ≡ 4 * suc k
    go true e rest =
        let less : j < k = ltb-true j k e in
        let w : size (to (suc k)) (t (suc k)) ≡ 3 = width_3 (suc k) (t (suc k)) (omega (arith, v)) (omega (arith, v)) in
        omega (arith, rest)
    go false e rest =
        let more : k ≤ j = ltb-false j k e in
        let w : size (to (suc k)) (t (suc k)) ≡ 4 = width_4 (suc k) (t (suc k)) (omega (arith, v)) (omega (arith, v)) in
        omega (arith, rest)

-- a walk over them adds their sizes
walk_refs : (k : ℕ) (rest : List Section) (i s : ℕ) (moved : Bool) (table : List ℕ)
    → walk_from (refs_down k ++ rest) i s moved table ≡ walk_from rest (i + k) (s + widths (entry table) k) moved table
unfolding walk_from too_narrow
walk_refs zero rest i s moved table =
    let a : i ≡ i + 0 = omega arith in
    let b : s ≡ s + 0 = omega arith in
    ap₂ (λ (x y : ℕ). walk_from rest x y moved table) a b
walk_refs (suc k) rest i s moved table =
    let w : ℕ = size (to (suc k)) (entry table (suc k)) in
    let a : suc i + k ≡ i + suc k = omega arith in
    let b : s + w + widths (entry table) k ≡ s + (w + widths (entry table) k) = omega arith in
    walk_refs k rest (suc i) (s + w) moved table ∙ ap₂ (λ (x y : ℕ). walk_from rest x y moved table) a b

-- and the start one byte each
start_refs : (k : ℕ) (rest : List Section) (s : ℕ) (table : List ℕ) → start_from (refs_down k ++ rest) s table ≡ start_from rest (s + k) table
unfolding start_from least_size
start_refs zero rest s table =
    let b : s ≡ s + 0 = omega arith in
    ap (λ (y : ℕ). start_from rest y table) b
start_refs (suc k) rest s table =
    let b : s + 1 + k ≡ s + suc k = omega arith in
    start_refs k rest (s + 1) table ∙ ap (λ (y : ℕ). start_from rest y table) b

-- ---- marks

-- the table after the marks, the first of them at s
abbrev place_down : ℕ → ℕ → List ℕ → List ℕ
place_down zero s table = set table 1 s
place_down (suc k) s table = place_down k (s + 1) (set table (suc (suc k)) s)

-- whether one was moved
abbrev moved_down : ℕ → ℕ → Bool → List ℕ → Bool
moved_down zero s moved table = moved || unlike table 1 s
moved_down (suc k) s moved table = moved_down k (s + 1) (moved || unlike table (suc (suc k)) s) (set table (suc (suc k)) s)

walk_marks : (k i s : ℕ) (moved : Bool) (table : List ℕ) → walk_from (marks_down k) i s moved table ≡ through (s + k) (moved_down k s moved table) (place_down k s table)
unfolding walk_from
walk_marks zero i s moved table =
    let a : s ≡ s + 0 = omega arith in
    walk_mark_lem 1 [] i s moved table ∙ ap (λ (x : ℕ). through x (moved || unlike table 1 s) (set table 1 s)) a
walk_marks (suc k) i s moved table =
    let m : ℕ = suc (suc k) in
    let a : s + 1 + k ≡ s + suc k = omega arith in
    walk_mark_lem m (bytes (0 ∷ []) ∷ marks_down k) i s moved table
    ∙ walk_marks k (suc (suc i)) (s + 1) (moved || unlike table m s) (set table m s)
    ∙ ap (λ (x : ℕ). through x (moved_down (suc k) s moved table) (place_down (suc k) s table)) a

start_marks : (k s : ℕ) (table : List ℕ) → start_from (marks_down k) s table ≡ place_down k s table
unfolding start_from
start_marks zero s table = refl
start_marks (suc k) s table = start_marks k (s + 1) (set table (suc (suc k)) s)

-- its length
place_long : (k s : ℕ) (table : List ℕ) → length (place_down k s table) ≡ length table
place_long zero s table = length-set table 1 s
place_long (suc k) s table = place_long k (s + 1) (set table (suc (suc k)) s) ∙ length-set table (suc (suc k)) s

-- a mark further up keeps its entry
place_other : (k s : ℕ) (table : List ℕ) (m : ℕ) → suc k < m → entry (place_down k s table) m ≡ entry table m
place_other zero s table m l = get_or-set_other table 1 m s 0 (λ e. omega arith)
place_other (suc k) s table m l =
    place_other k (s + 1) (set table (suc (suc k)) s) m (omega arith) ∙ get_or-set_other table (suc (suc k)) m s 0 (λ e. omega arith)

-- the others are where the walk came to them
place_falling : (k s : ℕ) (table : List ℕ) → suc k < length table → Falling (entry (place_down k s table)) (s + suc k) (suc k)
place_falling zero s table l m i j =
    let e : m ≡ 1 = omega arith in
    rw e (get_or-set_same table 1 s 0 l ∙ let a : s ≡ s + 1 - 1 = omega arith in a)
place_falling (suc k) s table l m i j = go (eqb m (suc (suc k))) refl (place_falling k (s + 1) after long m i)
  where
    after : List ℕ
    after = set table (suc (suc k)) s

    long : suc k < length after
    long = omega (arith, length-set table (suc (suc k)) s)

    go : (q : Bool) → eqb m (suc (suc k)) ≡ q → (m ≤ suc k → entry (place_down k (s + 1) after) m ≡ s + 1 + suc k - m)
        → entry (place_down k (s + 1) after) m ≡ s + suc (suc k) - m
    go true e rest =
        let same : m ≡ suc (suc k) = eqb-true m (suc (suc k)) e in
        let kept : entry (place_down k (s + 1) after) m ≡ entry after m = place_other k (s + 1) after m (omega arith) in
        let here : entry after (suc (suc k)) ≡ s = get_or-set_same table (suc (suc k)) s 0 l in
        let there : entry after m ≡ s = ap (entry after) same ∙ here in
        omega arith
    go false e rest =
        go-less (leb m (suc k)) refl
      where
        go-less : (q : Bool) → leb m (suc k) ≡ q → entry (place_down k (s + 1) after) m ≡ s + suc (suc k) - m
        go-less true h = omega (arith, rest (leb-true m (suc k) h))
        go-less false h = absurd (eqb-false m (suc (suc k)) e (omega (arith, leb-false m (suc k) h)))

-- once moved, moved
moved_stays : (k s : ℕ) (table : List ℕ) → moved_down k s true table ≡ true
moved_stays zero s table = refl
moved_stays (suc k) s table = moved_stays k (s + 1) (set table (suc (suc k)) s)

-- a first mark that isn't where it was
moves : (k s : ℕ) (table : List ℕ) → (entry table (suc k) ≡ s → ⊥) → moved_down k s false table ≡ true
moves zero s table h = ap not (ne_eqb (entry table 1) s h)
moves (suc k) s table h =
    ap (λ (q : Bool). moved_down k (s + 1) (not q) (set table (suc (suc k)) s)) (ne_eqb (entry table (suc (suc k))) s h)
    ∙ moved_stays k (s + 1) (set table (suc (suc k)) s)

-- none is moved where all are
rests : (k s : ℕ) (table : List ℕ) → Falling (entry table) (s + suc k) (suc k) → moved_down k s false table ≡ false
rests zero s table f = ap not (eq-eqb (entry table 1) s (omega (arith, f 1 (omega arith) (omega arith))))
rests (suc k) s table f =
    let m : ℕ = suc (suc k) in
    let here : entry table m ≡ s = omega (arith, f m (omega arith) (omega arith)) in
    let others : Falling (entry (set table m s)) (s + 1 + suc k) (suc k) =
    λ a i j. get_or-set_other table m a s 0 (λ e. omega arith) ∙ f a i (omega arith) ∙ ap (λ (x : ℕ). x - a) (let e : s + suc (suc k) ≡ s + 1 + suc k = omega arith in e) in
    ap (λ (q : Bool). moved_down k (s + 1) (not q) (set table m s)) (eq-eqb (entry table m) s here) ∙ rests k (s + 1) (set table m s) others

-- ---- passes, for N = n + 1

-- a table in which mark m stands at b - m
abbrev State : ℕ → ℕ → List ℕ → Type 0
State n b table = (length table ≡ suc (suc n)) × Falling (entry table) b (suc n)

-- where a pass comes to the first mark
abbrev first : ℕ → List ℕ → ℕ
first n table = widths (entry table) (suc n) + (65537 - 4 * suc n)

-- what it comes to
one_pass : (n : ℕ) (table : List ℕ)
    → pass (line11 n) table ≡ through (first n table + n) (moved_down n (first n table) false table) (place_down n (first n table) table)
unfolding pass walk_from
one_pass n table =
    let a : 0 + widths (entry table) (suc n) + length (filler n) ≡ first n table = omega (arith, filler_long n) in
    walk_refs (suc n) (bytes (filler n) ∷ marks_down n) 0 0 false table
    ∙ ap (λ (x : ℕ). walk_from (marks_down n) (suc (0 + suc n)) x false table) a
    ∙ walk_marks n (suc (0 + suc n)) (first n table) false table

-- so the marks stand apart by one again
next_state : (n b c : ℕ) (table : List ℕ) → State n b table → first n table + suc n ≡ c → State n c (place_down n (first n table) table)
next_state n b c table st e = (
  place_long n (first n table) table ∙ st.0,
  λ m i j. place_falling n (first n table) table (omega (arith, st.0)) m i j ∙ ap (λ (x : ℕ). x - m) e,
)

-- a pass that moves a mark, from b to c
steps : (n b c : ℕ) (table : List ℕ) → State n b table → first n table + suc n ≡ c → (b ≡ c → ⊥) → suc n < b → suc n < c
    → (sum : ℕ) × (next : List ℕ) × (pass (line11 n) table ≡ through sum true next) × State n c next
steps n b c table st e other l h =
    let s : ℕ = first n table in
    let first-moves : moved_down n s false table ≡ true = moves n s table (λ at. other (omega (arith, st.1 (suc n) (omega arith) (omega arith)))) in
    (s + n, place_down n s table, one_pass n table ∙ ap (λ (q : Bool). through (s + n) q (place_down n s table)) first-moves, next_state n b c table st e)

-- from state j so many passes lead to state j + k
climbs : (n k j : ℕ) (table : List ℕ) → State n (65537 + j) table → suc n ≤ 1023 → j + k ≤ suc n
    → (last : List ℕ) × Moving (line11 n) k table last × State n (65537 + (j + k)) last
unfolding Moving
climbs n zero j table st l h =
    let e : 65537 + j ≡ 65537 + (j + 0) = omega arith in
    (table, refl, subst (λ (x : ℕ). State n x table) e st)
climbs n (suc k) j table st l h =
    let wide = widths_state (entry table) j (suc n) st.1 (omega arith) (omega arith) in
    let here : first n table + suc n ≡ 65537 + (j + 1) = omega arith in
    let p = steps n (65537 + j) (65537 + (j + 1)) table st here (λ x. omega arith) (omega arith) (omega arith) in
    let q = climbs n k (j + 1) p.1 p.3 l (omega arith) in
    let e : 65537 + (j + 1 + k) ≡ 65537 + (j + suc k) = omega arith in
    (q.0, (p.0, p.1, p.2, q.1), subst (λ (x : ℕ). State n x q.0) e q.2)

-- the start
start_state : (n : ℕ) → suc n ≤ 1023 → State n (65537 - 2 * suc n) (start (suc (suc n)) (line11 n))
unfolding start start_from
start_state n l =
    let table : List ℕ = replicate (suc (suc n)) 0 in
    let long : length table ≡ suc (suc n) = length-replicate (suc (suc n)) 0 in
    let s : ℕ = 0 + suc n + length (filler n) in
    let is : start_from (line11 n) 0 table ≡ place_down n s table = start_refs (suc n) (bytes (filler n) ∷ marks_down n) 0 table ∙ start_marks n s table in
    let e : s + suc n ≡ 65537 - 2 * suc n = omega (arith, filler_long n) in
    let st : State n (65537 - 2 * suc n) (place_down n s table) =
    (place_long n s table ∙ long, λ m i j. place_falling n s table (omega arith) m i j ∙ ap (λ (x : ℕ). x - m) e) in
    subst (State n (65537 - 2 * suc n)) (sym is) st

-- so k + 1 passes move a mark, for k up to N
moving : (n k : ℕ) → suc n ≤ 1023 → k ≤ suc n → (last : List ℕ) × Moving (line11 n) (suc k) (start (suc (suc n)) (line11 n)) last × State n (65537 + k) last
unfolding Moving
moving n k l h =
    let table : List ℕ = start (suc (suc n)) (line11 n) in
    let st = start_state n l in
    let wide = widths_low (entry table) (65537 - 2 * suc n) (suc n) st.1 (omega arith) (omega arith) in
    let here : first n table + suc n ≡ 65537 + 0 = omega arith in
    let p = steps n (65537 - 2 * suc n) (65537 + 0) table st here (λ x. omega arith) (omega arith) (omega arith) in
    let q = climbs n k 0 p.1 p.3 l (omega arith) in
    let e : 65537 + (0 + k) ≡ 65537 + k = omega arith in
    (q.0, (p.0, p.1, p.2, q.1), subst (λ (x : ℕ). State n x q.0) e q.2)

-- ---- line 11

-- its unsized references are the N
refs_count : (k : ℕ) (rest : List Section) → unsized_count (refs_down k ++ rest) ≡ k + unsized_count rest
unfolding sum_of
refs_count zero rest = omega arith
refs_count (suc k) rest = omega (arith, refs_count k rest)

marks_count : (k : ℕ) → unsized_count (marks_down k) ≡ 0
unfolding sum_of
marks_count zero = refl
marks_count (suc k) = omega (arith, marks_count k)

pub line_11_count : (n : ℕ) → unsized_count (line11 n) ≡ suc n
unfolding sum_of
line_11_count n = omega (arith, refs_count (suc n) (bytes (filler n) ∷ marks_down n), marks_count n)

-- up to 1,022 they take N + 2 passes, as many as the bound allows
pub line_11_passes : (n : ℕ) → suc n ≤ most_unsized
    → (table : List ℕ) × (length : ℕ) × (settle (suc (suc n)) (line11 n) ≡ settled table length (passes_for (suc n)))
line_11_passes n l =
    let m = moving n (suc n) (omega arith) (omega arith) in
    let last : List ℕ = m.0 in
    let s : ℕ = first n last in
    let wide = widths_state (entry last) (suc n) (suc n) m.2.1 (omega arith) (omega arith) in
    let here : 65537 + suc n ≡ s + suc n = omega arith in
    let calm : moved_down n s false last ≡ false = rests n s last (subst (λ (x : ℕ). Falling (entry last) x (suc n)) here m.2.1) in
    let ends = one_pass n last ∙ ap (λ (q : Bool). through (s + n) q (place_down n s last)) calm in (
      place_down n s last,
      s + n,
      (settle_law (suc (suc n)) (line11 n) (settled (place_down n s last) (s + n) (suc n + 2))).1
          (suc (suc n), last, omega arith, omega arith, m.1, ends),
    )

-- 'N = 1,022, P = 61,449: settled in 1,024.'
pub line_11_settled : (table : List ℕ) × (length : ℕ) × (settle 1023 (line11 1021) ≡ settled table length 1024)
line_11_settled = line_11_passes 1021 (omega arith)

-- 'N = 1,023, P = 61,445: number 11.'
pub line_11_unsettled : settle 1024 (line11 1022) ≡ unsettled
line_11_unsettled =
    let m = moving 1022 1023 (omega arith) (omega arith) in
    (settle_law 1024 (line11 1022) unsettled).1 (m.0, m.1)

-- ---- it has a layout, with four bytes for each reference: number 11 doesn't say that there is none

-- marks at b - m
abbrev offsets : ℕ → ℕ → ℕ
offsets b m = b - m

abbrev ref_widths : ℕ → List ℕ → List ℕ
ref_widths zero ws = ws
ref_widths (suc k) ws = 4 ∷ ref_widths k ws

abbrev mark_widths : ℕ → List ℕ
mark_widths zero = 0 ∷ []
mark_widths (suc k) = 0 ∷ 1 ∷ mark_widths k

refs_enough : (k b : ℕ) (rest : List Section) (ws : List ℕ) (before : ℕ) → b < 16777216 → EnoughFrom (offsets b) rest ws (before + 4 * k)
    → EnoughFrom (offsets b) (refs_down k ++ rest) (ref_widths k ws) before
refs_enough zero b rest ws before l h =
    let e : before + 4 * 0 ≡ before = omega arith in
    subst (EnoughFrom (offsets b) rest ws) e h
refs_enough (suc k) b rest ws before l h =
    let e : before + 4 * suc k ≡ before + 4 + 4 * k = omega arith in
    let v : b - suc k < 256 ^ 3 = omega arith in
    ((b - suc k, refl, inr (omega arith, omega arith, v)), refs_enough k b rest ws (before + 4) l (subst (EnoughFrom (offsets b) rest ws) e h))

marks_enough : (k b before : ℕ) → before + suc k ≡ b → EnoughFrom (offsets b) (marks_down k) (mark_widths k) before
marks_enough zero b before h = ((refl, omega arith), tt)
marks_enough (suc k) b before h = ((refl, omega arith), (refl, marks_enough k b (before + 0 + 1) (omega arith)))

pub line_11_layout : (n : ℕ) → suc n ≤ 1023 → SomeLayout (line11 n)
line_11_layout n l =
    let b : ℕ = 65537 + suc n in
    let marks = marks_enough n b (0 + 4 * suc n + length (filler n)) (omega (arith, filler_long n)) in (
      record { offset = offsets b; widths = ref_widths (suc n) (length (filler n) ∷ mark_widths n) },
      refs_enough (suc n) b (bytes (filler n) ∷ marks_down n) (length (filler n) ∷ mark_widths n) 0 (omega arith) (refl, marks),
    )
