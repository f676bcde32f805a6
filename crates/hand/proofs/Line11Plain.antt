-- Document 01's line 11 as replies: no section of it has a 7, 8, 17, 18, 9 or 12, for any N, so up to 1,022 references the reply is a length
-- in N + 2 passes, and for 1,023 it is number 11. Assumes nothing.
use Prim.Native.Nat.{ℕ, zero, suc, ◌+◌, ◌*◌, ◌≤◌, ◌<◌}
use native.Mathlib.Omega.{arith}
use mathlib.Core.Path.{◌≡◌, refl, ◌∙◌, ap, subst}
use mathlib.Core.Bool.{Bool, true, false, not, ◌||◌}
use mathlib.Mathlib.Data.Bool.Basic.{dichotomy}
use mathlib.Core.Logic.{◌⊎◌, inl, inr}
use mathlib.Core.List.{List, ◌∷◌, ◌++◌}
use lib.Dec.{eqb, leb}
use lib.ListN.{length}
use borrow.Author.Tests.{eqb-false, lt-leb}
use Rattle.units.specs.Replies as number
use Rattle.units.specs.Reply.{accepted, refused}
use Rattle.units.specs.declared.MarkReference.{MarkReference}
use Rattle.units.specs.declared.MarkReference.TheVariants.{Direct, Delta}
use Rattle.records.specs.Sections.{Section, mark, ops, bytes, reference}
use Rattle.layout.specs.Passes.{settled, unsettled, settle}
use Rattle.layout.specs.Conditions.{Never, section_at, places_some, some_mark, names_some, refers, is_delta, placed, short_at, unplaced_at, apart_at, delta_at}
use Rattle.layout.specs.ConditionLaws.{Places, BytesBetween}
use Rattle.layout.specs.Answer.{laid_out, no_layout, unsettled as unsettledAnswer, answer, Sound, answer_reply}
use Rattle.layout.specs.Tight.{passes_for, most_unsized, PlainSections}
use Rattle.layout.proofs.ConditionLaws.{condition_laws}
use Rattle.layout.proofs.Premises.{never_backward}
use Rattle.layout.proofs.Answers.{settle_law, answer_law}
use Rattle.hand.proofs.Line11.{refs_down, marks_down, filler, line11, line_11_passes, line_11_unsettled}

-- ---- its sections

-- a direct reference to one of marks 1 to k
abbrev PlainReference : ℕ → MarkReference → Type 0
PlainReference k (Direct m) = (1 ≤ m.0) × (m.0 ≤ k)
PlainReference k (Delta s) = ⊥

-- section i of such a list: no mark is past k, and mark m is 2 × m sections before c
abbrev Plain : ℕ → ℕ → ℕ → Section → Type 0
Plain k c i (mark m) = (m ≤ k) × (i + 2 * m ≡ c)
Plain k c i (ops bs) = ⊥
Plain k c i (bytes bs) = Unit {0}
Plain k c i (reference r) = PlainReference k r.mark_ref

-- section i of the marks, section p of the whole list
marks_plain : (k c n i p : ℕ) → suc n ≤ k → p + 2 * suc n ≡ c + i → i < length (marks_down n) → Plain k c p (section_at (marks_down n) i)
marks_plain k c zero zero p h e l = (h, omega arith)
marks_plain k c zero (suc i) p h e l = absurd (omega arith)
marks_plain k c (suc n) zero p h e l = (h, omega arith)
marks_plain k c (suc n) (suc zero) p h e l = tt
marks_plain k c (suc n) (suc (suc i)) p h e l = marks_plain k c n i p (omega arith) (omega arith) (omega arith)

-- section i of the references and what follows them
refs_plain : (k c n i p : ℕ) (rest : List Section) → n ≤ k → ((j : ℕ) → i ≡ n + j → j < length rest → Plain k c p (section_at rest j))
    → i < length (refs_down n ++ rest) → Plain k c p (section_at (refs_down n ++ rest) i)
refs_plain k c zero i p rest h after l = after i (omega arith) l
refs_plain k c (suc n) zero p rest h after l = (omega arith, h)
refs_plain k c (suc n) (suc i) p rest h after l = refs_plain k c n i p rest (omega arith) (λ j e. after j (omega arith)) (omega arith)

-- where line 11's mark 0 would be
abbrev end : ℕ → ℕ
end n = suc (suc n) + 2 * suc n

-- section i of line 11
sections_plain : (n i : ℕ) → i < length (line11 n) → Plain (suc n) (end n) i (section_at (line11 n) i)
sections_plain n i = refs_plain (suc n) (end n) (suc n) i i (bytes (filler n) ∷ marks_down n) (omega arith) after
  where
    after : (j : ℕ) → i ≡ suc n + j → j < length (bytes (filler n) ∷ marks_down n) → Plain (suc n) (end n) i (section_at (bytes (filler n) ∷ marks_down n) j)
    after zero e l = tt
    after (suc j) e l = marks_plain (suc n) (end n) n j i (omega arith) (omega arith) (omega arith)

-- ---- no 7, no delta, no unplaced mark

module _ (k c i : ℕ) where
  -- a reference names no mark with a property that none of 1 to k has
  marks_without : (test : ℕ → Bool) → ((m : ℕ) → 1 ≤ m → m ≤ k → test m ≡ false) → (r : MarkReference) → PlainReference k r → some_mark test r ≡ false
  marks_without test none (Direct m) h = none m.0 h.0 h.1
  marks_without test none (Delta s) h = absurd h

  -- nor does a section
  names_without : (test : ℕ → Bool) → ((m : ℕ) → 1 ≤ m → m ≤ k → test m ≡ false) → (s : Section) → Plain k c i s → names_some test s ≡ false
  names_without test none (mark m) h = refl
  names_without test none (ops bs) h = refl
  names_without test none (bytes bs) h = refl
  names_without test none (reference r) h = marks_without test none r.mark_ref h

  -- a section's marks are in a table of length k + 1
  plain_short : (s : Section) → Plain k c i s → (places_some (leb (suc k)) s || names_some (leb (suc k)) s) ≡ false
  plain_short (mark m) h = rw (lt-leb (suc k) m (omega (arith, h.0)))
  plain_short (ops bs) h = refl
  plain_short (bytes bs) h = refl
  plain_short (reference r) h = marks_without (leb (suc k)) (λ m a b. lt-leb (suc k) m (omega arith)) r.mark_ref h

  -- a reference is direct
  reference_direct : (r : MarkReference) → PlainReference k r → is_delta r ≡ false
  reference_direct (Direct m) h = refl
  reference_direct (Delta s) h = absurd h

  -- so a section is no delta
  plain_direct : (s : Section) → Plain k c i s → refers is_delta s ≡ false
  plain_direct (mark m) h = refl
  plain_direct (ops bs) h = refl
  plain_direct (bytes bs) h = refl
  plain_direct (reference r) h = reference_direct r.mark_ref h

-- the references place nothing
refs_placed : (n m : ℕ) (rest : List Section) → placed (refs_down n ++ rest) m ≡ placed rest m
unfolding placed
refs_placed zero m rest = refl
refs_placed (suc n) m rest = refs_placed n m rest

-- each of marks 1 to n + 1 is placed
marks_placed_lem : (n m : ℕ) → 1 ≤ m → m ≤ suc n → placed (marks_down n) m ≡ true
unfolding placed
marks_placed_lem zero m h l = let e : m ≡ 1 = omega arith in rw e
marks_placed_lem (suc n) m h l = go (eqb m (suc (suc n))) refl (marks_placed_lem n m h)
  where
    go : (q : Bool) → eqb m (suc (suc n)) ≡ q → (m ≤ suc n → placed (marks_down n) m ≡ true) → (q || placed (marks_down n) m) ≡ true
    go true e rest = refl
    go false e rest = let other : m ≡ suc (suc n) → ⊥ = eqb-false m (suc (suc n)) e in rest (omega (arith, other))

-- of line 11 too
line_placed : (n m : ℕ) → 1 ≤ m → m ≤ suc n → placed (line11 n) m ≡ true
unfolding placed
line_placed n m h l = refs_placed (suc n) m (bytes (filler n) ∷ marks_down n) ∙ marks_placed_lem n m h l

-- ---- no 9

-- the position of a mark in line 11, by its number
mark_position : (n i m : ℕ) → Places (line11 n) i m → i + 2 * m ≡ end n
mark_position n i m (l, e) = (subst (Plain (suc n) (end n) i) e (sections_plain n i l)).1

-- no mark is placed twice
line_together : (n : ℕ) → Never (line11 n) (apart_at (line11 n))
line_together n i l = go (dichotomy (apart_at (line11 n) i))
  where
    go : (apart_at (line11 n) i ≡ false) ⊎ (apart_at (line11 n) i ≡ true) → apart_at (line11 n) i ≡ false
    go (inl h) = h
    go (inr h) = twice (((condition_laws (line11 n)).apart_iff i l).0 h)
      where
        twice : (m : ℕ) × (j : ℕ) × Places (line11 n) i m × Places (line11 n) j m × (j < i) × BytesBetween (line11 n) j i → apart_at (line11 n) i ≡ false
        twice (m, j, here, there, before, between) = absurd (omega (arith, mark_position n i m here, mark_position n j m there))

-- ---- replies

-- demand 3's premises on marks and references
pub line_11_plain : (n : ℕ) → PlainSections (suc (suc n)) (line11 n)
unfolding short_at delta_at unplaced_at
line_11_plain n =
    let absent : (m : ℕ) → 1 ≤ m → m ≤ suc n → not (placed (line11 n) m) ≡ false = λ m a b. ap not (line_placed n m a b) in
    record {
      in_table = λ i l. plain_short (suc n) (end n) i (section_at (line11 n) i) (sections_plain n i l);
      direct = λ i l. plain_direct (suc n) (end n) i (section_at (line11 n) i) (sections_plain n i l);
      marks_placed = λ i l. names_without (suc n) (end n) i (λ m. not (placed (line11 n) m)) absent (section_at (line11 n) i) (sections_plain n i l);
      together = line_together n;
    }

-- so neither 7, 8, 17, 18 nor 9
line_sound : (n : ℕ) → Sound (suc (suc n)) (line11 n)
line_sound n = let p = line_11_plain n in (p.in_table, p.marks_placed, p.together)

-- where it isn't settled, the reply is number 11
unsettled_reply : (n : ℕ) → settle (suc (suc n)) (line11 n) ≡ unsettled → answer_reply (answer (suc (suc n)) (line11 n)) ≡ refused number.unsettled 0 number.max_passes
unsettled_reply n h =
    let means = (settle_law (suc (suc n)) (line11 n) unsettled).0 h in
    ap answer_reply ((answer_law (suc (suc n)) (line11 n) (no_layout unsettledAnswer)).1 (line_sound n, means))

-- 'N = 1,023, P = 61,445: number 11.'
pub line_11_number_11 : answer_reply (answer 1024 (line11 1022)) ≡ refused number.unsettled 0 number.max_passes
line_11_number_11 = unsettled_reply 1022 line_11_unsettled

-- up to 1,022 references are laid out in exactly the passes that the bound allows
pub line_11_within : (n : ℕ) → suc n ≤ most_unsized
    → (length : ℕ) × (answer_reply (answer (suc (suc n)) (line11 n)) ≡ accepted (record { length = length; passes = passes_for (suc n) }))
line_11_within n l =
    let q = line_11_passes n l in
    let means = (settle_law (suc (suc n)) (line11 n) (settled q.0 q.1 (passes_for (suc n)))).0 q.2 in
    let forward = never_backward q.0 (line11 n) (line_11_plain n).direct in
    (q.1, ap answer_reply ((answer_law (suc (suc n)) (line11 n) (laid_out q.0 q.1 (passes_for (suc n)))).1 (line_sound n, means, forward)))
