-- The law of each answer: settled, 10 and 11 by the pass that ended it; 7, 8 with 17 and 18, 9 and 12 by the first section concerned.
-- Assumes nothing.
use Prim.Native.Nat.{ℕ, zero, suc, ◌+◌, ◌-◌, ◌<◌}
use native.Mathlib.Omega.{arith}
use mathlib.Core.Path.{◌≡◌, refl, sym, ◌∙◌, ap, subst}
use mathlib.Core.Bool.{Bool, true, false}
use mathlib.Core.Logic.{◌↔◌, ◌⊎◌, inl, inr}
use mathlib.Core.List.{List}
use lib.ListN.{length}
use Rattle.units.specs.Replies.{max_passes}
use Rattle.records.specs.Sections.{Section}
use Rattle.layout.specs.Passes.{start, Walked, through, left_at, pass, Settling, settled, narrow_at, unsettled, ended, passes, settle}
use Rattle.layout.specs.Conditions.{first, IsFirst, Never, short_at, first_short, unplaced_at, first_unplaced, apart_at, first_apart, backward_at, first_backward, Moving, PassGoes, Means}
use Rattle.layout.specs.Conditions.{Missing, missing_at}
use Rattle.layout.specs.Answer.{LayoutRefusal, short_table, unplaced, placed_apart, too_narrow, backward, Answer, laid_out, no_layout}
use Rattle.layout.specs.Answer.{unsettled as unsettledAnswer, or_else, missed, settling_answer, answer, Sound, Says}
use Rattle.layout.proofs.Least.{first_law, first_or_never, first_hit, first_miss}

-- ---- settled, 10, 11

-- a walk that ends the passes, as pass k
abbrev Ending : ℕ → Walked → Settling → Type 0
Ending k (left_at i) a = a ≡ narrow_at i k
Ending k (through sum false table) a = a ≡ settled table sum k
Ending k (through sum true table) a = ⊥

-- how passes end: after so many that moved a mark, either none is left, or the next ends them
record Ended (ss : List Section) (left k : ℕ) (table : List ℕ) (a : Settling) : Type 0 where
  moves : ℕ
  last : List ℕ
  moving : Moving ss moves table last
  end : ((moves ≡ left) × (a ≡ unsettled)) ⊎ ((moves < left) × Ending (k + moves) (pass ss last) a)

-- the pass at hand ends them
ended_here : (ss : List Section) (left k : ℕ) (table : List ℕ) (w : Walked) (a : Settling) → pass ss table ≡ w → Ending k w a → Ended ss (suc left) k table a
unfolding Moving
ended_here ss left k table w a e h =
    let z : k ≡ k + 0 = omega arith in
    record {
      moves = 0;
      last = table;
      moving = refl;
      end = inr (omega arith, rw e (subst (λ (x : ℕ). Ending x w a) z h));
    }

-- the pass at hand moved a mark, and they end later
ended_on : (ss : List Section) (left k : ℕ) (table : List ℕ) (sum : ℕ) (next : List ℕ) (a : Settling) → pass ss table ≡ through sum true next
    → Ended ss left (suc k) next a → Ended ss (suc left) k table a
unfolding Moving
ended_on ss left k table sum next a e q =
    record { moves = suc q.moves; last = q.last; moving = (sum, next, e, q.moving); end = go q.end }
  where
    go : ((q.moves ≡ left) × (a ≡ unsettled)) ⊎ ((q.moves < left) × Ending (suc k + q.moves) (pass ss q.last) a)
        → ((suc q.moves ≡ suc left) × (a ≡ unsettled)) ⊎ ((suc q.moves < suc left) × Ending (k + suc q.moves) (pass ss q.last) a)
    go (inl h) = inl (ap suc h.0, h.1)
    go (inr h) =
        let z : suc k + q.moves ≡ k + suc q.moves = omega arith in
        inr (omega (arith, h.0), subst (λ (x : ℕ). Ending x (pass ss q.last) a) z h.1)

-- so the passes end
passes_end : (ss : List Section) (left k : ℕ) (table : List ℕ) → Ended ss left k table (passes left k ss table)
unfolding passes Moving
passes_end ss zero k table = record { moves = 0; last = table; moving = refl; end = inl (refl, refl) }
passes_end ss (suc left) k table = go (pass ss table) refl (λ next. passes_end ss left (suc k) next)
  where
    go : (w : Walked) → pass ss table ≡ w → ((next : List ℕ) → Ended ss left (suc k) next (passes left (suc k) ss next))
        → Ended ss (suc left) k table (ended k (λ next. passes left (suc k) ss next) w)
    go (left_at i) e rest = ended_here ss left k table (left_at i) (narrow_at i k) e refl
    go (through sum false next) e rest = ended_here ss left k table (through sum false next) (settled next sum k) e refl
    go (through sum true next) e rest = ended_on ss left k table sum next (passes left (suc k) ss next) e (rest next)

-- after passes that moved a mark, the passes that are left go on
passes_on : (ss : List Section) (moves left left' k k' : ℕ) (table last : List ℕ) → left ≡ moves + left' → k' ≡ k + moves → Moving ss moves table last
    → passes left k ss table ≡ passes left' k' ss last
unfolding passes Moving
passes_on ss zero left left' k k' table last h h' m =
    let a : left ≡ left' = omega arith in
    let b : k' ≡ k = omega arith in
    rw (a, b, m)
passes_on ss (suc moves) zero left' k k' table last h h' m = absurd (omega arith)
passes_on ss (suc moves) (suc left) left' k k' table last h h' m =
    rw m.2 (passes_on ss moves left left' (suc k) k' m.1 last (omega arith) (omega arith) m.3)

-- the pass that ends them
pass_ends : (n : ℕ) (ss : List Section) (k : ℕ) (w : Walked) → PassGoes n ss k w
    → (left : ℕ) × (settle n ss ≡ ended k (λ next. passes left (suc k) ss next) w)
unfolding settle passes
pass_ends n ss k w h =
    let left : ℕ = max_passes - k in
    let a : max_passes ≡ h.0 + suc left = omega (arith, h.2, h.3) in
    let b : k ≡ 1 + h.0 = omega (arith, h.2) in
    (left, passes_on ss h.0 max_passes (suc left) 1 k (start n ss) h.1 a b h.4 ∙ ap (ended k (λ next. passes left (suc k) ss next)) h.5)

module _ (n : ℕ) (ss : List Section) where
  -- what the answer means holds
  means : Means n ss (settle n ss)
  unfolding settle
  means = go the_end.end
    where
      the_end : Ended ss max_passes 1 (start n ss) (settle n ss)
      the_end = passes_end ss max_passes 1 (start n ss)

      last : (w : Walked) → pass ss the_end.last ≡ w → the_end.moves < max_passes → Ending (1 + the_end.moves) w (settle n ss) → Means n ss (settle n ss)
      last (left_at i) e l h =
          subst (Means n ss) (sym h) (the_end.moves, the_end.last, omega arith, omega arith, the_end.moving, e)
      last (through sum false table) e l h =
          subst (Means n ss) (sym h) (the_end.moves, the_end.last, omega arith, omega arith, the_end.moving, e)
      last (through sum true table) e l h = absurd h

      go : ((the_end.moves ≡ max_passes) × (settle n ss ≡ unsettled)) ⊎ ((the_end.moves < max_passes) × Ending (1 + the_end.moves) (pass ss the_end.last) (settle n ss))
          → Means n ss (settle n ss)
      go (inl h) = subst (Means n ss) (sym h.1) (the_end.last, subst (λ (x : ℕ). Moving ss x (start n ss) the_end.last) h.0 the_end.moving)
      go (inr h) = last (pass ss the_end.last) refl h.0 h.1

  -- and only the answer means what holds
  answers : (a : Settling) → Means n ss a → settle n ss ≡ a
  unfolding settle passes
  answers (settled table sum k) h = (pass_ends n ss k (through sum false table) h).1
  answers (narrow_at i k) h = (pass_ends n ss k (left_at i) h).1
  answers unsettled h = passes_on ss max_passes max_passes 0 1 (1 + max_passes) (start n ss) h.0 refl refl h.1

  -- the law of settled, 10 and 11: each is answered exactly when it holds
  pub settle_law : (a : Settling) → (settle n ss ≡ a) ↔ Means n ss a
  settle_law a = (λ h. subst (Means n ss) h means, answers a)

-- ---- 7; 8, 17, 18; 9; 12

-- 7: the first section with a mark at or past the table's length
pub short_law : (n : ℕ) (ss : List Section) (i : ℕ) → ((first_short n ss ≡ i) × (i < length ss)) ↔ IsFirst ss (short_at n ss) i
unfolding first_short
short_law n ss = first_law ss (short_at n ss)

-- 8, 17 or 18: the first reference with a mark that is never placed
pub unplaced_law : (ss : List Section) (i : ℕ) → ((first_unplaced ss ≡ i) × (i < length ss)) ↔ IsFirst ss (unplaced_at ss) i
unfolding first_unplaced
unplaced_law ss = first_law ss (unplaced_at ss)

-- 9: the first placing with bytes between it and an earlier one
pub apart_law : (ss : List Section) (i : ℕ) → ((first_apart ss ≡ i) × (i < length ss)) ↔ IsFirst ss (apart_at ss) i
unfolding first_apart
apart_law ss = first_law ss (apart_at ss)

-- 12: the first delta whose end is below its start by the table
pub backward_law : (table : List ℕ) (ss : List Section) (i : ℕ)
    → ((first_backward table ss ≡ i) × (i < length ss)) ↔ IsFirst ss (backward_at table ss) i
unfolding first_backward
backward_law table ss = first_law ss (backward_at table ss)

-- ---- the whole answer

-- the refusal of a first section
hit : (ss : List Section) (test : ℕ → Bool) (refusal : ℕ → LayoutRefusal) (next : Answer) (i : ℕ) → IsFirst ss test i → or_else ss (first ss test) refusal next ≡ no_layout (refusal i)
hit ss test refusal next i h = first_hit ss test (λ j. no_layout (refusal j)) next i h

-- what comes next, if there is none
miss : (ss : List Section) (test : ℕ → Bool) (refusal : ℕ → LayoutRefusal) (next : Answer) → Never ss test → or_else ss (first ss test) refusal next ≡ next
miss ss test refusal next h = first_miss ss test (λ j. no_layout (refusal j)) next h

module _ (n : ℕ) (ss : List Section) where
  -- where 7, 8, 17, 18 and 9 aren't answered, the settling is
  pub sound_answer : Sound n ss → answer n ss ≡ settling_answer ss (settle n ss)
  unfolding answer first_short first_unplaced first_apart
  sound_answer h =
      miss ss (short_at n ss) short_table _ h.0 ∙ miss ss (unplaced_at ss) (missed ss) _ h.1 ∙ miss ss (apart_at ss) placed_apart _ h.2

  -- what is said of an answer makes it the answer
  says_answer : (a : Answer) → Says n ss a → answer n ss ≡ a
  unfolding answer first_short first_unplaced first_apart first_backward
  says_answer (laid_out table sum k) h =
      sound_answer h.0 ∙ ap (settling_answer ss) ((settle_law n ss (settled table sum k)).1 h.1) ∙ miss ss (backward_at table ss) (λ i. backward i k) _ h.2
  says_answer (no_layout (short_table i)) h = hit ss (short_at n ss) short_table _ i h
  says_answer (no_layout (unplaced x i)) h =
      miss ss (short_at n ss) short_table _ h.0 ∙ hit ss (unplaced_at ss) (missed ss) _ i h.1 ∙ ap (λ (y : Missing). no_layout (unplaced y i)) h.2
  says_answer (no_layout (placed_apart i)) h =
      miss ss (short_at n ss) short_table _ h.0 ∙ miss ss (unplaced_at ss) (missed ss) _ h.1 ∙ hit ss (apart_at ss) placed_apart _ i h.2
  says_answer (no_layout (too_narrow i k)) h = sound_answer h.0 ∙ ap (settling_answer ss) ((settle_law n ss (narrow_at i k)).1 h.1)
  says_answer (no_layout unsettledAnswer) h = sound_answer h.0 ∙ ap (settling_answer ss) ((settle_law n ss unsettled).1 h.1)
  says_answer (no_layout (backward i k)) h =
      sound_answer h.2 ∙ ap (settling_answer ss) ((settle_law n ss (settled h.0 h.1 k)).1 h.3) ∙ hit ss (backward_at h.0 ss) (λ j. backward j k) _ i h.4

  -- something is said of some answer
  settling_said : Sound n ss → (a : Settling) → Means n ss a → (b : Answer) × Says n ss b
  settling_said h (settled table sum k) m = go (first_or_never ss (backward_at table ss))
    where
      go : ((i : ℕ) × IsFirst ss (backward_at table ss) i) ⊎ Never ss (backward_at table ss) → (b : Answer) × Says n ss b
      go (inl q) = (no_layout (backward q.0 k), (table, sum, h, m, q.1))
      go (inr q) = (laid_out table sum k, (h, m, q))
  settling_said h (narrow_at i k) m = (no_layout (too_narrow i k), (h, m))
  settling_said h unsettled m = (no_layout unsettledAnswer, (h, m))

  -- and of some answer in every case
  said : (b : Answer) × Says n ss b
  said = short (first_or_never ss (short_at n ss))
    where
      apart : Never ss (short_at n ss) → Never ss (unplaced_at ss) → ((i : ℕ) × IsFirst ss (apart_at ss) i) ⊎ Never ss (apart_at ss) → (b : Answer) × Says n ss b
      apart h g (inl q) = (no_layout (placed_apart q.0), (h, g, q.1))
      apart h g (inr q) = settling_said (h, g, q) (settle n ss) ((settle_law n ss (settle n ss)).0 refl)

      placing : Never ss (short_at n ss) → ((i : ℕ) × IsFirst ss (unplaced_at ss) i) ⊎ Never ss (unplaced_at ss) → (b : Answer) × Says n ss b
      placing h (inl q) = (no_layout (unplaced (missing_at ss q.0) q.0), (h, q.1, refl))
      placing h (inr q) = apart h q (first_or_never ss (apart_at ss))

      short : ((i : ℕ) × IsFirst ss (short_at n ss) i) ⊎ Never ss (short_at n ss) → (b : Answer) × Says n ss b
      short (inl q) = (no_layout (short_table q.0), q.1)
      short (inr q) = placing q (first_or_never ss (unplaced_at ss))

  -- each answer is given in its stated condition and in no other
  pub answer_law : (a : Answer) → (answer n ss ≡ a) ↔ Says n ss a
  answer_law a = (λ h. subst (Says n ss) (sym (says_answer said.0 said.1) ∙ h) said.1, says_answer a)
