-- How the searches and the passes make the answer: one law for each way that the code goes, on plain variables. Assumes nothing.
use Prim.Native.Nat.{ℕ}
use native.Mathlib.Omega.{arith}
use mathlib.Core.Path.{◌≡◌, refl, sym, ap, ◌∙◌, subst}
use mathlib.Core.List.{List}
use lib.ListN.{replicate}
use Rattle.std.specs.Prelude.{Result, Ok, Err}
use Rattle.units.specs.Replies.{max_passes}
use Rattle.units.specs.Reply.{Reply, numbers_reply}
use Rattle.units.specs.declared.reply.LaidOut.{LaidOut}
use Rattle.units.specs.declared.reply.Refusal.{Refusal}
use Rattle.records.specs.Store.{Store}
use Rattle.records.specs.Damage.{whole_soundness}
use Rattle.records.specs.Sections.{Section, decode}
use Rattle.records.specs.Damage.{Soundness}
use Rattle.layout.specs.Passes.{start, Settling, settled, narrow_at, unsettled, passes, settle}
use Rattle.layout.specs.Conditions.{Missing, direct_mark, delta_start, delta_end, IsFirst, Never, backward_at, first_backward}
use Rattle.layout.specs.Answer.{LayoutRefusal, unplaced, backward, Answer, no_layout, settling_answer, answer, Sound, Says}
use Rattle.layout.specs.Answer.{layout_numbers, Laid, answer_reply, answer_table}
use Rattle.layout.proofs.Answers.{sound_answer, answer_law}
use Rattle.layout.proofs.Least.{first_hit, first_miss}
use Rattle.settling.specs.SectionWalk.{missing_refusal, passes_reply, passes_table}
use Rattle.settling.specs.Settle.{settlement, settling, settled_reply}

-- a reply and a table that are those of an answer
abbrev pub Answers : ℕ → Answer → Reply Laid → List ℕ → Type 0
Answers n a reply table = (reply ≡ answer_reply a) × (table ≡ answer_table n a)

-- a refusal, with the table all 0
pub answers_refused : (n : ℕ) (a : Answer) (r : LayoutRefusal) (table : List ℕ) → a ≡ no_layout r → table ≡ replicate n 0
    → Answers n a (numbers_reply (layout_numbers r)) table
answers_refused n a r table e h = (ap answer_reply (sym e), h ∙ ap (answer_table n) (sym e))

-- so where the condition of a refusal holds
pub answers_said : (n : ℕ) (ss : List Section) (r : LayoutRefusal) (table : List ℕ) → Says n ss (no_layout r) → table ≡ replicate n 0
    → Answers n (answer n ss) (numbers_reply (layout_numbers r)) table
answers_said n ss r table says h = answers_refused n (answer n ss) r table ((answer_law n ss (no_layout r)).1 says) h

-- 8, 17 or 18 as the code refuses it
pub missing_reply : (x : Missing) (i : ℕ) → settled_reply (Err (missing_refusal x i)) ≡ numbers_reply (layout_numbers (unplaced x i))
missing_reply direct_mark i = refl
missing_reply delta_start i = refl
missing_reply delta_end i = refl

-- and where 7, 8, 17, 18 and 9 don't hold, what the settling answers
pub answers_sound : (n : ℕ) (ss : List Section) (reply : Reply Laid) (table : List ℕ) → Sound n ss → Answers n (settling_answer ss (settle n ss)) reply table
    → Answers n (answer n ss) reply table
answers_sound n ss reply table sound h = subst (λ (a : Answer). Answers n a reply table) (sym (sound_answer n ss sound)) h

-- ---- 12

-- the passes from the start table are the settling
pub settle_is : (n : ℕ) (ss : List Section) (table : List ℕ) → table ≡ start n ss → passes max_passes 1 ss table ≡ settle n ss
unfolding settle
settle_is n ss table e = ap (passes max_passes 1 ss) e

-- s is what the passes come to; reply and table are what they left
module _ (n : ℕ) (ss : List Section) (reply : Result LaidOut Refusal) (table : List ℕ) where
  -- refused by the passes
  pub placed_refused : (s : Settling) (r : Refusal) → reply ≡ passes_reply s → table ≡ passes_table n s → reply ≡ Err r → Answers n (settling_answer ss s) (settled_reply reply) table
  placed_refused (settled t sum k) r replied left e = let z : ◌≡◌ {A = ℕ} 0 1 = cc in absurd (omega arith)
  placed_refused (narrow_at i k) r replied left e = (ap settled_reply replied, left)
  placed_refused unsettled r replied left e = (ap settled_reply replied, left)

  -- backward at b
  pub placed_backward : (s : Settling) (laid : LaidOut) (b : ℕ) (cleared : List ℕ) → reply ≡ passes_reply s → table ≡ passes_table n s → reply ≡ Ok laid
      → IsFirst ss (backward_at table ss) b → cleared ≡ replicate n 0 → Answers n (settling_answer ss s) (numbers_reply (layout_numbers (backward b laid.passes))) cleared
  unfolding first_backward
  placed_backward (settled t sum j) laid b cleared replied left e first c =
      let same : ◌≡◌ {A = LaidOut} (record { length = sum; passes = j }) laid = let q : Ok (record { length = sum; passes = j }) ≡ Ok laid = sym replied ∙ e in cc in
      let at-left : IsFirst ss (backward_at t ss) b = subst (λ (x : List ℕ). IsFirst ss (backward_at x ss) b) left first in
      answers_refused n (settling_answer ss (settled t sum j)) (backward b laid.passes) cleared
      (first_hit ss (backward_at t ss) (λ i. no_layout (backward i j)) _ b at-left ∙ ap (λ (x : LaidOut). no_layout (backward b x.passes)) same) c
  placed_backward (narrow_at i j) laid b cleared replied left e first c = let z : ◌≡◌ {A = ℕ} 0 1 = cc in absurd (omega arith)
  placed_backward unsettled laid b cleared replied left e first c = let z : ◌≡◌ {A = ℕ} 0 1 = cc in absurd (omega arith)

  -- laid out
  pub placed_done : (s : Settling) (laid : LaidOut) → reply ≡ passes_reply s → table ≡ passes_table n s → reply ≡ Ok laid
      → Never ss (backward_at table ss) → Answers n (settling_answer ss s) (settled_reply (Ok laid)) table
  unfolding first_backward
  placed_done (settled t sum j) laid replied left e never =
      let none : Never ss (backward_at t ss) = subst (λ (x : List ℕ). Never ss (backward_at x ss)) left never in
      subst (λ (a : Answer). Answers n a (settled_reply (Ok laid)) table) (sym (first_miss ss (backward_at t ss) (λ i. no_layout (backward i j)) _ none)) (ap settled_reply (sym e ∙ replied), left)
  placed_done (narrow_at i j) laid replied left e never = let z : ◌≡◌ {A = ℕ} 0 1 = cc in absurd (omega arith)
  placed_done unsettled laid replied left e never = let z : ◌≡◌ {A = ℕ} 0 1 = cc in absurd (omega arith)

-- ---- 6

-- by what the test for it found
pub settles_as : (w n : ℕ) (st : Store) (s : Soundness) → whole_soundness w st ≡ s → settling w n st ≡ settlement n s (answer n (decode w st))
unfolding settling
settles_as w n st s e = ap (λ (x : Soundness). settlement n x (answer n (decode w st))) e
