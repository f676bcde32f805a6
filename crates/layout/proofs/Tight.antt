-- Beyond document 01, over a list of sections and a table of length n: the settling's answer is the least layout whatever A and B are, and
-- where A + B is at most 1,022 it decides whether there is one. The statements are in specs/Tight. Assumes nothing.
use Prim.Native.Nat.{ℕ, ◌+◌, ◌*◌, ◌^◌, ◌≤◌, ◌<◌}
use native.Mathlib.Omega.{arith}
use mathlib.Core.Path.{◌≡◌, refl, sym, subst}
use mathlib.Core.Logic.{inl, inr}
use mathlib.Core.List.{List}
use Rattle.units.specs.Replies as number
use Rattle.units.specs.Reply.{accepted, refused}
use Rattle.records.specs.Sections.{Section}
use Rattle.layout.specs.Layout.{Layout, in_all}
use Rattle.layout.specs.Passes.{Settling, settled, narrow_at, unsettled as unsettledPasses, settle}
use Rattle.layout.specs.Conditions.{Never, delta_at, stored_bytes, references, direct_mark, delta_start, delta_end}
use Rattle.layout.specs.Shortest.{settled_layout, SomeLayout, LeastLayout}
use Rattle.layout.specs.Answer.{Answer, laid_out, no_layout, short_table, unplaced, placed_apart, too_narrow, unsettled, backward}
use Rattle.layout.specs.Answer.{answer, Sound, Says, Laid, answer_reply, answer_table}
use Rattle.layout.specs.Tight.{unsized_count, passes_for, most_unsized, PlainSections, Decides, SaysLeast}
use Rattle.layout.proofs.Premises.{Ready, ready, never_backward}
use Rattle.layout.proofs.Answers.{settle_law, answer_law}
use Rattle.layout.proofs.Settles.{settles_least, narrow_none, settled_within, narrow_within, unsettled_many}

-- ---- replies

-- a length, where some layout gives enough
pub decides_laid : (ss : List Section) (laid : Laid) → SomeLayout ss → laid.passes ≤ passes_for (unsized_count ss) → Decides ss (accepted laid)
decides_laid ss laid some within =
    record {
      either = inl (laid, refl);
      exactly = (λ _. some, λ _. (laid, refl));
      otherwise = (λ none. absurd (none some), λ h. let e : accepted laid ≡ refused number.too_narrow h.0 h.1 = h.2 in let z : ◌≡◌ {A = ℕ} 0 1 = cc in absurd (omega arith));
      laid_within = λ other h. let same : laid ≡ other = cc in subst (λ (x : Laid). x.passes ≤ passes_for (unsized_count ss)) same within;
      narrow_within = λ i k h. let z : ◌≡◌ {A = ℕ} 0 1 = cc in absurd (omega arith);
    }

-- 10, where none does
pub decides_narrow : (ss : List Section) (i k : ℕ) → (SomeLayout ss → ⊥) → k ≤ passes_for (unsized_count ss) → Decides ss (refused number.too_narrow i k)
decides_narrow ss i k none within =
    record {
      either = inr (i, k, refl);
      exactly = (λ h. let e : refused number.too_narrow i k ≡ accepted h.0 = h.1 in let z : ◌≡◌ {A = ℕ} 0 1 = cc in absurd (omega arith), λ some. absurd (none some));
      otherwise = (λ _. (i, k, refl), λ _. none);
      laid_within = λ laid h. let z : ◌≡◌ {A = ℕ} 0 1 = cc in absurd (omega arith);
      narrow_within = λ i' k' h. let same : k ≡ k' = cc in omega (arith, within);
    }

-- a length, with the least layout
pub least_laid : (ss : List Section) (laid : Laid) (l : Layout) → LeastLayout ss l → laid.length ≡ in_all l → SaysLeast ss (accepted laid) l
least_laid ss laid l least long =
    record {
      if_laid = λ other h. let same : laid ≡ other = cc in (least, subst (λ (x : Laid). x.length ≡ in_all l) same long);
      if_narrow = λ i k h. let z : ◌≡◌ {A = ℕ} 0 1 = cc in absurd (omega arith);
      if_unsettled = λ i k h. let z : ◌≡◌ {A = ℕ} 0 1 = cc in absurd (omega arith);
    }

-- a refusal: 10 and 11 say something, no other does
pub least_refused : (ss : List Section) (num i k : ℕ) (l : Layout) → (num ≡ number.too_narrow → SomeLayout ss → ⊥)
    → (num ≡ number.unsettled → most_unsized < unsized_count ss) → SaysLeast ss (refused num i k) l
least_refused ss num i k l none many =
    record {
      if_laid = λ laid h. let z : ◌≡◌ {A = ℕ} 0 1 = cc in absurd (omega arith);
      if_narrow = λ i' k' h. let same : num ≡ number.too_narrow = cc in none same;
      if_unsettled = λ i' k' h. let same : num ≡ number.unsettled = cc in many same;
    }

-- another number
pub least_other : (ss : List Section) (num i k : ℕ) (l : Layout) → (num ≡ number.too_narrow → ⊥) → (num ≡ number.unsettled → ⊥) → SaysLeast ss (refused num i k) l
least_other ss num i k l ten eleven = least_refused ss num i k l (λ h. absurd (ten h)) (λ h. absurd (eleven h))

-- ---- the answer

module _ (n : ℕ) (ss : List Section) (small : stored_bytes ss + 5 * references ss < 2 ^ 32) where
  -- 7, 8, 17, 18 and 9 don't hold, and every reference is direct
  plain : Never ss (delta_at ss) → Sound n ss → PlainSections n ss
  plain direct sound = record { in_table = sound.0; direct = direct; marks_placed = sound.1; together = sound.2 }

  -- whatever A and B are: what each answer says
  says_least : Never ss (delta_at ss) → (a : Answer) → Says n ss a → SaysLeast ss (answer_reply a) (settled_layout (answer_table n a) ss)
  says_least direct (laid_out table e k) says =
      let v = settles_least n ss (ready (plain direct says.0) small) table e k ((settle_law n ss (settled table e k)).1 says.1) in
      let least : LeastLayout ss (settled_layout table ss) =
      record { enough = v.0; least = λ l h. let q = v.2 l h in (λ m p. q.0 m, omega (arith, q.1, v.1)) } in
      least_laid ss (record { length = e; passes = k }) (settled_layout table ss) least v.1
  says_least direct (no_layout (short_table i)) says = least_other ss number.short_table i 0 _ (λ h. omega arith) (λ h. omega arith)
  says_least direct (no_layout (unplaced direct_mark i)) says = least_other ss number.unplaced i 0 _ (λ h. omega arith) (λ h. omega arith)
  says_least direct (no_layout (unplaced delta_start i)) says = least_other ss number.start_unplaced i 0 _ (λ h. omega arith) (λ h. omega arith)
  says_least direct (no_layout (unplaced delta_end i)) says = least_other ss number.end_unplaced i 0 _ (λ h. omega arith) (λ h. omega arith)
  says_least direct (no_layout (placed_apart i)) says = least_other ss number.placed_apart i 0 _ (λ h. omega arith) (λ h. omega arith)
  says_least direct (no_layout (too_narrow i k)) says =
      let q = (settle_law n ss (narrow_at i k)).1 says.1 in
      least_refused ss number.too_narrow i k _ (λ _. narrow_none n ss (ready (plain direct says.0) small) i k q) (λ h. absurd (omega arith))
  says_least direct (no_layout unsettled) says =
      let q = (settle_law n ss unsettledPasses).1 says.1 in
      least_refused ss number.unsettled 0 number.max_passes _ (λ h. absurd (omega arith)) (λ _. unsettled_many n ss (ready (plain direct says.0) small) q)
  says_least direct (no_layout (backward i k)) says = least_other ss number.backward i k _ (λ h. omega arith) (λ h. omega arith)

  -- so of the answer
  pub answer_least : Never ss (delta_at ss) → SaysLeast ss (answer_reply (answer n ss)) (settled_layout (answer_table n (answer n ss)) ss)
  answer_least direct = says_least direct (answer n ss) ((answer_law n ss (answer n ss)).0 refl)

  -- up to 1,022 unsized references the answer decides, within A + B + 2 passes
  pub answer_decides : PlainSections n ss → unsized_count ss ≤ most_unsized → Decides ss (answer_reply (answer n ss))
  answer_decides given few = go (settle n ss) refl
    where
      prepared : Ready n ss
      prepared = ready given small

      sound : Sound n ss
      sound = (given.in_table, given.marks_placed, given.together)

      go : (a : Settling) → settle n ss ≡ a → Decides ss (answer_reply (answer n ss))
      go (settled table e k) q =
          let is = (answer_law n ss (laid_out table e k)).1 (sound, (settle_law n ss (settled table e k)).0 q, never_backward table ss given.direct) in
          let some : SomeLayout ss = (settled_layout table ss, (settles_least n ss prepared table e k q).0) in
          let laid = decides_laid ss (record { length = e; passes = k }) some (settled_within n ss prepared table e k q) in
          subst (λ (a : Answer). Decides ss (answer_reply a)) (sym is) laid
      go (narrow_at i k) q =
          let is = (answer_law n ss (no_layout (too_narrow i k))).1 (sound, (settle_law n ss (narrow_at i k)).0 q) in
          let narrow = decides_narrow ss i k (narrow_none n ss prepared i k q) (narrow_within n ss prepared i k q) in
          subst (λ (a : Answer). Decides ss (answer_reply a)) (sym is) narrow
      go unsettledPasses q = absurd (omega (arith, few, unsettled_many n ss prepared q))
