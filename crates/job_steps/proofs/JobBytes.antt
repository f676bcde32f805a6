-- A job's numbers of four bytes, highest first, and its parts and steps as they are read. Assumes nothing.
use Prim.Native.Nat.{ℕ, zero, suc, ◌+◌, ◌*◌, ◌-◌, ◌≤◌}
use native.Mathlib.Omega.{arith}
use mathlib.Core.Path.{◌≡◌, refl, sym, ap, ap₂, ◌∙◌}
use mathlib.Core.Bool.{true, false}
use mathlib.Core.List.{List, [], ◌∷◌, map}
use lib.ListN.{length, get_or, take, drop}
use lib.Seq.{slice}
use Rattle.std.proofs.lemmas.List.{drop-take, take-take, drop-drop, get_or-take, get_or-drop}
use borrow.Author.Tests.{ne_eqb, eq-eqb}
use Rattle.std.specs.Int.{w32, from_be_bytes}
use Rattle.std.specs.Simd.{first_chunks}
use Rattle.std.specs.List.{IsSplitAt}
use Rattle.units.specs.Numbers.{number, number_after}
use Rattle.job_steps.specs.declared.read.Step.{Step}
use Rattle.job_steps.specs.JobFormat.{number_at, pool_count, pool, step_count, steps_start, step_bytes, step_at, step_of, steps_from, steps, is_whole}

-- four bytes
pub four_bytes : (bs : List ℕ) → length bs ≡ 4 → from_be_bytes w32 bs ≡ number bs
unfolding number number_after
four_bytes [] e = absurd (omega (arith, e))
four_bytes (a ∷ []) e = absurd (omega (arith, e))
four_bytes (a ∷ b ∷ []) e = absurd (omega (arith, e))
four_bytes (a ∷ b ∷ c ∷ []) e = absurd (omega (arith, e))
four_bytes (a ∷ b ∷ c ∷ d ∷ []) e = omega arith
four_bytes (a ∷ b ∷ c ∷ d ∷ f ∷ bs) e = absurd (omega (arith, e))

-- a part as it is lent
pub part_slice : (f t : ℕ) (job : List ℕ) → f ≤ t → take (t - f) (drop f job) ≡ slice f t job
part_slice f t job l =
    let e : f + (t - f) ≡ t = omega (arith, l) in
    sym (drop-take f (t - f) job) ∙ ap (λ (n : ℕ). slice f n job) e

-- ---- the steps

module _ (job : List ℕ) (at : ℕ) where
  -- nine bytes from there on
  abbrev nine : List ℕ
  nine = take 9 (drop at job)

  -- a number within them, with n bytes from it to their end
  field : (f n : ℕ) → 4 ≤ n → f + n ≡ 9 → number_at nine f ≡ number_at job (at + f)
  field f n h e =
      ap number (
      drop-take f 4 nine
      ∙ ap (λ (m : ℕ). take 4 (drop f (take m (drop at job)))) (sym e)
      ∙ ap (take 4) (drop-take f n (drop at job))
      ∙ take-take 4 n (drop f (drop at job)) h
      ∙ ap (take 4) (drop-drop f at job)
      ∙ sym (drop-take (at + f) 4 job)
      )

  -- they are the step there
  step_taken : step_of nine ≡ step_at job at
  step_taken =
      let kind : get_or nine 0 0 ≡ get_or job at 0 = get_or-take 9 (drop at job) 0 0 (omega arith) ∙ get_or-drop at job 0 0 ∙ ap (λ (i : ℕ). get_or job i 0) (omega arith) in
      ap₂ (λ (k a : ℕ). record { kind = k; first = a; second = number_at nine 5 }) kind (field 1 8 (omega arith) refl)
      ∙ ap (λ (b : ℕ). record { kind = get_or job at 0; first = number_at job (at + 1); second = b }) (field 5 4 (omega arith) refl)

-- so many of them, one after another
pub steps_chunks : (job : List ℕ) (n at : ℕ) → map step_of (first_chunks 9 n (drop at job)) ≡ steps_from job n at
unfolding steps_from
steps_chunks job zero at = refl
steps_chunks job (suc n) at =
    ap₂ (λ (s : Step) (ss : List Step). s ∷ ss) (step_taken job at)
    (ap (λ (l : List ℕ). map step_of (first_chunks 9 n l)) (drop-drop 9 at job) ∙ steps_chunks job n (at + step_bytes))

-- ---- the parts

-- the pool, what follows the second count, and that count
pub record Cut (job p back : List ℕ) (n : ℕ) : Type 0 where
  pub lent : p ≡ pool job
  pub counted : n ≡ step_count job
  pub rest : back ≡ drop (steps_start job) job
  pub long : length job ≡ steps_start job + length back

-- cut off in turn
pub cut : (job c rest p rest' c' rest'' : List ℕ) (n : ℕ) → c ≡ take 4 job → rest ≡ drop 4 job → length rest + 4 ≡ length job → n ≡ number c
    → IsSplitAt rest n p rest' → c' ≡ take 4 rest' → rest'' ≡ drop 4 rest' → length rest'' + 4 ≡ length rest'
    → Cut job p rest'' (number c')
cut job c rest p rest' c' rest'' n first after long e split second after' long' =
    let counted : n ≡ pool_count job = e ∙ ap number first in
    let at : rest' ≡ drop (4 + n) job = split.2 ∙ ap (drop n) after ∙ drop-drop n 4 job in
    let begins : 4 + n + 4 ≡ steps_start job = omega (arith, counted) in
    record {
      lent = split.1 ∙ ap (take n) after ∙ sym (drop-take 4 n job) ∙ ap (λ (m : ℕ). slice 4 (4 + m) job) counted;
      counted = ap number (second ∙ ap (take 4) at ∙ sym (drop-take (4 + n) 4 job)) ∙ ap (λ (m : ℕ). number_at job (4 + m)) counted;
      rest = after' ∙ ap (drop 4) at ∙ drop-drop 4 (4 + n) job ∙ ap (λ (m : ℕ). drop m job) begins;
      long = let back = split.4 in omega (arith, counted, long, long', back);
    }

module _ (job p rest : List ℕ) (count : ℕ) (c : Cut job p rest count) where
  -- the job is the whole of them if what follows is as long as its count says
  pub cut_whole : length rest ≡ 9 * count → true ≡ is_whole job
  cut_whole e = let long = c.long in let counted = c.counted in sym (eq-eqb (length job) (steps_start job + step_bytes * step_count job) (omega (arith, e, long, counted)))

  pub cut_not_whole : (length rest ≡ 9 * count → ⊥) → false ≡ is_whole job
  cut_not_whole h = let long = c.long in let counted = c.counted in sym (ne_eqb (length job) (steps_start job + step_bytes * step_count job) (λ e. h (omega (arith, e, long, counted))))

  -- its steps
  pub cut_steps : (n : ℕ) → n ≡ count → map step_of (first_chunks 9 n rest) ≡ steps job
  cut_steps n e =
      ap₂ (λ (m : ℕ) (l : List ℕ). map step_of (first_chunks 9 m l)) (e ∙ c.counted) c.rest ∙ steps_chunks job (step_count job) (steps_start job)
