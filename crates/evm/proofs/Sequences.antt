-- Instructions one after another: one alone, some and then more, and those that lead to the code's end. Assumes nothing.
use Prim.Native.Nat.{ℕ, zero, suc, ◌+◌, ◌≤◌, ◌<◌}
use native.Mathlib.Omega.{arith}
use mathlib.Core.Path.{◌≡◌, refl, ap, ◌∙◌}
use mathlib.Core.List.{List}
use mathlib.Core.Option.{Option, none, some, bind}
use lib.ListN.{length}
use Rattle.evm.specs.YellowPaper.{instruction_length, code_byte, step, run_from, run, State, state_at, steps}
use Rattle.evm.proofs.Steps.{run_from_step, run_from_end}

-- the state after an instruction that leaves a stack
abbrev next : List ℕ → State → List ℕ → State
next code μ after = state_at (μ.pc + instruction_length (code_byte code μ.pc)) after

-- one instruction, n bytes long
pub steps_one : (code : List ℕ) (at : ℕ) (stack after : List ℕ) (n : ℕ) → instruction_length (code_byte code at) ≡ n
    → step code at stack ≡ some after → steps 1 code (state_at at stack) ≡ some (state_at (at + n) after)
unfolding steps bind
steps_one code at stack after n l e = rw (e, l)

-- some instructions, and then more
pub steps_join : (m n : ℕ) (code : List ℕ) (μ ν ξ : State) → steps m code μ ≡ some ν → steps n code ν ≡ some ξ → steps (m + n) code μ ≡ some ξ
unfolding steps bind
steps_join zero n code μ ν ξ h k =
    let same : μ ≡ ν = cc in
    let z : 0 + n ≡ n = omega arith in
    rw (z, same) k
steps_join (suc m) n code μ ν ξ h k =
    let z : suc m + n ≡ suc (m + n) = omega arith in
    rw z (go (step code μ.pc μ.stack) h (λ x g. steps_join m n code x ν ξ g k))
  where
    go : (o : Option (List ℕ)) → bind o (λ after. steps m code (next code μ after)) ≡ some ν
        → ((x : State) → steps m code x ≡ some ν → steps (m + n) code x ≡ some ξ)
        → bind o (λ after. steps (m + n) code (next code μ after)) ≡ some ξ
    go none g rest = cc
    go (some after) g rest = rest (next code μ after) g

-- the program counter doesn't go back
steps_forward : (n : ℕ) (code : List ℕ) (μ ν : State) → steps n code μ ≡ some ν → μ.pc ≤ ν.pc
unfolding steps bind
steps_forward zero code μ ν h = let same : μ ≡ ν = cc in omega (arith, ap (λ (x : State). x.pc) same)
steps_forward (suc n) code μ ν h = go (step code μ.pc μ.stack) h (λ x g. steps_forward n code x ν g)
  where
    go : (o : Option (List ℕ)) → bind o (λ after. steps n code (next code μ after)) ≡ some ν
        → ((x : State) → steps n code x ≡ some ν → x.pc ≤ ν.pc) → μ.pc ≤ ν.pc
    go none g rest = let z : ◌≡◌ {A = ℕ} 0 1 = cc in absurd (omega arith)
    go (some after) g rest = omega (arith, rest (next code μ after) g)

-- a run from a state whose instructions lead to the code's end
run_on : (n fuel : ℕ) (code : List ℕ) (μ ν : State) → steps n code μ ≡ some ν → ν.pc ≡ length code → length code ≤ μ.pc + fuel
    → run_from fuel code μ.pc μ.stack ≡ some ν.stack
unfolding steps bind instruction_length
run_on zero fuel code μ ν h e l =
    let same : μ ≡ ν = cc in
    run_from_end fuel code μ.pc μ.stack (omega (arith, ap (λ (x : State). x.pc) same)) ∙ ap (λ (x : State). some x.stack) same
run_on (suc n) fuel code μ ν h e l = go (step code μ.pc μ.stack) refl h (λ k x g d. run_on n k code x ν g e d)
  where
    -- with fuel for the instruction at hand
    fed : (k : ℕ) (after : List ℕ) → length code ≤ μ.pc + k → μ.pc < length code → step code μ.pc μ.stack ≡ some after
        → ((k : ℕ) → length code ≤ (next code μ after).pc + k → run_from k code (next code μ after).pc after ≡ some ν.stack)
        → run_from k code μ.pc μ.stack ≡ some ν.stack
    fed zero after d b s rest = absurd (omega arith)
    fed (suc k) after d b s rest = run_from_step k code μ.pc μ.stack after b s ∙ rest k (omega arith)

    go : (o : Option (List ℕ)) → step code μ.pc μ.stack ≡ o → bind o (λ after. steps n code (next code μ after)) ≡ some ν
        → ((k : ℕ) (x : State) → steps n code x ≡ some ν → length code ≤ x.pc + k → run_from k code x.pc x.stack ≡ some ν.stack)
        → run_from fuel code μ.pc μ.stack ≡ some ν.stack
    go none s g rest = let z : ◌≡◌ {A = ℕ} 0 1 = cc in absurd (omega arith)
    go (some after) s g rest =
        let b : μ.pc < length code = omega (arith, steps_forward n code (next code μ after) ν g) in
        fed fuel after l b s (λ k d. rest k (next code μ after) g d)

-- instructions from the first to the code's end are what running it does
pub steps_run : (n : ℕ) (code stack after : List ℕ) → steps n code (state_at 0 stack) ≡ some (state_at (length code) after) → run code stack ≡ some after
unfolding run
steps_run n code stack after h = run_on n (length code) code (state_at 0 stack) (state_at (length code) after) h refl (omega arith)
