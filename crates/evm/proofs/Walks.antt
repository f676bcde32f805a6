-- Laws of the walk of instructions: one instruction and on with the next, and the instructions put together again are the code.
-- Assumes nothing.
use Prim.Native.Nat.{ℕ, zero, suc, ◌≤◌}
use native.Mathlib.Omega.{arith}
use native.Mathlib.Numerals.{one-add}
use mathlib.Core.Path.{◌≡◌, refl, ap, ◌∙◌}
use mathlib.Core.List.{List, [], ◌∷◌, ◌++◌}
use lib.ListN.{length, take, drop, length-drop, take-append-drop}
use Rattle.evm.specs.YellowPaper.{push_size, instruction_length}
use Rattle.evm.specs.Walk.{Placed, walk_from, walk}

-- what follows an instruction in a run
pub next_drop : (op : ℕ) (rest : List ℕ) → drop (instruction_length op) (op ∷ rest) ≡ drop (push_size op) rest
unfolding instruction_length
next_drop op rest = rw (one-add (push_size op))

-- with fuel enough, the walk doesn't depend on it
walk_fuel : (f g : ℕ) (code : List ℕ) → length code ≤ f → length code ≤ g → walk_from f code ≡ walk_from g code
unfolding walk_from
walk_fuel zero zero code h k = refl
walk_fuel zero (suc g) [] h k = refl
walk_fuel zero (suc g) (op ∷ rest) h k = absurd (omega arith)
walk_fuel (suc f) zero [] h k = refl
walk_fuel (suc f) zero (op ∷ rest) h k = absurd (omega arith)
walk_fuel (suc f) (suc g) [] h k = refl
walk_fuel (suc f) (suc g) (op ∷ rest) h k =
    let e : length (drop (instruction_length op) (op ∷ rest)) ≤ length rest = rw (next_drop op rest, length-drop (push_size op) rest) (omega arith) in
    ap (λ (ps : List Placed). record { opcode = op; immediate = take (push_size op) rest } ∷ ps)
    (walk_fuel f g (drop (instruction_length op) (op ∷ rest)) (omega arith) (omega arith))

-- one instruction, and on with the next
pub walk_next : (op : ℕ) (rest : List ℕ)
    → walk (op ∷ rest) ≡ record { opcode = op; immediate = take (push_size op) rest } ∷ walk (drop (instruction_length op) (op ∷ rest))
unfolding walk walk_from
walk_next op rest =
    let e : length (drop (instruction_length op) (op ∷ rest)) ≤ length rest = rw (next_drop op rest, length-drop (push_size op) rest) (omega arith) in
    ap (λ (ps : List Placed). record { opcode = op; immediate = take (push_size op) rest } ∷ ps)
    (walk_fuel (length rest) (length (drop (instruction_length op) (op ∷ rest))) (drop (instruction_length op) (op ∷ rest)) e (omega arith))

-- no instruction in an empty run
pub walk_none : walk [] ≡ []
unfolding walk walk_from
walk_none = refl

-- the bytes of instructions
unfoldable pub joined : List Placed → List ℕ
joined [] = []
joined (p ∷ ps) = p.opcode ∷ p.immediate ++ joined ps

-- the instructions of a run, put together again, are the run
pub walk_joined : (fuel : ℕ) (code : List ℕ) → length code ≤ fuel → joined (walk_from fuel code) ≡ code
unfolding joined walk_from
walk_joined zero [] h = refl
walk_joined zero (op ∷ rest) h = absurd (omega arith)
walk_joined (suc fuel) [] h = refl
walk_joined (suc fuel) (op ∷ rest) h =
    let e : length (drop (instruction_length op) (op ∷ rest)) ≤ length rest = rw (next_drop op rest, length-drop (push_size op) rest) (omega arith) in
    ap (λ (l : List ℕ). op ∷ take (push_size op) rest ++ l) (walk_joined fuel (drop (instruction_length op) (op ∷ rest)) (omega arith) ∙ next_drop op rest)
    ∙ ap (λ (l : List ℕ). op ∷ l) (take-append-drop (push_size op) rest)
