-- Pushes and SWAPs by the Yellow Paper: the immediate of a push is the number that its bytes are, wherever the push stands in a
-- code; and one SWAP and three of them, wherever they stand. Assumes nothing.
use Prim.Native.Nat.{ℕ, zero, suc, ◌+◌, ◌≤◌, ◌<◌}
use native.Mathlib.Omega.{arith}
use mathlib.Core.Path.{◌≡◌, sym, ap, ap₂, ◌∙◌, subst}
use mathlib.Core.Bool.{true}
use mathlib.Core.Logic.{◌≢◌}
use mathlib.Core.List.{List, ◌∷◌, ◌++◌}
use mathlib.Core.Option.{some}
use lib.ListN.{length, take, drop, length-append, length-drop}
use lib.Seq.{take-append_seam, take-length, get_or-drop, get_or-append_seam, drop-append-add}
use Rattle.units.specs.Numbers.{number}
use Rattle.units.proofs.BigEndian.{number_nil, number_take}
use Rattle.evm.specs.Opcodes.{push_op, swap_op}
use Rattle.evm.specs.YellowPaper.{max_stack, is_push, push_size, instruction_length, instruction, push, code_byte, immediate, exchanged, step, state_at, steps}
use Rattle.evm.proofs.Steps.{is_push_push, push_size_push, instruction_push, instruction_swap, instruction_length_above, step_push, step_swap, effect_of_step, length_exchanged, exchanged_three}
use Rattle.evm.proofs.Sequences.{steps_one, steps_join}

-- an immediate that stands in the code is the number of its bytes
pub immediate_number : (code : List ℕ) (x n : ℕ) → x + n ≤ length code → immediate code x n ≡ number (take n (drop x code))
unfolding immediate
immediate_number code x zero h = sym number_nil
immediate_number code x (suc n) h =
    let l : n < length (drop x code) = rw length-drop (omega arith) in
    let e : immediate code x n ≡ number (take n (drop x code)) = immediate_number code x n (omega arith) in
    rw (number_take (drop x code) n l, get_or-drop, e)

-- the immediate of a push that stands in a code
pub immediate_at_lem : (before imm after : List ℕ) (op : ℕ) → immediate (before ++ (op ∷ (imm ++ after))) (length before + 1) (length imm) ≡ number imm
immediate_at_lem before imm after op =
    let code : List ℕ = before ++ (op ∷ (imm ++ after)) in
    let l : length code ≡ length before + suc (length imm + length after) = simp length-append in
    let rest : drop (length before + 1) code ≡ imm ++ after = drop-append-add before (op ∷ (imm ++ after)) 1 in
    immediate_number code (length before + 1) (length imm) (omega arith)
    ∙ ap (λ (r : List ℕ). number (take (length imm) r)) rest ∙ ap number (take-append_seam imm after)

-- the instruction of PUSHn
pub instruction_push_op : (n : ℕ) → n ≤ 32 → instruction (push_op n) ≡ push n
instruction_push_op n h = instruction_push (push_op n) (is_push_push n h) ∙ ap push (push_size_push n h)

-- wherever PUSHn stands with its n bytes, it pushes their number
pub push_anywhere : (before imm after stack : List ℕ) (n : ℕ) → length imm ≡ n → n ≤ 32 → length stack < max_stack
    → step (before ++ (push_op n ∷ (imm ++ after))) (length before) stack ≡ some (number imm ∷ stack)
push_anywhere before imm after stack n e h room =
    let code : List ℕ = before ++ (push_op n ∷ (imm ++ after)) in
    let here : code_byte code (length before) ≡ push_op n = get_or-append_seam before (push_op n) (imm ++ after) 0 in
    let value : immediate code (length before + 1) n ≡ number imm = subst (λ (k : ℕ). immediate code (length before + 1) k ≡ number imm) e (immediate_at_lem before imm after (push_op n)) in
    step_push code (length before) stack n (ap instruction here ∙ instruction_push_op n h) room
    ∙ ap (λ (v : ℕ). some (v ∷ stack)) value

-- what a push instruction pushes that is the whole code
pub pushed_number_lem : (op : ℕ) (imm stack : List ℕ) (v : ℕ) → is_push op ≡ true → push_size op ≡ length imm
    → step (op ∷ imm) 0 stack ≡ some (v ∷ stack)
    → v ≡ number imm
pushed_number_lem op imm stack v p l e =
    let i : instruction op ≡ push (length imm) = instruction_push op p ∙ ap push l in
    let f : some (immediate (op ∷ imm) (0 + 1) (length imm) ∷ stack) ≡ some (v ∷ stack) = rw i at (effect_of_step (op ∷ imm) 0 stack (v ∷ stack) e) in
    let g : immediate (op ∷ imm) (0 + 1) (length imm) ≡ v = cc in
    sym g ∙ immediate_number (op ∷ imm) 1 (length imm) (omega arith) ∙ ap number (take-length imm)

-- SWAP of depth d, wherever it stands: it exchanges the top and the item at depth d
pub swap_at : (code : List ℕ) (at d : ℕ) (stack : List ℕ) → code_byte code at ≡ swap_op d
    → 1 ≤ d → d ≤ 16 → d < length stack → length stack ≤ max_stack
    → steps 1 code (state_at at stack) ≡ some (state_at (at + 1) (exchanged 0 d stack))
swap_at code at d stack op l u deep fits =
    steps_one code at stack (exchanged 0 d stack) 1 (ap instruction_length op ∙ instruction_length_above (swap_op d) (omega arith))
    (step_swap code at stack d (ap instruction op ∙ instruction_swap d l u) deep fits)

-- three SWAPs, wherever they stand
pub three_at : (code : List ℕ) (at n m : ℕ) (stack : List ℕ)
    → code_byte code at ≡ swap_op n → code_byte code (at + 1) ≡ swap_op m → code_byte code (at + 2) ≡ swap_op n
    → n ≢ 0 → m ≢ 0 → n ≢ m → n ≤ 16 → m ≤ 16
    → n < length stack → m < length stack → length stack ≤ max_stack
    → steps 3 code (state_at at stack) ≡ some (state_at (at + 3) (exchanged n m stack))
three_at code at n m stack o₁ o₂ o₃ n0 m0 nm hn hm ln lm fits =
    let once : List ℕ = exchanged 0 n stack in
    let twice : List ℕ = exchanged 0 m once in
    let e : length once ≡ length stack = length_exchanged 0 n stack in
    let f : length twice ≡ length stack = length_exchanged 0 m once ∙ e in
    let second : steps 1 code (state_at (at + 1) once) ≡ some (state_at (at + 2) twice) =
    swap_at code (at + 1) m once o₂ (omega arith) hm (omega arith) (omega arith) ∙ ap (λ (k : ℕ). some (state_at k twice)) (omega arith) in
    let third : steps 1 code (state_at (at + 2) twice) ≡ some (state_at (at + 3) (exchanged n m stack)) =
    swap_at code (at + 2) n twice o₃ (omega arith) hn (omega arith) (omega arith)
    ∙ ap₂ (λ (k : ℕ) (s : List ℕ). some (state_at k s)) (omega arith) (exchanged_three n m stack n0 m0 nm ln lm) in
    steps_join 1 2 code (state_at at stack) (state_at (at + 1) once) (state_at (at + 3) (exchanged n m stack))
    (swap_at code at n stack o₁ (omega arith) hn ln fits)
    (steps_join 1 1 code (state_at (at + 1) once) (state_at (at + 2) twice) (state_at (at + 3) (exchanged n m stack)) second third)
