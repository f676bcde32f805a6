-- The op bytes that the building calls add do, by the Yellow Paper, what the calls are named after, wherever in a code they stand: a
-- minimal push is one instruction that pushes its number, and no shorter push does; SWAP, DUP and exchange move the items they name. A
-- stack has at most 1,024 items (max_stack). Assumes nothing.
use Prim.Native.Nat.{ℕ, suc, ◌+◌, ◌^◌, ◌≤◌, ◌<◌}
use native.Mathlib.Nat.{lt_of_lt_of_le}
use native.Mathlib.Decide.{ℕ_discrete}
use native.Mathlib.Omega.{arith}
use mathlib.Core.Path.{◌≡◌, refl, sym, ap, ◌∙◌}
use mathlib.Core.Bool.{true}
use mathlib.Core.Logic.{◌≢◌}
use mathlib.Core.List.{List, [], ◌∷◌, ◌++◌, append-nil}
use mathlib.Core.Option.{some}
use lib.ListN.{length, get_or}
use lib.Seq.{get_or-append_seam, get_or-append-add}
use borrow.Author.Tests.{ne_eqb}
use Rattle.units.specs.Numbers.{number, big_endian, least_bytes}
use Rattle.units.proofs.BigEndian.{number_big_endian, number_lt, length_big_endian, pow256_mono, least_bytes_fits, least_bytes_le, least_bytes_iff}
use Rattle.calls.specs.Calls.{minimal_push, exchange_ops}
use Rattle.evm.specs.Opcodes.{push_op, swap_op, dup_op}
use Rattle.evm.specs.YellowPaper.{max_stack, is_push, push_size, instruction_length, code_byte, instruction, exchanged, step, run, state_at, steps}
use Rattle.evm.proofs.Steps.{push_size_push, push_size_le, instruction_dup, instruction_length_above, step_dup, length_exchanged, exchanged_first, exchanged_second, exchanged_other, exchanged_comm}
use Rattle.evm.proofs.Sequences.{steps_one, steps_run}
use Rattle.instructions.proofs.Runs.{push_anywhere, pushed_number_lem, swap_at, three_at}

-- ---- the bytes of an exchange

-- the bytes of an exchange with the top
exchange_ops_first : (m : ℕ) → exchange_ops 0 m ≡ swap_op m ∷ []
unfolding exchange_ops
exchange_ops_first m = refl

-- the bytes of an exchange with the top, which is named second
exchange_ops_second : (n : ℕ) → n ≢ 0 → exchange_ops n 0 ≡ swap_op n ∷ []
unfolding exchange_ops
exchange_ops_second n n0 = rw (ne_eqb n 0 n0)

-- the bytes of an exchange without the top
exchange_ops_neither : (n m : ℕ) → n ≢ 0 → m ≢ 0 → exchange_ops n m ≡ swap_op n ∷ swap_op m ∷ swap_op n ∷ []
unfolding exchange_ops
exchange_ops_neither n m n0 m0 = rw (ne_eqb n 0 n0, ne_eqb m 0 m0)

-- ---- minimal pushes

-- a minimal push is one instruction
pub minimal_push_one : (v : ℕ) → v < 256 ^ 32 → instruction_length (code_byte (minimal_push v) 0) ≡ length (minimal_push v)
unfolding minimal_push instruction_length
minimal_push_one v h =
    let n : ℕ = least_bytes 32 v in
    let s : push_size (push_op n) ≡ n = push_size_push n (least_bytes_le 32 v h) in
    let l : length (big_endian n v) ≡ n = length_big_endian n v in
    omega arith

-- a minimal push pushes its number, wherever in a code it stands
pub minimal_push_anywhere : (before after : List ℕ) (v : ℕ) (stack : List ℕ)
    → v < 256 ^ 32
    → length stack < max_stack
    → step (before ++ (minimal_push v ++ after)) (length before) stack ≡ some (v ∷ stack)
unfolding minimal_push
minimal_push_anywhere before after v stack h room =
    let n : ℕ = least_bytes 32 v in
    push_anywhere before (big_endian n v) after stack n (length_big_endian n v) (least_bytes_le 32 v h) room
    ∙ ap (λ (x : ℕ). some (x ∷ stack)) (number_big_endian n v (least_bytes_fits 32 v h))

-- and the instruction after its bytes is next
pub minimal_push_steps : (before after : List ℕ) (v : ℕ) (stack : List ℕ)
    → v < 256 ^ 32
    → length stack < max_stack
    → steps 1 (before ++ (minimal_push v ++ after)) (state_at (length before) stack)
    ≡ some (state_at (length before + length (minimal_push v)) (v ∷ stack))
unfolding minimal_push
minimal_push_steps before after v stack h room =
    let n : ℕ = least_bytes 32 v in
    let code : List ℕ = before ++ (push_op n ∷ (big_endian n v ++ after)) in
    let here : code_byte code (length before) ≡ push_op n = get_or-append_seam before (push_op n) (big_endian n v ++ after) 0 in
    steps_one code (length before) stack (v ∷ stack) (length (minimal_push v))
    (ap instruction_length here ∙ minimal_push_one v h) (minimal_push_anywhere before after v stack h room)

-- a minimal push pushes its number
pub minimal_push_step : (v : ℕ) (stack : List ℕ)
    → v < 256 ^ 32
    → length stack < max_stack
    → step (minimal_push v) 0 stack ≡ some (v ∷ stack)
minimal_push_step v stack h room =
    ap (λ (c : List ℕ). step c 0 stack) (sym (append-nil (minimal_push v))) ∙ minimal_push_anywhere [] [] v stack h room

-- the whole of it pushes its number and does nothing else
pub minimal_push_run : (v : ℕ) (stack : List ℕ)
    → v < 256 ^ 32
    → length stack < max_stack
    → run (minimal_push v) stack ≡ some (v ∷ stack)
minimal_push_run v stack h room =
    steps_run 1 (minimal_push v) stack (v ∷ stack)
    (ap (λ (c : List ℕ). steps 1 c (state_at 0 stack)) (sym (append-nil (minimal_push v)))
    ∙ minimal_push_steps [] [] v stack h room
    ∙ ap (λ (k : ℕ). some (state_at k (v ∷ stack))) (omega arith))

-- no shorter push instruction pushes the number: `code` is any one push instruction that does
pub minimal_push_least : (v : ℕ) (code stack : List ℕ)
    → ((i : ℕ) → code_byte code i < 256)
    → is_push (code_byte code 0) ≡ true
    → instruction_length (code_byte code 0) ≡ length code
    → step code 0 stack ≡ some (v ∷ stack)
    → length (minimal_push v) ≤ length code
unfolding minimal_push instruction_length
minimal_push_least v [] stack bytes p l e = omega arith
minimal_push_least v (op ∷ imm) stack bytes p l e =
    let s : push_size op ≡ length imm = omega arith in
    let q : v ≡ number imm = pushed_number_lem op imm stack v p s e in
    let below : v < 256 ^ length imm = rw q (number_lt imm (λ i. bytes (suc i))) in
    let most : length imm ≤ 32 = omega (arith, push_size_le op p) in
    let least : least_bytes 32 v ≤ length imm = (least_bytes_iff 32 v (length imm) (lt_of_lt_of_le below (pow256_mono most))).1 below in
    omega (arith, length_big_endian (least_bytes 32 v) v)

-- ---- SWAP, DUP and exchange

-- what `exchanged` does to each item
pub exchanged_items : (i j : ℕ) (stack : List ℕ)
    → i < length stack
    → j < length stack
    → (length (exchanged i j stack) ≡ length stack)
    × (get_or (exchanged i j stack) i 0 ≡ get_or stack j 0)
    × (get_or (exchanged i j stack) j 0 ≡ get_or stack i 0)
    × ((k : ℕ) → k ≢ i → k ≢ j → get_or (exchanged i j stack) k 0 ≡ get_or stack k 0)
exchanged_items i j stack hi hj =
    (length_exchanged i j stack, exchanged_first i j stack hi hj, exchanged_second i j stack hj, (λ k ni nj. exchanged_other i j k stack ni nj))

module _ (d : ℕ) (stack : List ℕ) (l : 1 ≤ d) (u : d ≤ 16) (deep : d < length stack) (fits : length stack ≤ max_stack) where
  -- SWAP of depth d exchanges the top and the item at depth d, wherever in a code it stands, and the instruction after it is next
  pub swap_anywhere : (before after : List ℕ)
      → steps 1 (before ++ (swap_op d ∷ after)) (state_at (length before) stack) ≡ some (state_at (length before + 1) (exchanged 0 d stack))
  swap_anywhere before after =
      swap_at (before ++ (swap_op d ∷ after)) (length before) d stack (get_or-append_seam before (swap_op d) after 0) l u deep fits

  -- so as a code of its own
  pub swap_run : run (swap_op d ∷ []) stack ≡ some (exchanged 0 d stack)
  swap_run = steps_run 1 (swap_op d ∷ []) stack (exchanged 0 d stack) (swap_anywhere [] [])

module _ (d : ℕ) (stack : List ℕ) (u : d ≤ 15) (deep : d < length stack) (room : length stack < max_stack) where
  -- DUP of depth d pushes the item at depth d, wherever in a code it stands, and the instruction after it is next
  pub dup_anywhere : (before after : List ℕ)
      → steps 1 (before ++ (dup_op d ∷ after)) (state_at (length before) stack) ≡ some (state_at (length before + 1) (get_or stack d 0 ∷ stack))
  dup_anywhere before after =
      let code : List ℕ = before ++ (dup_op d ∷ after) in
      let here : code_byte code (length before) ≡ dup_op d = get_or-append_seam before (dup_op d) after 0 in
      steps_one code (length before) stack (get_or stack d 0 ∷ stack) 1
      (ap instruction_length here ∙ instruction_length_above (dup_op d) (omega arith))
      (step_dup code (length before) stack (d + 1) (ap instruction here ∙ instruction_dup d u) (omega arith) room
      ∙ ap (λ (k : ℕ). some (get_or stack k 0 ∷ stack)) (omega arith))

  -- so as a code of its own
  pub dup_run : run (dup_op d ∷ []) stack ≡ some (get_or stack d 0 ∷ stack)
  dup_run = steps_run 1 (dup_op d ∷ []) stack (get_or stack d 0 ∷ stack) (dup_anywhere [] [])

module _ (n m : ℕ) (stack : List ℕ) (nm : n ≢ m) (hn : n ≤ 16) (hm : m ≤ 16) (ln : n < length stack) (lm : m < length stack)
    (fits : length stack ≤ max_stack) where
  -- exchange of n and m exchanges the items at depths n and m, wherever in a code its bytes stand, and the instruction after them is next
  pub exchange_anywhere : (before after : List ℕ)
      → steps (length (exchange_ops n m)) (before ++ (exchange_ops n m ++ after)) (state_at (length before) stack)
      ≡ some (state_at (length before + length (exchange_ops n m)) (exchanged n m stack))
  exchange_anywhere before after = go (ℕ_discrete n 0) (ℕ_discrete m 0)
    where
      three : List ℕ
      three = swap_op n ∷ swap_op m ∷ swap_op n ∷ after

      go : Dec (n ≡ 0) → Dec (m ≡ 0)
          → steps (length (exchange_ops n m)) (before ++ (exchange_ops n m ++ after)) (state_at (length before) stack)
          ≡ some (state_at (length before + length (exchange_ops n m)) (exchanged n m stack))
      go (yes z) d = rw (z, exchange_ops_first m) (swap_anywhere m stack (omega arith) hm lm fits before after)
      go (no n0) (yes z) =
          rw (z, exchange_ops_second n n0, exchanged_comm n 0 stack n0) (swap_anywhere n stack (omega arith) hn ln fits before after)
      go (no n0) (no m0) =
          rw (exchange_ops_neither n m n0 m0)
          (three_at (before ++ three) (length before) n m stack (get_or-append_seam before (swap_op n) (swap_op m ∷ swap_op n ∷ after) 0)
          (get_or-append-add before three 1 0) (get_or-append-add before three 2 0) n0 m0 nm hn hm ln lm fits)

  -- so as a code of their own
  pub exchange_run : run (exchange_ops n m) stack ≡ some (exchanged n m stack)
  exchange_run =
      let ops : List ℕ = exchange_ops n m in
      steps_run (length ops) ops stack (exchanged n m stack)
      (ap (λ (c : List ℕ). steps (length ops) c (state_at 0 stack)) (sym (append-nil ops))
      ∙ exchange_anywhere [] []
      ∙ ap (λ (k : ℕ). some (state_at k (exchanged n m stack))) (omega arith))
