-- Laws of the Yellow Paper's stack instructions: which instruction an opcode is, what a step does where it doesn't halt, and what
-- `exchanged` does to each item. For any code and any offset in it. Assumes nothing.
use Prim.Native.Nat.{ℕ, zero, suc, ◌+◌, ◌-◌, ◌≤◌, ◌<◌}
use native.Mathlib.Omega.{arith}
use native.Mathlib.Decide.{ℕ_discrete}
use mathlib.Core.Path.{◌≡◌, refl, sym, ap, ◌∙◌, subst}
use mathlib.Core.Bool.{Bool, true, false, cond, and-false, and-eq-true_iff}
use mathlib.Core.Logic.{◌≢◌}
use mathlib.Core.List.{List, ◌∷◌}
use mathlib.Core.Option.{Option, none, some, bind}
use lib.ListN.{length, get_or, set, length-set}
use lib.Seq.{get_or-set_same, get_or-set_other, ext_get_or, set_comm}
use lib.Dec.{leb}
use borrow.Author.Tests.{le-leb, lt-leb, le-ltb, leb-true}
use Rattle.evm.specs.YellowPaper.{max_stack, among, is_push, is_dup, is_swap, push_size, instruction_length, Instruction, push, dup, swap, instruction, code_byte, immediate, halts, exchanged, step, run_from, removed, added, effect}

-- ---- opcodes

-- an opcode from first to last
among_in : (first last op : ℕ) → first ≤ op → op ≤ last → among first last op ≡ true
among_in first last op l h = rw (le-leb first op l, le-leb op last h)

-- an opcode above the last
among_above : (first last op : ℕ) → last < op → among first last op ≡ false
among_above first last op h = rw (lt-leb op last h) (and-false (leb first op))

-- PUSHn is a push
pub is_push_push : (n : ℕ) → n ≤ 32 → is_push (0x5f + n) ≡ true
unfolding is_push
is_push_push n h = among_in 0x5f 0x7f (0x5f + n) (omega arith) (omega arith)

-- PUSHn has n bytes of immediate
pub push_size_push : (n : ℕ) → n ≤ 32 → push_size (0x5f + n) ≡ n
unfolding push_size
push_size_push n h = rw (is_push_push n h) (omega arith)

-- no push has more than 32 bytes of immediate
pub push_size_le : (op : ℕ) → is_push op ≡ true → push_size op ≤ 32
unfolding push_size is_push
push_size_le op e =
    let h : op ≤ 0x7f = leb-true op 0x7f ((and-eq-true_iff (leb 0x5f op) (leb op 0x7f)).0 e).1 in
    rw e (omega arith)

-- an opcode above 0x7f is no push
pub is_push_above : (op : ℕ) → 0x7f < op → is_push op ≡ false
unfolding is_push
is_push_above op h = among_above 0x5f 0x7f op h

-- its instruction is one byte
pub instruction_length_above : (op : ℕ) → 0x7f < op → instruction_length op ≡ 1
unfolding instruction_length push_size
instruction_length_above op h = rw (is_push_above op h)

-- so is that of an opcode below PUSH1: N(i, w) is 'i + 1 otherwise'
pub instruction_length_below : (op : ℕ) → op < 0x60 → instruction_length op ≡ 1
unfolding instruction_length push_size
instruction_length_below op h = go (is_push op) refl
  where
    go : (b : Bool) → is_push op ≡ b → instruction_length op ≡ 1
    go true e = rw e (omega arith)
    go false e = rw e

-- PUSH1 to PUSH32: N(i, w) is 'i + w - PUSH1 + 2'
pub instruction_length_push : (i op : ℕ) → 0x60 ≤ op → op ≤ 0x7f → i + instruction_length op ≡ i + op - 0x60 + 2
unfolding instruction_length push_size is_push
instruction_length_push i op l h = rw (among_in 0x5f 0x7f op (omega arith) h) (omega arith)

-- the instruction of a push opcode
pub instruction_push : (op : ℕ) → is_push op ≡ true → instruction op ≡ push (push_size op)
unfolding instruction
instruction_push op h = rw h

-- depth d, from 0: DUP1 is hex 80
pub instruction_dup : (d : ℕ) → d ≤ 15 → instruction (0x80 + d) ≡ dup (d + 1)
unfolding instruction is_dup
instruction_dup d h =
    let a : is_push (0x80 + d) ≡ false = is_push_above (0x80 + d) (omega arith) in
    let b : among 0x80 0x8f (0x80 + d) ≡ true = among_in 0x80 0x8f (0x80 + d) (omega arith) (omega arith) in
    rw (a, b) (ap dup (omega arith))

-- depth d, from 1: SWAP1 is hex 90
pub instruction_swap : (d : ℕ) → 1 ≤ d → d ≤ 16 → instruction (0x8f + d) ≡ swap d
unfolding instruction is_dup is_swap
instruction_swap d l h =
    let a : is_push (0x8f + d) ≡ false = is_push_above (0x8f + d) (omega arith) in
    let b : among 0x80 0x8f (0x8f + d) ≡ false = among_above 0x80 0x8f (0x8f + d) (omega arith) in
    let c : among 0x90 0x9f (0x8f + d) ≡ true = among_in 0x90 0x9f (0x8f + d) (omega arith) (omega arith) in
    rw (a, b, c) (ap swap (omega arith))

-- ---- a step

-- an instruction that finds the items that it removes, and room for those that it adds, has its effect
pub step_effect : (code : List ℕ) (at : ℕ) (stack : List ℕ) (i : Instruction)
    → instruction (code_byte code at) ≡ i
    → removed i ≤ length stack
    → length stack - removed i + added i ≤ max_stack
    → step code at stack ≡ effect i code at stack
unfolding step halts
step_effect code at stack i e enough room =
    rw (e, le-ltb (length stack) (removed i) enough, le-ltb max_stack (length stack - removed i + added i) room)

-- PUSHn pushes its immediate
pub step_push : (code : List ℕ) (at : ℕ) (stack : List ℕ) (n : ℕ)
    → instruction (code_byte code at) ≡ push n
    → length stack < max_stack
    → step code at stack ≡ some (immediate code (at + 1) n ∷ stack)
step_push code at stack n e room = step_effect code at stack (push n) e (omega arith) (omega arith)

-- DUPn pushes item n - 1
pub step_dup : (code : List ℕ) (at : ℕ) (stack : List ℕ) (n : ℕ)
    → instruction (code_byte code at) ≡ dup n
    → n ≤ length stack
    → length stack < max_stack
    → step code at stack ≡ some (get_or stack (n - 1) 0 ∷ stack)
step_dup code at stack n e enough room = step_effect code at stack (dup n) e enough (omega arith)

-- SWAPn exchanges the top with item n
pub step_swap : (code : List ℕ) (at : ℕ) (stack : List ℕ) (n : ℕ)
    → instruction (code_byte code at) ≡ swap n
    → n < length stack
    → length stack ≤ max_stack
    → step code at stack ≡ some (exchanged 0 n stack)
step_swap code at stack n e enough room = step_effect code at stack (swap n) e (omega arith) (omega arith)

-- what a test that halts left
cond_some : (b : Bool) (o : Option (List ℕ)) (after : List ℕ) → cond b none o ≡ some after → o ≡ some after
cond_some true o after e = cc
cond_some false o after e = e

-- a step that leaves a stack is the instruction's effect
pub effect_of_step : (code : List ℕ) (at : ℕ) (stack after : List ℕ)
    → step code at stack ≡ some after
    → effect (instruction (code_byte code at)) code at stack ≡ some after
unfolding step
effect_of_step code at stack after e =
    cond_some (halts (instruction (code_byte code at)) stack) (effect (instruction (code_byte code at)) code at stack) after e

-- ---- straight through

-- at the code's end nothing is left to do
pub run_from_end : (fuel : ℕ) (code : List ℕ) (at : ℕ) (stack : List ℕ) → length code ≤ at → run_from fuel code at stack ≡ some stack
unfolding run_from
run_from_end zero code at stack h = rw (le-leb (length code) at h)
run_from_end (suc fuel) code at stack h = rw (le-leb (length code) at h)

-- one instruction, and on with the next
pub run_from_step : (fuel : ℕ) (code : List ℕ) (at : ℕ) (stack after : List ℕ)
    → at < length code
    → step code at stack ≡ some after
    → run_from (suc fuel) code at stack ≡ run_from fuel code (at + instruction_length (code_byte code at)) after
unfolding run_from bind
run_from_step fuel code at stack after h e = rw (lt-leb (length code) at h, e)

-- ---- exchanged items

-- as many items as before
pub length_exchanged : (i j : ℕ) (s : List ℕ) → length (exchanged i j s) ≡ length s
unfolding exchanged
length_exchanged i j s = simp length-set

-- item j is what item i was
pub exchanged_second : (i j : ℕ) (s : List ℕ) → j < length s → get_or (exchanged i j s) j 0 ≡ get_or s i 0
unfolding exchanged
exchanged_second i j s h = get_or-set_same (set s i (get_or s j 0)) j (get_or s i 0) 0 (rw length-set h)

-- every other item is left
pub exchanged_other : (i j k : ℕ) (s : List ℕ) → k ≢ i → k ≢ j → get_or (exchanged i j s) k 0 ≡ get_or s k 0
unfolding exchanged
exchanged_other i j k s ni nj = rw (get_or-set_other (set s i (get_or s j 0)) j k (get_or s i 0) 0 nj, get_or-set_other s i k (get_or s j 0) 0 ni)

-- the order of the two doesn't matter
pub exchanged_comm : (i j : ℕ) (s : List ℕ) → i ≢ j → exchanged i j s ≡ exchanged j i s
unfolding exchanged
exchanged_comm i j s n = set_comm s i j (get_or s j 0) (get_or s i 0) n

-- item i is what item j was
pub exchanged_first : (i j : ℕ) (s : List ℕ) → i < length s → j < length s → get_or (exchanged i j s) i 0 ≡ get_or s j 0
exchanged_first i j s hi hj = go (ℕ_discrete i j)
  where
    go : Dec (i ≡ j) → get_or (exchanged i j s) i 0 ≡ get_or s j 0
    go (yes e) = ap (λ (x : ℕ). get_or (exchanged i j s) x 0) e ∙ exchanged_second i j s hj ∙ ap (λ (x : ℕ). get_or s x 0) e
    go (no n) = ap (λ (l : List ℕ). get_or l i 0) (exchanged_comm i j s n) ∙ exchanged_second j i s hi

module _ (n m : ℕ) (s : List ℕ) (n0 : n ≢ 0) (m0 : m ≢ 0) (nm : n ≢ m) (hn : n < length s) (hm : m < length s) where
  -- the stack after SWAP n
  abbrev once : List ℕ
  once = exchanged 0 n s

  -- the stack after SWAP n, SWAP m
  abbrev twice : List ℕ
  twice = exchanged 0 m once

  -- item k after a third exchange is item k with n and m exchanged
  abbrev Same : ℕ → Type 0
  Same k = get_or (exchanged 0 n twice) k 0 ≡ get_or (exchanged n m s) k 0

  -- both have as many items as before
  length_once : length once ≡ length s
  length_once = length_exchanged 0 n s

  length_twice : length twice ≡ length s
  length_twice = length_exchanged 0 m once ∙ length_once

  -- for the top, for n, for m, and for every other item
  same_top : Same 0
  same_top =
      let e : get_or (exchanged 0 n twice) 0 0 ≡ get_or twice n 0 = exchanged_first 0 n twice (omega (arith, length_twice)) (omega (arith, length_twice)) in
      e ∙ exchanged_other 0 m n once n0 nm ∙ exchanged_second 0 n s hn ∙ sym (exchanged_other n m 0 s (λ z. n0 (sym z)) (λ z. m0 (sym z)))

  same_n : Same n
  same_n =
      let e : get_or (exchanged 0 n twice) n 0 ≡ get_or twice 0 0 = exchanged_second 0 n twice (omega (arith, length_twice)) in
      let f : get_or twice 0 0 ≡ get_or once m 0 = exchanged_first 0 m once (omega (arith, length_once)) (omega (arith, length_once)) in
      e ∙ f ∙ exchanged_other 0 n m s m0 (λ z. nm (sym z)) ∙ sym (exchanged_first n m s hn hm)

  same_m : Same m
  same_m =
      let f : get_or twice m 0 ≡ get_or once 0 0 = exchanged_second 0 m once (omega (arith, length_once)) in
      let g : get_or once 0 0 ≡ get_or s n 0 = exchanged_first 0 n s (omega arith) hn in
      exchanged_other 0 n m twice m0 (λ z. nm (sym z)) ∙ f ∙ g ∙ sym (exchanged_second n m s hm)

  same_other : (k : ℕ) → k ≢ 0 → k ≢ n → k ≢ m → Same k
  same_other k k0 kn km =
      exchanged_other 0 n k twice k0 kn ∙ exchanged_other 0 m k once k0 km ∙ exchanged_other 0 n k s k0 kn ∙ sym (exchanged_other n m k s kn km)

  -- for every item
  same : (k : ℕ) → Dec (k ≡ 0) → Dec (k ≡ n) → Dec (k ≡ m) → Same k
  same k (yes e) dn dm = subst Same (sym e) same_top
  same k (no k0) (yes e) dm = subst Same (sym e) same_n
  same k (no k0) (no kn) (yes e) = subst Same (sym e) same_m
  same k (no k0) (no kn) (no km) = same_other k k0 kn km

  -- exchanging the top with n, then with m, then with n again exchanges n and m
  pub exchanged_three : exchanged 0 n (exchanged 0 m (exchanged 0 n s)) ≡ exchanged n m s
  exchanged_three =
      ext_get_or 0 (exchanged 0 n twice) (exchanged n m s)
      (length_exchanged 0 n twice ∙ length_twice ∙ sym (length_exchanged n m s))
      (λ k h. same k (ℕ_discrete k 0) (ℕ_discrete k n) (ℕ_discrete k m))
