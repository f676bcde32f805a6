-- From a building call to what its bytes do in the written code, for `push_exchange`: 'exchange anywhere' of the building wing and 'Ops are
-- copied' of the assembly wing put together. Assumes nothing.
use Prim.Native.Nat.{ℕ, zero, suc, ◌+◌, ◌≤◌, ◌<◌}
use native.Mathlib.Omega.{arith}
use mathlib.Core.Path.{◌≡◌, refl, sym, ap, ◌∙◌, subst}
use mathlib.Core.Bool.{false, ◌||◌}
use mathlib.Core.Logic.{◌≢◌}
use mathlib.Core.List.{List, [], ◌∷◌, ◌++◌, map, append-nil}
use mathlib.Core.Option.{some}
use lib.Dec.{eqb, ltb}
use lib.ListN.{length, get_or, take, length-append, length-map}
use lib.Seq.{get_or-append_seam}
use borrow.Author.Tests.{eqb-false, ltb-false}
use Rattle.units.specs.Reply.{accepted}
use Rattle.slices.proofs.Tests.{or-false}
use Rattle.records.specs.Store.{Store}
use Rattle.records.specs.Sections.{Section, mark, ops, bytes, reference, decode}
use Rattle.records.specs.declared.Assembler.{Assembler}
use Rattle.undamaged.specs.View.{Undamaged}
use Rattle.evm.specs.YellowPaper.{max_stack, exchanged, state_at, steps}
use Rattle.calls.specs.Calls.{push, push_exchange, has_bad_depth, exchange_ops, push_reply, push_after}
use Rattle.calls.specs.Lists.{added_after, added_to}
use Rattle.calls.proofs.Calls.{call_accepted}
use Rattle.calls.proofs.Instructions.{exchange_anywhere}
use Rattle.calls.proofs.Refusals.{push_answers}
use Rattle.layout.specs.Layout.{total}
use Rattle.layout.specs.Passes.{entry}
use Rattle.layout.specs.Conditions.{section_at}
use Rattle.assembler.specs.Emission.{section_bytes, parts}
use Rattle.assembler.specs.Pushes.{place_of}
use Rattle.assembler.specs.Assemble.{Outcome, written, assembly}
use Rattle.assembler.specs.Copies.{StandsAt}
use Rattle.assembler.proofs.Copies.{stands_part, assembly_copies, assembly_length}
use Rattle.assembler.proofs.Lengths.{length_row}
use Rattle.assembler.proofs.Pushes.{part_stands}

-- the bytes of an exchange at an offset of a code exchange the items n and m of a stack, and the instruction after them is next
abbrev pub ExchangesAt : List ℕ → ℕ → ℕ → ℕ → List ℕ → Type 0
ExchangesAt code at n m stack =
    steps (length (exchange_ops n m)) code (state_at at stack) ≡ some (state_at (at + length (exchange_ops n m)) (exchanged n m stack))

-- what is asked of an exchange and a stack
pub record Exchangeable (n m : ℕ) (stack : List ℕ) : Type 0 where
  pub differ : n ≢ m
  pub first : n ≤ 16
  pub second : m ≤ 16
  pub first_deep : n < length stack
  pub second_deep : m < length stack
  pub fits : length stack ≤ max_stack

-- where they stand, they do
stands_exchanges : (code : List ℕ) (at n m : ℕ) (stack : List ℕ) → Exchangeable n m stack → StandsAt code at (exchange_ops n m) → ExchangesAt code at n m stack
stands_exchanges code at n m stack q (before, after, e, l) =
    subst (λ (c : List ℕ). ExchangesAt c at n m stack) (sym e)
    (subst (λ (k : ℕ). ExchangesAt (before ++ (exchange_ops n m ++ after)) k n m stack) l
    (exchange_anywhere n m stack q.differ q.first q.second q.first_deep q.second_deep q.fits before after))

module _ (w : ℕ) (st : Store) (marks : ℕ) (result : List ℕ) (position size passes : ℕ)
    (answer : (assembly w st marks result position).reply ≡ written size passes) where
  -- what assembly leaves
  abbrev left : Outcome
  left = assembly w st marks result position

  -- an exchange anywhere in an Ops section of the store does so in the code
  pub exchange_in_code : (i n m : ℕ) (before after stack : List ℕ) → i < length (decode w st)
      → section_at (decode w st) i ≡ ops (before ++ (exchange_ops n m ++ after)) → Exchangeable n m stack
      → ExchangesAt left.result (position + place_of left.table (decode w st) i + length before) n m stack
  exchange_in_code i n m before after stack l is q =
      stands_exchanges left.result _ n m stack q
      (stands_part left.result _ before (exchange_ops n m) after
      ((assembly_copies w st marks result position size passes answer).op_bytes i (before ++ (exchange_ops n m ++ after)) l is))

-- ---- from the call

-- the section that op bytes are added to ends with them, and is the last
last_after : (x : Section) (xs : List Section) (bs : List ℕ)
    → (front : List Section) × (before : List ℕ) × (added_after x xs (ops bs) ≡ front ++ (ops (before ++ bs) ∷ []))
unfolding added_after
last_after (mark m) [] bs = (mark m ∷ [], [], refl)
last_after (ops old) [] bs = ([], old, refl)
last_after (bytes old) [] bs = (bytes old ∷ [], [], refl)
last_after (reference r) [] bs = (reference r ∷ [], [], refl)
last_after x (y ∷ ys) bs =
    let q = last_after y ys bs in
    (x ∷ q.0, q.1, ap (λ (l : List Section). x ∷ l) q.2)

last_added : (ss : List Section) (bs : List ℕ) → (front : List Section) × (before : List ℕ) × (added_to ss (ops bs) ≡ front ++ (ops (before ++ bs) ∷ []))
unfolding added_to
last_added [] bs = ([], [], refl)
last_added (x ∷ xs) bs = last_after x xs bs

-- the widths before the last and its own are all
total_last : (ws : List ℕ) (i : ℕ) → suc i ≡ length ws → total (take i ws) + get_or ws i 0 ≡ total ws
unfolding total
total_last [] i e = absurd (omega arith)
total_last (w ∷ []) zero e = omega arith
total_last (w ∷ []) (suc i) e = absurd (omega arith)
total_last (w ∷ v ∷ ws) zero e = absurd (omega arith)
total_last (w ∷ v ∷ ws) (suc i) e = omega (arith, total_last (v ∷ ws) i (omega arith))

-- the last section of written code ends where the code does
last_ends : (w : ℕ) (st : Store) (marks : ℕ) (result : List ℕ) (position size passes i : ℕ) → (assembly w st marks result position).reply ≡ written size passes
    → suc i ≡ length (decode w st)
    → place_of (assembly w st marks result position).table (decode w st) i
    + length (section_bytes (entry (assembly w st marks result position).table) (section_at (decode w st) i)) ≡ size
last_ends w st marks result position size passes i answer last =
    let ss : List Section = decode w st in
    let table : List ℕ = (assembly w st marks result position).table in
    let ws : List ℕ = map length (parts (entry table) ss) in
    let many : length ws ≡ length ss = length-map (parts (entry table) ss) length ∙ length-map ss (section_bytes (entry table)) in
    let all : total ws ≡ size = sym (length_row (parts (entry table) ss)) ∙ assembly_length w st marks result position size passes answer in
    let width : length (section_bytes (entry table) (section_at ss i)) ≡ get_or ws i 0 = (part_stands ss table [] 0 i (omega arith) (omega arith)).4 in
    omega (arith, total_last ws i (last ∙ sym many))

module _ (w : ℕ) (st : Store) (n m : ℕ) (counts : Assembler) (wide : 3 ≤ w) (undamaged : Undamaged w st)
    (stored : push_reply w (push_exchange n m) st ≡ accepted counts) where
  -- the store after the call
  abbrev after : Store
  after = push_after w (push_exchange n m) st

  -- an accepted exchange has two depths of at most 16
  depths : (stack : List ℕ) → n < length stack → m < length stack → length stack ≤ max_stack → Exchangeable n m stack
  depths stack ln lm fits =
      let good : has_bad_depth (push_exchange n m) ≡ false = (((push_answers w (push_exchange n m) st).accepted_iff counts).0 stored).0.0 in
      let q = or-false (eqb n m) (ltb 16 n || ltb 16 m) good in
      let deep = or-false (ltb 16 n) (ltb 16 m) q.1 in
      record {
        differ = eqb-false n m q.0;
        first = ltb-false 16 n deep.0;
        second = ltb-false 16 m deep.1;
        first_deep = ln;
        second_deep = lm;
        fits = fits;
      }

  -- an accepted `push_exchange`, and then assembly: the last bytes of the written code exchange the items n and m of any stack that has them
  pub exchange_called : (marks : ℕ) (result : List ℕ) (position size passes : ℕ) (stack : List ℕ)
      → (assembly w after marks result position).reply ≡ written size passes
      → n < length stack → m < length stack → length stack ≤ max_stack
      → (at : ℕ) × (at + length (exchange_ops n m) ≡ position + size)
      × ExchangesAt (assembly w after marks result position).result at n m stack
  exchange_called marks result position size passes stack answer ln lm fits =
      let ss : List Section = decode w after in
      let table : List ℕ = (assembly w after marks result position).table in
      let q = last_added (decode w st) (exchange_ops n m) in
      let list : ss ≡ q.0 ++ (ops (q.1 ++ exchange_ops n m) ∷ []) = (call_accepted w (push (push_exchange n m)) st counts wide undamaged stored).list ∙ q.2 in
      let i : ℕ = length q.0 in
      let last : suc i ≡ length ss = omega (arith, ap length list, length-append q.0 (ops (q.1 ++ exchange_ops n m) ∷ [])) in
      let is : section_at ss i ≡ ops (q.1 ++ exchange_ops n m) =
      ap (λ (x : List Section). section_at x i) list ∙ get_or-append_seam q.0 (ops (q.1 ++ exchange_ops n m)) [] (mark 0) in
      let ends : place_of table ss i + length (q.1 ++ exchange_ops n m) ≡ size =
      ap (λ (s : Section). place_of table ss i + length (section_bytes (entry table) s)) (sym is)
      ∙ last_ends w after marks result position size passes i answer last in (
        position + place_of table ss i + length q.1,
        omega (arith, ends, length-append q.1 (exchange_ops n m)),
        exchange_in_code w after marks result position size passes answer i n m q.1 [] stack (omega arith)
            (is ∙ ap (λ (x : List ℕ). ops (q.1 ++ x)) (sym (append-nil (exchange_ops n m)))) (depths stack ln lm fits),
      )
