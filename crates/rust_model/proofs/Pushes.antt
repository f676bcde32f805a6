-- Each building call of the Rust that doesn't panic: ours has no bad depth and no bad word, and the Rust's store gets the section that
-- ours gets. Assumes nothing.
use Rattle.std.specs.Prelude.{None, Option, Some}
use Prim.Native.Nat.{ℕ, ◌+◌, ◌-◌, ◌≤◌}
use native.Mathlib.Omega.{arith}
use mathlib.Core.Path.{◌≡◌, refl, sym, ap, ◌∙◌, subst}
use mathlib.Core.Bool.{Bool, true, false, not, ◌&&◌, and-eq-true_iff as and-true}
use mathlib.Mathlib.Data.Bool.Basic.{or-eq-false-eq-eq-false-and-eq-false as or-false, dichotomy}
use mathlib.Core.Logic.{◌⊎◌, inl, inr, ⊎_elim}
use mathlib.Core.List.{List, [], ◌∷◌, ◌++◌}
use lib.ListN.{length}
use lib.Dec.{leb, ltb, eqb}
use borrow.Author.Tests.{leb-true, eqb-true, le-ltb, ne_eqb}
use Rattle.units.specs.declared.RefSize.{RefSize}
use Rattle.units.specs.Numbers.{number}
use Rattle.units.specs.declared.RefSize.TheVariants.{S1, S2, S3, S4}
use Rattle.units.specs.declared.MarkReference.{MarkReference}
use Rattle.units.specs.declared.MarkReference.TheVariants.{Direct, Delta}
use Rattle.units.specs.declared.AsmReference.{AsmReference}
use Rattle.records.specs.Sections.{Section, mark, ops, bytes, reference}
use Rattle.calls.specs.Calls.{Push, push_mark, push_op_byte, push_swap, push_dup, push_exchange, push_minimal_u256, push_minimal_u64, push_minimal_u32, push_data, push_reference, has_bad_depth, has_bad_word, exchange_ops, minimal_push, added}
use Rattle.evm.specs.Opcodes as evm
use Rattle.calls.specs.Lists.{after_last, added_after, added_to}
use Rattle.rust_model.specs.Run.{done, and_then, Build}
use Rattle.rust_model.specs.Building.{Assembler, Mark, op_byte, op_bytes, last_swap_arm, swap_op, last_dup_arm, dup_op, swap, dup, exchange, minimal, u256, stored_ref, push_call}
use Rattle.rust_model.specs.Sections.{MarkRef, from_stored}
use Rattle.rust_model.specs.Demand2.{sections_of}
use Rattle.rust_model.proofs.Runs.{panic_done, done_inj, and_then_done, cond_done}
use Rattle.rust_model.proofs.Minimal.{minimal_same}
use Rattle.rust_model.proofs.Adds.{Kept, Adds, adds_alone}
use Rattle.rust_model.proofs.Bytes.{op_byte_lem, op_bytes_lem, push_data_lem}

-- a call that the Rust accepts: ours has none of the refusals of its own numbers, and adds the same
pub record Pushed (p : Push) (a a' : Assembler) : Type 0 where
  pub depth : has_bad_depth p ≡ false
  pub word : has_bad_word p ≡ false
  pub adds : Adds (added p) a a'

-- ---- swap, dup, exchange

-- `push_swap`: the depth is 1 to 16, and the opcode ours
swapped : (a a' : Assembler) (d : ℕ) → swap a d ≡ done a' → (1 ≤ d) × (d ≤ 16) × (op_byte a (evm.swap_op d) ≡ done a')
unfolding swap swap_op
swapped a a' d r =
    let r₁ = and_then_done (swap_op d) (op_byte a) a' r in
    let r₂ = cond_done (leb 1 d && leb d last_swap_arm) (done (0x90 + (d - 1))) r₁.0 r₁.1 in
    let t = (and-true (leb 1 d) (leb d last_swap_arm)).0 r₂.0 in
    let low : 1 ≤ d = leb-true 1 d t.0 in
    let high : d ≤ 16 = omega (arith, leb-true d last_swap_arm t.1) in
    let op : 0x90 + (d - 1) ≡ 0x8f + d = omega arith in
    (low, high, subst (λ (x : ℕ). op_byte a x ≡ done a') (sym (done_inj r₂.1) ∙ op) r₁.2)

swap_pushed : (a a' : Assembler) (d : ℕ) → Kept a → swap a d ≡ done a' → Pushed (push_swap d) a a'
swap_pushed a a' d k r =
    let s = swapped a a' d r in
    record {
      depth = (or-false (eqb d 0) (ltb 16 d)).1 (ne_eqb d 0 (λ e. omega (arith, s.0)), le-ltb 16 d s.1);
      word = refl;
      adds = op_byte_lem a a' (evm.swap_op d) k s.2;
    }

-- `push_dup`
dup_pushed : (a a' : Assembler) (d : ℕ) → Kept a → dup a d ≡ done a' → Pushed (push_dup d) a a'
unfolding dup dup_op
dup_pushed a a' d k r =
    let r₁ = and_then_done (dup_op d) (op_byte a) a' r in
    let r₂ = cond_done (leb d last_dup_arm) (done (0x80 + d)) r₁.0 r₁.1 in
    record {
      depth = le-ltb 15 d (omega (arith, leb-true d last_dup_arm r₂.0));
      word = refl;
      adds = op_byte_lem a a' (0x80 + d) k (subst (λ (x : ℕ). op_byte a x ≡ done a') (sym (done_inj r₂.1)) r₁.2);
    }

-- three swaps, one after another
thrice : (a a' : Assembler) (d e f : ℕ) → and_then (swap a d) (λ x. and_then (swap x e) (λ y. swap y f)) ≡ done a'
    → (d ≤ 16) × (e ≤ 16) × (op_bytes a (evm.swap_op d ∷ evm.swap_op e ∷ evm.swap_op f ∷ []) ≡ done a')
unfolding op_bytes
thrice a a' d e f r =
    let r₁ = and_then_done (swap a d) (λ x. and_then (swap x e) (λ y. swap y f)) a' r in
    let r₂ = and_then_done (swap r₁.0 e) (λ y. swap y f) a' r₁.2 in
    let s₁ = swapped a r₁.0 d r₁.1 in
    let s₂ = swapped r₁.0 r₂.0 e r₂.1 in
    let s₃ = swapped r₂.0 a' f r₂.2 in
    (s₁.1, s₂.1, rw (s₁.2, s₂.2, s₃.2))

-- `push_exchange` of two that differ: the depths are at most 16, and the opcodes ours
exchanged : (a a' : Assembler) (n m : ℕ) → Kept a → eqb n m ≡ false → exchange a n m ≡ done a' → (n ≤ 16) × (m ≤ 16) × Adds (ops (exchange_ops n m)) a a'
unfolding exchange exchange_ops
exchanged a a' n m k d r = go (dichotomy (eqb n 0)) (dichotomy (eqb m 0))
  where
    go : (eqb n 0 ≡ false) ⊎ (eqb n 0 ≡ true) → (eqb m 0 ≡ false) ⊎ (eqb m 0 ≡ true) → (n ≤ 16) × (m ≤ 16) × Adds (ops (exchange_ops n m)) a a'
    go (inr t) j =
        let s = swapped a a' _ (rw (d, t) at r) in
        (omega (arith, eqb-true n 0 t), s.1, rw t (op_byte_lem a a' _ k s.2))
    go (inl f) (inr t) =
        let s = swapped a a' _ (rw (d, f, t) at r) in
        (s.1, omega (arith, eqb-true m 0 t), rw (f, t) (op_byte_lem a a' _ k s.2))
    go (inl f) (inl g) =
        let s = thrice a a' _ _ _ (rw (d, f, g) at r) in
        (s.0, s.1, rw (f, g) (op_bytes_lem a a' _ _ k s.2))

-- an exchange of equals panics
exchange_differ : (a a' : Assembler) (n m : ℕ) → exchange a n m ≡ done a' → eqb n m ≡ false
unfolding exchange
exchange_differ a a' n m r = ⊎_elim (λ f. f) (λ t. panic_done (rw t at r)) (dichotomy (eqb n m))

exchange_pushed : (a a' : Assembler) (n m : ℕ) → Kept a → exchange a n m ≡ done a' → Pushed (push_exchange n m) a a'
exchange_pushed a a' n m k r =
    let d : eqb n m ≡ false = exchange_differ a a' n m r in
    let s = exchanged a a' n m k d r in
    record {
      depth = (or-false (eqb n m) _).1 (d, (or-false (ltb 16 n) (ltb 16 m)).1 (le-ltb 16 n s.0, le-ltb 16 m s.1));
      word = refl;
      adds = s.2;
    }

-- ---- minimal pushes

minimal_adds : (a a' : Assembler) (v : ℕ) → Kept a → minimal a v ≡ done a' → Adds (ops (minimal_push v)) a a'
unfolding minimal_push
minimal_adds a a' v k r = op_bytes_lem a a' _ _ k (sym (minimal_same a v) ∙ r)

-- of a word, which has 32 bytes
word_pushed : (a a' : Assembler) (word : List ℕ) → Kept a → and_then (u256 word) (minimal a) ≡ done a' → Pushed (push_minimal_u256 word) a a'
unfolding u256
word_pushed a a' word k r =
    let r₁ = and_then_done (u256 word) (minimal a) a' r in
    let r₂ = cond_done (eqb (length word) 32) (done (number word)) r₁.0 r₁.1 in
    record {
      depth = refl;
      word = ap not r₂.0;
      adds = minimal_adds a a' (number word) k (subst (λ (v : ℕ). minimal a v ≡ done a') (sym (done_inj r₂.1)) r₁.2);
    }

-- ---- marks and references

-- what joins no section comes last in any list
comes_last : (x : Section) → ((y : Section) → after_last y x ≡ y ∷ x ∷ []) → (l : List Section) → added_to l x ≡ l ++ (x ∷ [])
unfolding added_to added_after
comes_last x h [] = refl
comes_last x h (y ∷ []) = h y
comes_last x h (y ∷ z ∷ zs) = ap (λ (l : List Section). y ∷ l) (comes_last x h (z ∷ zs))

mark_last : (m : ℕ) (y : Section) → after_last y (mark m) ≡ y ∷ mark m ∷ []
mark_last m (mark n) = refl
mark_last m (ops bs) = refl
mark_last m (bytes bs) = refl
mark_last m (reference r) = refl

reference_last : (r : AsmReference) (y : Section) → after_last y (reference r) ≡ y ∷ reference r ∷ []
reference_last r (mark n) = refl
reference_last r (ops bs) = refl
reference_last r (bytes bs) = refl
reference_last r (reference q) = refl

mark_pushed : (build : Build) (a a' : Assembler) (m : ℕ) → Kept a → push_call build (push_mark m) a ≡ done a' → Pushed (push_mark m) a a'
mark_pushed build a a' m k r =
    record {
      depth = refl;
      word = refl;
      adds = subst (Adds (mark m) a) (done_inj r) (adds_alone a (Mark m) (mark m) refl refl (comes_last (mark m) (mark_last m) (sections_of a)) tt tt k);
    }

-- the section that `push_reference` stores is read back as the reference
stored_ref_lem : (m : MarkReference) (s : Option RefSize) (p : Bool) → from_stored (stored_ref m s p) ≡ MarkRef (record { mark_ref = m; set_size = s; pushed = p })
stored_ref_lem (Direct id) s p = refl
stored_ref_lem (Delta span) None true = refl
stored_ref_lem (Delta span) (Some S1) true = refl
stored_ref_lem (Delta span) (Some S2) true = refl
stored_ref_lem (Delta span) (Some S3) true = refl
stored_ref_lem (Delta span) (Some S4) true = refl
stored_ref_lem (Delta span) None false = refl
stored_ref_lem (Delta span) (Some S1) false = refl
stored_ref_lem (Delta span) (Some S2) false = refl
stored_ref_lem (Delta span) (Some S3) false = refl
stored_ref_lem (Delta span) (Some S4) false = refl

reference_pushed : (build : Build) (a a' : Assembler) (x : AsmReference) → Kept a → push_call build (push_reference x) a ≡ done a' → Pushed (push_reference x) a a'
reference_pushed build a a' x k r =
    let e = stored_ref_lem x.mark_ref x.set_size x.pushed in
    record {
      depth = refl;
      word = refl;
      adds = subst (Adds (reference x) a) (done_inj r) (adds_alone a _ (reference x) (rw e) refl (comes_last (reference x) (reference_last x) (sections_of a)) (rw e tt) (rw e tt) k);
    }

-- ---- any of them

pub push_same : (build : Build) (p : Push) (a a' : Assembler) → Kept a → push_call build p a ≡ done a' → Pushed p a a'
push_same build (push_mark m) a a' k r = mark_pushed build a a' m k r
push_same build (push_op_byte b) a a' k r = record { depth = refl; word = refl; adds = op_byte_lem a a' b k r }
push_same build (push_swap d) a a' k r = swap_pushed a a' d k r
push_same build (push_dup d) a a' k r = dup_pushed a a' d k r
push_same build (push_exchange n m) a a' k r = exchange_pushed a a' n m k r
push_same build (push_minimal_u256 word) a a' k r = word_pushed a a' word k r
push_same build (push_minimal_u64 v) a a' k r = record { depth = refl; word = refl; adds = minimal_adds a a' v k r }
push_same build (push_minimal_u32 v) a a' k r = record { depth = refl; word = refl; adds = minimal_adds a a' v k r }
push_same build (push_data bs) a a' k r = record { depth = refl; word = refl; adds = push_data_lem build a a' bs k r }
push_same build (push_reference x) a a' k r = reference_pushed build a a' x k r
