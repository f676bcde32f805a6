-- The Rust's growing table: of all that it does only the length that it has in the end matters. Entries are set only after the table has
-- grown past them, and it grows by zeros, so one that has the last length from the start, and never grows, comes to the same. Assumes nothing.
use Prim.Native.Nat.{ℕ, ◌+◌, ◌-◌, ◌≤◌, ◌<◌}
use native.Mathlib.Omega.{arith}
use native.Mathlib.Nat.{le_refl}
use mathlib.Core.Path.{◌≡◌, refl, sym, ap, ◌∙◌}
use mathlib.Core.Bool.{Bool, true, false, ◌||◌, false≢true}
use mathlib.Core.List.{List, [], ◌∷◌, ◌++◌, map, append_assoc, append-nil}
use lib.Dec.{eqb}
use lib.ListN.{length, set, replicate, length-append, length-set, length-replicate, replicate-append-replicate}
use lib.Seq.{take_all, set-append_left}
use borrow.Author.Tests.{eqb-true}
use Rattle.layout.specs.Conditions.{placed}
use Rattle.rust_model.specs.Run.{Run, done, and_then, Build, add_u32, index_mut}
use Rattle.rust_model.specs.Sections.{AsmSection, Mark, Ops, Data, MarkRef, min_compiled_size, saturating_sub}
use Rattle.rust_model.specs.Assemble.{Reserve, Reserves, resize, grow, start_mark, start_from, max_iterations, iterate, converge}
use Rattle.rust_model.specs.Demand2.{seen}
use Rattle.rust_model.proofs.Runs.{and_then_same}
use Rattle.rust_model.proofs.Steps.{set_done, saturating}

-- a vector that has what is asked for and no more: a table that is long enough doesn't grow
abbrev pub exact : Reserve
exact len additional = len + additional

-- the length in the end, from the length so far
abbrev pub last_length : Reserve → List AsmSection → ℕ → ℕ
last_length reserve [] n = n
last_length reserve (Mark id ∷ rs) n = last_length reserve rs (reserve n (saturating_sub (id + 1) n))
last_length reserve (Ops span ∷ rs) n = last_length reserve rs n
last_length reserve (Data span ∷ rs) n = last_length reserve rs n
last_length reserve (MarkRef r ∷ rs) n = last_length reserve rs n

-- zeros at the end of a table, up to a length
abbrev padded : List ℕ → ℕ → List ℕ
padded t n = t ++ replicate (n - length t) 0

padded_long : (t : List ℕ) (n : ℕ) → length t ≤ n → length (padded t n) ≡ n
padded_long t n h = omega (arith, length-append t (replicate (n - length t) 0), length-replicate {A = ℕ} (n - length t) 0)

-- in two steps
padded_twice : (t : List ℕ) (n m : ℕ) → length t ≤ n → n ≤ m → padded (padded t n) m ≡ padded t m
padded_twice t n m h k =
    let sum : n - length t + (m - n) ≡ m - length t = omega arith in
    rw (padded_long t n h, append_assoc, replicate-append-replicate, sum)

-- `resize` to a length that isn't shorter
resize_padded : (t : List ℕ) (n : ℕ) → length t ≤ n → resize t n ≡ padded t n
unfolding resize
resize_padded t n h = ap (λ (l : List ℕ). l ++ replicate (n - length t) 0) (take_all n t h)

module _ (reserve : Reserve) (promise : Reserves reserve) where
  -- the length at a mark
  abbrev grown_to : ℕ → ℕ → ℕ
  grown_to n id = reserve n (saturating_sub (id + 1) n)

  grown_bounds : (n id : ℕ) → (n ≤ grown_to n id) × (id < grown_to n id)
  grown_bounds n id =
      let p : n + saturating_sub (id + 1) n ≤ grown_to n id = promise n (saturating_sub (id + 1) n) in
      let q : saturating_sub (id + 1) n ≡ id + 1 - n = saturating (id + 1) n in
      (omega arith, omega arith)

  grow_padded : (t : List ℕ) (id : ℕ) → grow reserve t id ≡ padded t (grown_to (length t) id)
  unfolding grow
  grow_padded t id = resize_padded t (grown_to (length t) id) (grown_bounds (length t) id).0

  -- a table never gets shorter
  pub last_longer : (rs : List AsmSection) (n : ℕ) → n ≤ last_length reserve rs n
  last_longer [] n = le_refl n
  last_longer (Mark id ∷ rs) n = omega (arith, (grown_bounds n id).0, last_longer rs (grown_to n id))
  last_longer (Ops span ∷ rs) n = last_longer rs n
  last_longer (Data span ∷ rs) n = last_longer rs n
  last_longer (MarkRef r ∷ rs) n = last_longer rs n

  -- in the end it is longer than every placed mark
  pub last_placed : (bs : List ℕ) (rs : List AsmSection) (n m : ℕ) → placed (map (seen bs) rs) m ≡ true → m < last_length reserve rs n
  unfolding placed
  last_placed bs [] n m h = absurd (false≢true h)
  last_placed bs (Mark id ∷ rs) n m h = go (eqb m id) refl h (last_placed bs rs (grown_to n id) m)
    where
      go : (b : Bool) → eqb m id ≡ b → (b || placed (map (seen bs) rs) m) ≡ true → (placed (map (seen bs) rs) m ≡ true → m < last_length reserve rs (grown_to n id))
          → m < last_length reserve rs (grown_to n id)
      go true e k later = omega (arith, eqb-true m id e, (grown_bounds n id).1, last_longer rs (grown_to n id))
      go false e k later = later k
  last_placed bs (Ops span ∷ rs) n m h = last_placed bs rs n m h
  last_placed bs (Data span ∷ rs) n m h = last_placed bs rs n m h
  last_placed bs (MarkRef r ∷ rs) n m h = last_placed bs rs n m h

-- ---- one that is long enough from the start

exact_promise : Reserves exact
exact_promise len additional = le_refl (len + additional)

pub grow_exact : (t : List ℕ) (id : ℕ) → id < length t → grow exact t id ≡ t
grow_exact t id h =
    let same : length t + saturating_sub (id + 1) (length t) - length t ≡ 0 = omega (arith, saturating (id + 1) (length t)) in
    grow_padded exact exact_promise t id ∙ ap (λ (k : ℕ). t ++ replicate k 0) same ∙ append-nil t

-- zeros at the end of a table with an entry set
padded_set : (t : List ℕ) (id v n : ℕ) → id < length t → padded (set t id v) n ≡ set (padded t n) id v
padded_set t id v n h =
    ap (λ (l : ℕ). set t id v ++ replicate (n - l) 0) (length-set t id v) ∙ sym (set-append_left t (replicate (n - length t) 0) id v h)

module _ (build : Build) (reserve : Reserve) (promise : Reserves reserve) where
  -- the first loop behind a section's mark
  abbrev rest : Reserve → AsmSection → List AsmSection → ℕ → List ℕ → Run (List ℕ)
  rest policy s rs min t = and_then (min_compiled_size build s) (λ size. and_then (add_u32 build min size) (λ min'. start_from build policy rs min' t))

  -- is the same by two tables if the sections that follow come to the same
  rest_same : (s : AsmSection) (rs : List AsmSection) (min : ℕ) (t u : List ℕ) → ((min' : ℕ) → start_from build reserve rs min' t ≡ start_from build exact rs min' u)
      → rest reserve s rs min t ≡ rest exact s rs min u
  rest_same s rs min t u h = and_then_same (min_compiled_size build s) _ _ (λ size. and_then_same (add_u32 build min size) _ _ h)

  start_grown : (rs : List AsmSection) (min : ℕ) (t : List ℕ)
      → start_from build reserve rs min t ≡ start_from build exact rs min (padded t (last_length reserve rs (length t)))
  unfolding start_from
  start_grown [] min t =
      let none : length t - length t ≡ 0 = omega arith in
      ap done (sym (ap (λ (k : ℕ). t ++ replicate k 0) none ∙ append-nil t))
  start_grown (Mark id ∷ rs) min t =
      let c : ℕ = grown_to reserve promise (length t) id in
      let n : ℕ = last_length reserve rs c in
      let b = grown_bounds reserve promise (length t) id in
      let longer : c ≤ n = last_longer reserve promise rs c in
      let t' : List ℕ = padded t c in
      let u : List ℕ = padded t n in
      let long : length t' ≡ c = padded_long t c b.0 in
      let in-t' : id < length t' = omega (arith, b.1) in
      let in-u : id < length u = omega (arith, b.0, b.1, padded_long t n (omega (arith, b.0))) in
      let left : start_mark reserve (Mark id) min t ≡ done (set t' id min) = ap (λ (x : List ℕ). index_mut x id min) (grow_padded reserve promise t id) ∙ set_done t' id min in-t' in
      let right : start_mark exact (Mark id) min u ≡ done (set u id min) = ap (λ (x : List ℕ). index_mut x id min) (grow_exact u id in-u) ∙ set_done u id min in-u in
      let same : padded (set t' id min) (last_length reserve rs (length (set t' id min))) ≡ set u id min =
      ap (λ (k : ℕ). padded (set t' id min) (last_length reserve rs k)) (length-set t' id min ∙ long)
      ∙ padded_set t' id min n in-t'
      ∙ ap (λ (x : List ℕ). set x id min) (padded_twice t c n b.0 longer) in
      ap (λ (x : Run (List ℕ)). and_then x (rest reserve (Mark id) rs min)) left
      ∙ rest_same (Mark id) rs min (set t' id min) (set u id min) (λ min'. start_grown rs min' (set t' id min) ∙ ap (start_from build exact rs min') same)
      ∙ sym (ap (λ (x : Run (List ℕ)). and_then x (rest exact (Mark id) rs min)) right)
  start_grown (Ops span ∷ rs) min t = rest_same (Ops span) rs min t _ (λ min'. start_grown rs min' t)
  start_grown (Data span ∷ rs) min t = rest_same (Data span) rs min t _ (λ min'. start_grown rs min' t)
  start_grown (MarkRef r ∷ rs) min t = rest_same (MarkRef r) rs min t _ (λ min'. start_grown rs min' t)

  -- `converge_mark_offsets` from a table of n zeros is that from a table that has its last length and never grows
  pub converge_grown : (rs : List AsmSection) (n : ℕ) → converge build reserve rs (replicate n 0) ≡ converge build exact rs (replicate (last_length reserve rs n) 0)
  unfolding converge
  converge_grown rs n =
      let long : length (replicate {A = ℕ} n 0) ≡ n = length-replicate n 0 in
      let all : ℕ = last_length reserve rs n in
      let sum : n + (all - n) ≡ all = omega (arith, last_longer reserve promise rs n) in
      let zeros : padded (replicate n 0) (last_length reserve rs (length (replicate {A = ℕ} n 0))) ≡ replicate all 0 =
      ap (λ (k : ℕ). replicate n 0 ++ replicate (last_length reserve rs k - k) 0) long
      ∙ replicate-append-replicate n (all - n) 0
      ∙ ap (λ (k : ℕ). replicate k 0) sum in
      ap (λ (x : Run (List ℕ)). and_then x (iterate build max_iterations rs)) (start_grown rs 0 (replicate n 0) ∙ ap (start_from build exact rs 0) zeros)
