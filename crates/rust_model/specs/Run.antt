-- What the Rust comes to: a value or a panic; and the steps of it that can panic. Written from plank-core's index.rs, index_vec/mod.rs
-- and span.rs, and from the language: an index past the end panics in every build; a `u32` that overflows panics where overflow checks
-- are on and else wraps round; `debug_assert!` is there where debug assertions are on. Assumes nothing.
use Rattle.std.specs.Prelude.{ℕ, ◌+◌, ◌-◌, ◌%◌, Bool, cond, ◌&&◌, List, [], ◌∷◌, ◌++◌, leb, ltb, length, get_or, set}
use Rattle.std.proofs.Math.Seq.{slice}

-- a value, or a panic
pub data Run (A : Type 0) : Type 0 where
  done : A → Run A
  panic : Run A

-- one step after another: a panic ends all
abbrev pub and_then : {A B : Type 0} → Run A → (A → Run B) → Run B
and_then (done x) next = next x
and_then panic next = panic

-- how the Rust is built: rustc's switches `-C overflow-checks` and `-C debug-assertions`. A build profile sets each by itself: `dev` has
-- both on, `release` both off. They are set for each crate; those of `assembler` count, where every step that they govern is compiled.
pub record Build : Type 0 where
  pub overflow_checks : Bool
  pub debug_assertions : Bool

-- a result that is out of range, and what is left of it modulo 2^32
abbrev pub overflow : Build → ℕ → Run ℕ
overflow build wrapped = cond build.overflow_checks panic (done wrapped)

-- `a + b` of two `u32`
unfoldable pub add_u32 : Build → ℕ → ℕ → Run ℕ
add_u32 build a b = cond (ltb (a + b) 4294967296) (done (a + b)) (overflow build ((a + b) % 4294967296))

-- `a - b` of two `u32`, or of two indices
unfoldable pub sub_u32 : Build → ℕ → ℕ → Run ℕ
sub_u32 build a b = cond (leb b a) (done (a - b)) (overflow build ((4294967296 + a - b) % 4294967296))

-- `a.checked_sub(b).expect(..)`
unfoldable pub checked_sub : ℕ → ℕ → Run ℕ
checked_sub a b = cond (leb b a) (done (a - b)) panic

-- `debug_assert!(test)`, then what follows
abbrev pub debug_assert : {A : Type 0} → Build → Bool → Run A → Run A
debug_assert build test next = cond build.debug_assertions (cond test next panic) next

-- `xs[i]`
unfoldable pub index : List ℕ → ℕ → Run ℕ
index xs i = cond (ltb i (length xs)) (done (get_or xs i 0)) panic

-- `xs[i] = v`
unfoldable pub index_mut : List ℕ → ℕ → ℕ → Run (List ℕ)
index_mut xs i v = cond (ltb i (length xs)) (done (set xs i v)) panic

-- `&xs[start..end]`
unfoldable pub range : List ℕ → ℕ → ℕ → Run (List ℕ)
range xs start end = cond (leb start end && leb end (length xs)) (done (slice start end xs)) panic

-- `IndexVec::len_idx`: the length as an index, of which the largest is 2^32 - 2
unfoldable pub len_idx : List ℕ → Run ℕ
len_idx xs = cond (leb (length xs) 4294967294) (done (length xs)) panic

-- `IndexVec::push`
unfoldable pub pushed : List ℕ → ℕ → Run (List ℕ)
pushed xs x = and_then (len_idx xs) (λ i. done (xs ++ (x ∷ [])))
