-- Laws of decimal numbers: the digits read back to the number, the first is 0 only for 0, how many there can be, and one law for each
-- way that the code goes. Assumes nothing.
use Prim.Native.Nat.{ℕ, zero, suc, ◌+◌, ◌*◌, ◌-◌, ◌/◌, ◌%◌, ◌^◌, ◌≤◌, ◌<◌}
use native.Mathlib.Omega.{arith}
use native.Mathlib.Nat.{pow-suc}
use mathlib.Core.Path.{◌≡◌, refl, sym, ap, ◌∙◌}
use mathlib.Core.Bool.{Bool, true, false}
use mathlib.Core.List.{List, [], ◌∷◌, ◌++◌}
use lib.ListN.{length, get_or, length-append, get_or-append}
use lib.Dec.{ltb}
use borrow.Author.Tests.{lt-ltb, le-ltb, ltb-true, ltb-false}
use Rattle.lines.specs.Decimal.{digit, last_digits, decimal, read_after, read_back}

-- one digit
last_small : (f v : ℕ) → v < 10 → last_digits (suc f) v ≡ digit v ∷ []
unfolding last_digits
last_small f v h = rw (lt-ltb v 10 h)

-- more than one
last_more : (f v : ℕ) → 10 ≤ v → last_digits (suc f) v ≡ last_digits f (v / 10) ++ (digit (v % 10) ∷ [])
unfolding last_digits
last_more f v h = rw (le-ltb v 10 h)

-- what holds of the digits of a number below the fuel: by one digit, and from the number without its last one
digits_by : (P : ℕ → List ℕ → Type 0)
    → ((v : ℕ) → v < 10 → P v (digit v ∷ []))
    → ((v : ℕ) (ds : List ℕ) → 10 ≤ v → P (v / 10) ds → P v (ds ++ (digit (v % 10) ∷ [])))
    → (f v : ℕ) → v < f → P v (last_digits f v)
digits_by P one more zero v h = absurd (omega arith)
digits_by P one more (suc f) v h = go (ltb v 10) refl (digits_by P one more f (v / 10))
  where
    go : (b : Bool) → ltb v 10 ≡ b → (v / 10 < f → P (v / 10) (last_digits f (v / 10))) → P v (last_digits (suc f) v)
    go true e rest = rw (last_small f v (ltb-true v 10 e)) (one v (ltb-true v 10 e))
    go false e rest =
        let l : 10 ≤ v = ltb-false v 10 e in
        rw (last_more f v l) (more v (last_digits f (v / 10)) l (rest (omega arith)))

-- with fuel enough, the digits don't depend on it
digits_fuel : (g f v : ℕ) → v < f → v < g → last_digits f v ≡ last_digits g v
digits_fuel zero f v h k = absurd (omega arith)
digits_fuel (suc g) zero v h k = absurd (omega arith)
digits_fuel (suc g) (suc f) v h k = go (ltb v 10) refl (digits_fuel g f (v / 10))
  where
    go : (b : Bool) → ltb v 10 ≡ b → (v / 10 < f → v / 10 < g → last_digits f (v / 10) ≡ last_digits g (v / 10)) → last_digits (suc f) v ≡ last_digits (suc g) v
    go true e rest = last_small f v (ltb-true v 10 e) ∙ sym (last_small g v (ltb-true v 10 e))
    go false e rest =
        let l : 10 ≤ v = ltb-false v 10 e in
        last_more f v l ∙ ap (λ (ds : List ℕ). ds ++ (digit (v % 10) ∷ [])) (rest (omega arith) (omega arith)) ∙ sym (last_more g v l)

-- ---- for the code

-- a number of one digit
pub decimal_small : (v : ℕ) → v < 10 → decimal v ≡ digit v ∷ []
unfolding decimal
decimal_small v h = last_small v v h

-- a number of more is the number without its last digit, and that digit
pub decimal_more : (v : ℕ) → 10 ≤ v → decimal v ≡ decimal (v / 10) ++ (digit (v % 10) ∷ [])
unfolding decimal
decimal_more v h =
    last_more v v h
    ∙ ap (λ (ds : List ℕ). ds ++ (digit (v % 10) ∷ [])) (digits_fuel (suc (v / 10)) v (v / 10) (omega arith) (omega arith))

-- no more digits than one more than the number
pub decimal_length : (v : ℕ) → length (decimal v) ≤ suc v
unfolding decimal
decimal_length v =
    digits_by (λ (n : ℕ) (ds : List ℕ). length ds ≤ suc n) (λ n h. omega arith) (λ n ds h l. rw length-append (omega arith)) (suc v) v (omega arith)

-- a number below the next power of 10
most_next : (n v : ℕ) → v < 10 ^ suc n → length (decimal v) ≤ suc n
most_next zero v h = omega (arith, ap length (decimal_small v (omega arith)))
most_next (suc n) v h = go (ltb v 10) refl (most_next n (v / 10))
  where
    go : (b : Bool) → ltb v 10 ≡ b → (v / 10 < 10 ^ suc n → length (decimal (v / 10)) ≤ suc n) → length (decimal v) ≤ suc (suc n)
    go true e rest = omega (arith, ap length (decimal_small v (ltb-true v 10 e)))
    go false e rest =
        let more = decimal_more v (ltb-false v 10 e) in
        let others : length (decimal (v / 10)) ≤ suc n = rest (omega (arith, pow-suc 10 (suc n))) in
        omega (arith, simp length-append at (ap length more))

-- a number below 10 ^ n has at most n digits, where n is 1 or more
pub decimal_most : (n v : ℕ) → 0 < n → v < 10 ^ n → length (decimal v) ≤ n
decimal_most zero v some h = absurd (omega arith)
decimal_most (suc n) v some h = most_next n v h

-- ---- what makes them decimal numbers

-- characters after others
read_append : (cs ds : List ℕ) (high : ℕ) → read_after high (cs ++ ds) ≡ read_after (read_after high cs) ds
unfolding read_after
read_append [] ds high = refl
read_append (c ∷ cs) ds high = read_append cs ds (high * 10 + (c - 48))

-- the digits read back to the number
pub decimal_reads_back : (v : ℕ) → read_back (decimal v) ≡ v
unfolding decimal read_after
decimal_reads_back v =
    digits_by (λ (n : ℕ) (ds : List ℕ). read_after 0 ds ≡ n) (λ n h. omega arith)
    (λ n ds h e. read_append ds (digit (n % 10) ∷ []) 0 ∙ ap (λ (high : ℕ). read_after high (digit (n % 10) ∷ [])) e ∙ omega arith)
    (suc v) v (omega arith)

-- there is a first digit, and it is 0 only for 0
pub decimal_first : (v : ℕ) → (0 < length (decimal v)) × (get_or (decimal v) 0 0 ≡ digit 0 → v ≡ 0)
unfolding decimal
decimal_first v =
    digits_by (λ (n : ℕ) (ds : List ℕ). (0 < length ds) × (get_or ds 0 0 ≡ digit 0 → n ≡ 0)) (λ n h. (omega arith, λ e. omega arith))
    (λ n ds h p.
    let l : 0 < length ds = p.0 in (
      rw length-append (omega arith),
      λ e. let z : n / 10 ≡ 0 = p.1 (sym (get_or-append ds (digit (n % 10) ∷ []) 0 0 l) ∙ e) in omega arith,
    ))
    (suc v) v (omega arith)
