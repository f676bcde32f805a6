-- The laws of a map of one bit for each mark: what is put in is in it, every other mark as before; so it has the marks placed before a
-- section as the walk goes on. Assumes nothing.
use Prim.Native.Nat.{ℕ, zero, suc, ◌+◌, ◌*◌, ◌^◌, ◌/◌, ◌%◌, ◌<◌, ◌-◌}
use native.Mathlib.Omega.{arith}
use native.Mathlib.Nat.{mod-eq_of_lt, mod-lt, zero-lt-suc, one-mul, div_self, div-eq_of_lt}
use native.Mathlib.Numerals.{add-one}
use mathlib.Core.Path.{◌≡◌, refl, sym, ◌∙◌, ap}
use mathlib.Core.Bool.{Bool, true, false, ◌||◌, or-false}
use mathlib.Core.Logic.{◌⊎◌, inl, inr, ⊎_elim}
use mathlib.Core.List.{List, [], ◌∷◌, ◌++◌}
use lib.Bits.{bit_or, or_shr, or_mod, or_zero_r, shifted_even}
use lib.Dec.{eqb}
use lib.ListN.{length, get_or, set, take, replicate, length-set}
use lib.Pow.{pow-lt, pow_pos, pow-add, shl-shr}
use lib.Seq.{get_or-set_same, get_or-set_other, take-suc}
use borrow.Author.Tests.{eqb-true, eqb-false, eq-eqb}
use Rattle.records.specs.Sections.{Section, mark, ops, bytes, reference}
use Rattle.layout.specs.Conditions.{section_at, places_some, placed}
use Rattle.layout.proofs.Walks.{zeros}
use Rattle.settling.proofs.SectionWords.{NotMark}
use Rattle.tables.specs.MarkMap.{digit, in_map, with_mark, Marked}

-- ---- bits

-- one, shifted by less than eight, as the machine has it in a byte
pub shifted : (m : ℕ) → (1 * 2 ^ (m % 8)) % 256 ≡ 2 ^ (m % 8)
shifted m = ap (λ (x : ℕ). x % 256) (one-mul (2 ^ (m % 8))) ∙ mod-eq_of_lt (pow-lt {i = m % 8} {j = 8} (mod-lt m (zero-lt-suc 7)))

-- a digit of an or
digit_or : (b c k : ℕ) → digit (bit_or b c) k ≡ bit_or (digit b k) (digit c k)
digit_or b c k = ap (λ (x : ℕ). x % 2) (or_shr b c k) ∙ or_mod (b / 2 ^ k) (c / 2 ^ k) 1

-- or with 1, of a digit
or_one : (d : ℕ) → d < 2 → bit_or d 1 ≡ 1
or_one zero h = refl
or_one (suc zero) h = refl
or_one (suc (suc d)) h = omega (arith, h)

-- a power of two has no other digit
other_digit : (k j : ℕ) → (j ≡ k → ⊥) → digit (2 ^ k) j ≡ 0
other_digit k j ne = ⊎_elim above below (split k j ne)
  where
    split : (a b : ℕ) → (b ≡ a → ⊥) → (a < b) ⊎ (b < a)
    split zero zero n = absurd (n refl)
    split zero (suc b) n = inl (zero-lt-suc b)
    split (suc a) zero n = inr (zero-lt-suc a)
    split (suc a) (suc b) n = ⊎_elim (λ (h : a < b). inl (omega (arith, h))) (λ (h : b < a). inr (omega (arith, h))) (split a b (λ e. n (ap suc e)))

    above : k < j → digit (2 ^ k) j ≡ 0
    above h = ap (λ (x : ℕ). x % 2) (div-eq_of_lt (pow-lt {i = k} {j = j} h))

    below : j < k → digit (2 ^ k) j ≡ 0
    below h =
        let d = k - j - 1 in
        let e : suc d + j ≡ k = omega (arith, h) in
        ap (λ (x : ℕ). digit (2 ^ x) j) (sym e) ∙ ap (λ (x : ℕ). x / 2 ^ j % 2) (pow-add 2 (suc d) j)
        ∙ ap (λ (x : ℕ). x % 2) (shl-shr (2 ^ suc d) j) ∙ ap (λ (x : ℕ). x % 2) (sym (one-mul (2 ^ suc d))) ∙ shifted_even 1 d

-- ---- a mark put into the map

pub length_with : (map : List ℕ) (m : ℕ) → length (with_mark map m) ≡ length map
unfolding with_mark
length_with map m = length-set map (m / 8) (bit_or (get_or map (m / 8) 0) (2 ^ (m % 8)))

-- it is there
mark_here : (map : List ℕ) (m : ℕ) → m < 8 * length map → in_map (with_mark map m) m ≡ true
unfolding in_map with_mark
mark_here map m l =
    let k = m % 8 in
    let b = get_or map (m / 8) 0 in
    let here : m / 8 < length map = omega arith in
    let bit : digit (get_or (set map (m / 8) (bit_or b (2 ^ k))) (m / 8) 0) k ≡ 1 =
    ap (λ (x : ℕ). digit x k) (get_or-set_same map (m / 8) (bit_or b (2 ^ k)) 0 here) ∙ digit_or b (2 ^ k) k
    ∙ ap (λ (x : ℕ). bit_or (digit b k) (x % 2)) (div_self (pow_pos k)) ∙ or_one (digit b k) (mod-lt (b / 2 ^ k) (zero-lt-suc 1)) in
    eq-eqb _ 1 bit

-- and every other mark as it was
mark_other : (map : List ℕ) (m j : ℕ) → m < 8 * length map → (j ≡ m → ⊥) → in_map (with_mark map m) j ≡ in_map map j
unfolding in_map with_mark
mark_other map m j l ne = ap (λ (x : ℕ). eqb x 1) (go (eqb (j / 8) (m / 8)) refl)
  where
    b : ℕ
    b = get_or map (m / 8) 0

    go : (q : Bool) → eqb (j / 8) (m / 8) ≡ q → digit (get_or (set map (m / 8) (bit_or b (2 ^ (m % 8)))) (j / 8) 0) (j % 8) ≡ digit (get_or map (j / 8) 0) (j % 8)
    go false n = ap (λ (x : ℕ). digit x (j % 8)) (get_or-set_other map (m / 8) (j / 8) (bit_or b (2 ^ (m % 8))) 0 (eqb-false (j / 8) (m / 8) n))
    go true q =
        let e : j / 8 ≡ m / 8 = eqb-true (j / 8) (m / 8) q in
        let here : m / 8 < length map = omega arith in
        ap (λ (i : ℕ). digit (get_or (set map (m / 8) (bit_or b (2 ^ (m % 8)))) i 0) (j % 8)) e
        ∙ ap (λ (x : ℕ). digit x (j % 8)) (get_or-set_same map (m / 8) (bit_or b (2 ^ (m % 8))) 0 here)
        ∙ digit_or b (2 ^ (m % 8)) (j % 8)
        ∙ ap (bit_or (digit b (j % 8))) (other_digit (m % 8) (j % 8) (λ f. ne (omega (arith, e, f))))
        ∙ or_zero_r (digit b (j % 8))
        ∙ ap (λ (i : ℕ). digit (get_or map i 0) (j % 8)) (sym e)

-- so in the map is what was in it, or the mark
in_with : (map : List ℕ) (m j : ℕ) → m < 8 * length map → in_map (with_mark map m) j ≡ (in_map map j || eqb j m)
in_with map m j l = go (eqb j m) refl
  where
    or-true : (b : Bool) → (b || true) ≡ true
    or-true true = refl
    or-true false = refl

    go : (q : Bool) → eqb j m ≡ q → in_map (with_mark map m) j ≡ (in_map map j || q)
    go true e = ap (in_map (with_mark map m)) (eqb-true j m e) ∙ mark_here map m l ∙ sym (or-true (in_map map j))
    go false e = mark_other map m j l (eqb-false j m e) ∙ sym (or-false (in_map map j))

-- ---- the marks placed before a section

-- one section more
placed_more : (ss : List Section) (x : Section) (m : ℕ) → placed (ss ++ (x ∷ [])) m ≡ (placed ss m || places_some (eqb m) x)
unfolding placed
placed_more [] x m = or-false (places_some (eqb m) x)
placed_more (s ∷ ss) x m = ap (λ (b : Bool). places_some (eqb m) s || b) (placed_more ss x m) ∙ sym (or_assoc (places_some (eqb m) s) (placed ss m) (places_some (eqb m) x))
  where
    or_assoc : (a b c : Bool) → ((a || b) || c) ≡ (a || (b || c))
    or_assoc true b c = refl
    or_assoc false b c = refl

placed_next : (ss : List Section) (i m : ℕ) → i < length ss → placed (take (i + 1) ss) m ≡ (placed (take i ss) m || places_some (eqb m) (section_at ss i))
placed_next ss i m l =
    ap (λ (j : ℕ). placed (take j ss) m) (add-one i) ∙ ap (λ (x : List Section). placed x m) (take-suc ss i (mark 0) l) ∙ placed_more (take i ss) (section_at ss i) m

-- no mark is placed before the first, and none is in the map all 0
pub marked_start : (ss : List Section) (map : List ℕ) → map ≡ replicate (length map) 0 → Marked ss 0 map
unfolding in_map placed
marked_start ss map e m l = none
  where
    zero-digit : (k : ℕ) → eqb (0 / 2 ^ k % 2) 1 ≡ false
    zero-digit k = ap (λ (x : ℕ). eqb (x % 2) 1) (div-eq_of_lt (pow_pos k))

    none : in_map map m ≡ placed (take 0 ss) m
    none = ap (λ (x : List ℕ). eqb (digit (get_or x (m / 8) 0) (m % 8)) 1) e ∙ ap (λ (x : ℕ). eqb (digit x (m % 8)) 1) (zeros (length map) (m / 8)) ∙ zero-digit (m % 8)

module _ (ss : List Section) (i : ℕ) (map : List ℕ) (l : i < length ss) (h : Marked ss i map) where
  -- a mark's section puts it in
  pub marked_mark : (m : ℕ) → section_at ss i ≡ mark m → m < 8 * length map → Marked ss (i + 1) (with_mark map m)
  marked_mark m e b j k =
      let k' : j < 8 * length map = omega (arith, length_with map m) in
      in_with map m j b ∙ ap (λ (x : Bool). x || eqb j m) (h j k') ∙ ap (λ (x : Section). placed (take i ss) j || places_some (eqb j) x) (sym e) ∙ sym (placed_next ss i j l)

  -- another section leaves it
  pub marked_other : NotMark (section_at ss i) → Marked ss (i + 1) map
  marked_other n j k = h j k ∙ sym (or-false (placed (take i ss) j)) ∙ ap (λ (b : Bool). placed (take i ss) j || b) (sym (none (section_at ss i) n)) ∙ sym (placed_next ss i j l)
    where
      none : (x : Section) → NotMark x → places_some (eqb j) x ≡ false
      none (mark m) o = absurd o
      none (ops bs) o = refl
      none (bytes bs) o = refl
      none (reference r) o = refl

-- a map of so many zeros
pub replicated : (n : ℕ) (map : List ℕ) → length map ≡ n → map ≡ replicate n 0 → map ≡ replicate (length map) 0
replicated n map long e = rw long e
