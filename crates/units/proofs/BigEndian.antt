-- Laws of numbers as bytes, highest first: `number`, `big_endian` and `least_bytes` undo and bound each other, and what leading zeros do.
-- 'Every element of bs is a byte' is `AllBytes bs`. Assumes nothing.
use Prim.Native.Nat.{ℕ, zero, suc, ◌+◌, ◌*◌, ◌-◌, ◌/◌, ◌%◌, ◌^◌, ◌≤◌, ◌<◌}
use native.Mathlib.Nat.{add-zero, add-suc, pow-succ', eq-zero-or-pos, lt_of_lt_of_le, lt_of_not-le, not-le_of_lt, pos_of_ne-zero, add-mul, mul_assoc, mul_right_comm, sub-zero, suc-sub-suc, pow-zero, pow-suc, pow-le-pow_right, one-le-pow, div-one, div-eq_of_lt, mod-lt, mod-eq_of_lt, div-add-mod', div-lt_iff_lt-mul, div-div-eq-div-mul, le_antisymm, mul-add-div_right, mul-add-mod_self_right, le-mul_of_pos_right, mul_comm}
use native.Mathlib.Numerals.{add-one, one-add}
use native.Mathlib.Omega.{arith}
use mathlib.Core.Path.{◌≡◌, refl, sym, ap, ap₂, ◌∙◌}
use mathlib.Core.Logic.{◌↔◌, ◌≢◌, ◌⊎◌, inl, inr, ⊎_elim}
use mathlib.Core.List.{List, [], ◌∷◌, ◌++◌, append-nil, append_assoc}
use lib.ListN.{length, get_or, take, drop, replicate, length-append, length-drop, replicate-append-replicate}
use lib.Seq.{get_or-drop, get_or_at, take-suc}
use lib.Arith.{digits_lt, digits_div}
use borrow.Author.Tests.{ne_eqb}
use Rattle.units.specs.Numbers.{number, number_after, big_endian, least_bytes}

-- every element is a byte, in the form in which code knows it
abbrev pub AllBytes : List ℕ → Type 0
AllBytes bs = (i : ℕ) → get_or bs i 0 < 256

-- a power of 256 is not 0
pub pow256_pos : (n : ℕ) → 0 < 256 ^ n
pow256_pos n = one-le-pow n 256 (omega arith)

-- powers of 256 grow with the exponent
pub pow256_mono : {i j : ℕ} → i ≤ j → 256 ^ i ≤ 256 ^ j
pow256_mono h = pow-le-pow_right (omega arith) h

-- a number fits in n + 1 bytes exactly if the number without its last byte fits in n
pub div_lt_pow256 : (n v : ℕ) → (v / 256 < 256 ^ n) ↔ (v < 256 ^ suc n)
div_lt_pow256 n v =
    let e : (v / 256 < 256 ^ n) ↔ (v < 256 ^ n * 256) = div-lt_iff_lt-mul (omega arith) in
    rw pow-suc e

-- ---- the number that bytes are

-- bytes after bytes
pub number_after_append : (high : ℕ) (xs ys : List ℕ) → number_after high (xs ++ ys) ≡ number_after (number_after high xs) ys
unfolding number_after
number_after_append high [] ys = refl
number_after_append high (x ∷ xs) ys = number_after_append (high * 256 + x) xs ys

-- one byte more after what stands before, as a sum
high_step : (h b p n : ℕ) → (h * 256 + b) * p + n ≡ h * (p * 256) + ((0 * 256 + b) * p + n)
high_step h b p n =
    let e : (h * 256 + b) * p ≡ h * 256 * p + b * p = add-mul (h * 256) b p in
    let f : h * 256 * p ≡ h * p * 256 = mul_right_comm h 256 p in
    let g : h * (p * 256) ≡ h * p * 256 = sym (mul_assoc h p 256) in
    let z : (0 * 256 + b) * p ≡ b * p = ap (λ (x : ℕ). x * p) (omega arith) in
    omega arith

-- what stands before the bytes counts 256 for each of them
pub number_after_high : (high : ℕ) (bs : List ℕ) → number_after high bs ≡ high * 256 ^ length bs + number bs
unfolding number_after number
number_after_high high [] = let e : 256 ^ 0 ≡ 1 = pow-zero 256 in omega arith
number_after_high high (b ∷ bs) =
    let p : ℕ = 256 ^ length bs in
    let e : number_after (high * 256 + b) bs ≡ (high * 256 + b) * p + number bs = number_after_high (high * 256 + b) bs in
    let f : number_after (0 * 256 + b) bs ≡ (0 * 256 + b) * p + number bs = number_after_high (0 * 256 + b) bs in
    rw (pow-suc, e, f) (high_step high b p (number bs))

-- no bytes are 0
pub number_nil : number [] ≡ 0
unfolding number number_after
number_nil = refl

-- one byte more at the end
pub number_snoc : (bs : List ℕ) (b : ℕ) → number (bs ++ (b ∷ [])) ≡ number bs * 256 + b
unfolding number number_after
number_snoc bs b = number_after_append 0 bs (b ∷ [])

-- one byte more of those that a list has
pub number_take : (bs : List ℕ) (i : ℕ) → i < length bs → number (take (suc i) bs) ≡ number (take i bs) * 256 + get_or bs i 0
number_take bs i h = ap number (take-suc bs i 0 h) ∙ number_snoc (take i bs) (get_or bs i 0)

-- one byte more in front
pub number_cons : (b : ℕ) (bs : List ℕ) → number (b ∷ bs) ≡ b * 256 ^ length bs + number bs
unfolding number number_after
number_cons b bs = ap (λ (h : ℕ). number_after h bs) (omega arith) ∙ number_after_high b bs

-- n bytes are a number below 256 ^ n
pub number_lt : (bs : List ℕ) → AllBytes bs → number bs < 256 ^ length bs
unfolding number number_after
number_lt [] h = pow256_pos 0
number_lt (b ∷ bs) h =
    let i : number bs < 256 ^ length bs = number_lt bs (λ i. h (suc i)) in
    let d : b * 256 ^ length bs + number bs < 256 * 256 ^ length bs = digits_lt (h 0) i in
    rw (number_cons b bs, pow-suc, mul_comm (256 ^ length bs) 256) d

-- ---- a number in n bytes

-- they are n
pub length_big_endian : (n v : ℕ) → length (big_endian n v) ≡ n
unfolding big_endian
length_big_endian zero v = refl
length_big_endian (suc n) v =
    let e : length (big_endian n (v / 256)) ≡ n = length_big_endian n (v / 256) in
    simp length-append (omega arith)

-- the elements of two lists of bytes are bytes
pub bytes_append : (xs ys : List ℕ) → AllBytes xs → AllBytes ys → AllBytes (xs ++ ys)
bytes_append [] ys hx hy i = hy i
bytes_append (x ∷ xs) ys hx hy zero = hx 0
bytes_append (x ∷ xs) ys hx hy (suc i) = bytes_append xs ys (λ j. hx (suc j)) hy i

-- one byte
pub bytes_one : (b : ℕ) → b < 256 → AllBytes (b ∷ [])
bytes_one b h zero = h
bytes_one b h (suc i) = omega arith

-- each of them is a byte
pub bytes_big_endian : (n v : ℕ) → AllBytes (big_endian n v)
unfolding big_endian
bytes_big_endian zero v i = omega arith
bytes_big_endian (suc n) v i =
    bytes_append (big_endian n (v / 256)) (v % 256 ∷ []) (bytes_big_endian n (v / 256)) (bytes_one (v % 256) (mod-lt v (omega arith))) i

-- a number that fits in n bytes comes back
pub number_big_endian : (n v : ℕ) → v < 256 ^ n → number (big_endian n v) ≡ v
unfolding big_endian number number_after
number_big_endian zero v h = let e : 256 ^ 0 ≡ 1 = pow-zero 256 in omega arith
number_big_endian (suc n) v h =
    let e : number (big_endian n (v / 256)) ≡ v / 256 = number_big_endian n (v / 256) ((div_lt_pow256 n v).1 h) in
    number_snoc (big_endian n (v / 256)) (v % 256) ∙ ap (λ (x : ℕ). x * 256 + v % 256) e ∙ div-add-mod' v 256

-- the first n of n + m bytes are those of the number without its last m bytes
pub big_endian_div : (n m v : ℕ) → big_endian (n + m) v ≡ big_endian n (v / 256 ^ m) ++ big_endian m v
unfolding big_endian
big_endian_div n zero v = rw (add-zero, div-one, append-nil)
big_endian_div n (suc m) v =
    let e : v / 256 ^ suc m ≡ v / 256 / 256 ^ m = ap (λ (x : ℕ). v / x) (pow-succ' 256 m) ∙ sym (div-div-eq-div-mul v 256 (256 ^ m)) in
    rw (add-suc, e, big_endian_div n m (v / 256)) (append_assoc (big_endian n (v / 256 / 256 ^ m)) (big_endian m (v / 256)) (v % 256 ∷ []))

-- n bytes tell nothing of what is above them
pub big_endian_high : (n q v : ℕ) → big_endian n (q * 256 ^ n + v) ≡ big_endian n v
unfolding big_endian
big_endian_high zero q v = refl
big_endian_high (suc n) q v =
    let e : q * 256 ^ suc n + v ≡ (q * 256 ^ n) * 256 + v = ap (λ (x : ℕ). x + v) (ap (λ (x : ℕ). q * x) (pow-suc 256 n) ∙ sym (mul_assoc q (256 ^ n) 256)) in
    let d : ((q * 256 ^ n) * 256 + v) / 256 ≡ q * 256 ^ n + v / 256 = mul-add-div_right (omega arith) (q * 256 ^ n) v in
    let m : ((q * 256 ^ n) * 256 + v) % 256 ≡ v % 256 = mul-add-mod_self_right (q * 256 ^ n) 256 v in
    rw (e, d, m, big_endian_high n q (v / 256))

-- 0 in n bytes
pub big_endian_zero : (n : ℕ) → big_endian n 0 ≡ replicate n 0
unfolding big_endian
big_endian_zero zero = refl
big_endian_zero (suc n) = rw (big_endian_zero n) (replicate-append-replicate n 1 0 ∙ ap (λ (k : ℕ). replicate k 0) (add-one n))

-- more bytes than a number needs begin with zeros
pub big_endian_pad : (n m v : ℕ) → v < 256 ^ m → big_endian (n + m) v ≡ replicate n 0 ++ big_endian m v
big_endian_pad n m v h = rw (big_endian_div n m v, div-eq_of_lt h, big_endian_zero n)

-- the byte that has i bytes before it and j after it
pub get_or_big_endian : (i j v : ℕ) → get_or (big_endian (suc i + j) v) i 0 ≡ v / 256 ^ j % 256
unfolding big_endian
get_or_big_endian i j v =
    let w : ℕ = v / 256 ^ j in
    let e : big_endian (suc i) w ++ big_endian j v ≡ big_endian i (w / 256) ++ (w % 256 ∷ big_endian j v) = append_assoc (big_endian i (w / 256)) (w % 256 ∷ []) (big_endian j v) in
    ap (λ (l : List ℕ). get_or l i 0) (big_endian_div (suc i) j v ∙ e)
    ∙ get_or_at (big_endian i (w / 256)) (w % 256) (big_endian j v) 0 i (length_big_endian i (w / 256))

-- a number below 256 in one byte
pub big_endian_one : (b : ℕ) → b < 256 → big_endian 1 b ≡ b ∷ []
unfolding big_endian
big_endian_one b h = rw (mod-eq_of_lt h)

-- a byte before n bytes
pub big_endian_cons : (n b v : ℕ) → b < 256 → v < 256 ^ n → big_endian (suc n) (b * 256 ^ n + v) ≡ b ∷ big_endian n v
big_endian_cons n b v hb hv =
    let first : (b * 256 ^ n + v) / 256 ^ n ≡ b = digits_div b hv in
    rw (← one-add n, big_endian_div 1 n, first, big_endian_one b hb, big_endian_high n b v)

-- bytes come back from their number
pub big_endian_number : (bs : List ℕ) → AllBytes bs → big_endian (length bs) (number bs) ≡ bs
unfolding big_endian
big_endian_number [] h = refl
big_endian_number (b ∷ bs) h =
    let hs : AllBytes bs = λ i. h (suc i) in
    ap (big_endian (suc (length bs))) (number_cons b bs) ∙ big_endian_cons (length bs) b (number bs) (h 0) (number_lt bs hs)
    ∙ ap {B = List ℕ} (λ (r : List ℕ). b ∷ r) (big_endian_number bs hs)

-- ---- the least count of bytes

-- 0 needs none
pub least_bytes_zero : (most : ℕ) → least_bytes most 0 ≡ 0
unfolding least_bytes
least_bytes_zero zero = refl
least_bytes_zero (suc most) = refl

-- a number above 0 needs one byte more than without its last byte
pub least_bytes_suc : (most v : ℕ) → 0 < v → least_bytes (suc most) v ≡ suc (least_bytes most (v / 256))
unfolding least_bytes
least_bytes_suc most v h = rw (ne_eqb v 0 (λ e. omega arith))

-- n bytes are enough for 0
least_zero : (most v n : ℕ) → v ≡ 0 → (least_bytes most v ≤ n) ↔ (v < 256 ^ n)
least_zero most v n z =
    let e : least_bytes most v ≡ 0 = ap (least_bytes most) z ∙ least_bytes_zero most in
    let p : 0 < 256 ^ n = pow256_pos n in
    ((λ l. omega arith), (λ l. omega arith))

-- n bytes are enough for a number above 0
least_pos : (most v n : ℕ) → 0 < v → ((k : ℕ) → (least_bytes most (v / 256) ≤ k) ↔ (v / 256 < 256 ^ k)) → (least_bytes (suc most) v ≤ n) ↔ (v < 256 ^ n)
least_pos most v zero p ih =
    let e : least_bytes (suc most) v ≡ suc (least_bytes most (v / 256)) = least_bytes_suc most v p in
    let o : 256 ^ 0 ≡ 1 = pow-zero 256 in
    ((λ l. omega arith), (λ l. omega arith))
least_pos most v (suc n) p ih =
    let e : least_bytes (suc most) v ≡ suc (least_bytes most (v / 256)) = least_bytes_suc most v p in
    ((λ l. (div_lt_pow256 n v).0 ((ih n).0 (omega arith))), (λ l. omega (arith, (ih n).1 ((div_lt_pow256 n v).1 l))))

-- n bytes are enough exactly if the number is below 256 ^ n
pub least_bytes_iff : (most v n : ℕ) → v < 256 ^ most → (least_bytes most v ≤ n) ↔ (v < 256 ^ n)
least_bytes_iff zero v n h = least_zero zero v n (let e : 256 ^ 0 ≡ 1 = pow-zero 256 in omega arith)
least_bytes_iff (suc most) v n h =
    let ih : (k : ℕ) → (least_bytes most (v / 256) ≤ k) ↔ (v / 256 < 256 ^ k) = λ k. least_bytes_iff most (v / 256) k ((div_lt_pow256 most v).1 h) in
    ⊎_elim (λ z. least_zero (suc most) v n z) (λ p. least_pos most v n p ih) (eq-zero-or-pos v)

-- the least count of bytes is enough
pub least_bytes_fits : (most v : ℕ) → v < 256 ^ most → v < 256 ^ least_bytes most v
least_bytes_fits most v h = (least_bytes_iff most v (least_bytes most v) h).0 (omega arith)

-- it is at most `most`
pub least_bytes_le : (most v : ℕ) → v < 256 ^ most → least_bytes most v ≤ most
least_bytes_le most v h = (least_bytes_iff most v most h).1 h

-- it doesn't depend on the most that is allowed
pub least_bytes_most : (most more v : ℕ) → v < 256 ^ most → v < 256 ^ more → least_bytes most v ≡ least_bytes more v
least_bytes_most most more v h k =
    le_antisymm
    ((least_bytes_iff most v (least_bytes more v) h).1 (least_bytes_fits more v k))
    ((least_bytes_iff more v (least_bytes most v) k).1 (least_bytes_fits most v h))

-- a number whose first byte isn't 0 needs all of its bytes
pub least_bytes_cons : (most b : ℕ) (bs : List ℕ) → AllBytes (b ∷ bs) → suc (length bs) ≤ most → b ≢ 0 → least_bytes most (number (b ∷ bs)) ≡ suc (length bs)
least_bytes_cons most b bs h l n =
    let v : ℕ = number (b ∷ bs) in
    let fits : v < 256 ^ suc (length bs) = number_lt (b ∷ bs) h in
    let iff : (k : ℕ) → (least_bytes most v ≤ k) ↔ (v < 256 ^ k) = λ k. least_bytes_iff most v k (lt_of_lt_of_le fits (pow256_mono l)) in
    let above : 256 ^ length bs ≤ b * 256 ^ length bs = rw mul_comm at (le-mul_of_pos_right (256 ^ length bs) (pos_of_ne-zero n)) in
    let e : v ≡ b * 256 ^ length bs + number bs = number_cons b bs in
    le_antisymm ((iff (suc (length bs))).1 fits) (lt_of_not-le (λ k. not-le_of_lt ((iff (length bs)).0 k) (omega arith)))

-- ---- leading zeros

-- a 0 in front doesn't count
pub number_zero : (b : ℕ) (bs : List ℕ) → b ≡ 0 → number (b ∷ bs) ≡ number bs
number_zero b bs e = number_cons b bs ∙ ap (λ (x : ℕ). x * 256 ^ length bs + number bs) e ∙ omega arith

-- k leading zeros don't count
pub number_drop : (k : ℕ) (bs : List ℕ) → ((i : ℕ) → i < k → get_or bs i 0 ≡ 0) → number (drop k bs) ≡ number bs
number_drop zero bs z = refl
number_drop (suc k) [] z = refl
number_drop (suc k) (b ∷ bs) z = number_drop k bs (λ i l. z (suc i) (omega arith)) ∙ sym (number_zero b bs (z 0 (omega arith)))

-- a list of bytes without its first k
pub bytes_drop : (k : ℕ) (bs : List ℕ) → AllBytes bs → AllBytes (drop k bs)
bytes_drop k bs h i = rw get_or-drop (h (k + i))

-- a number in the bytes after the leading zeros
pub big_endian_leading : (k : ℕ) (bs : List ℕ) → AllBytes bs → ((i : ℕ) → i < k → get_or bs i 0 ≡ 0) → big_endian (length bs - k) (number bs) ≡ drop k bs
big_endian_leading k bs h z = ap₂ big_endian (sym (length-drop k bs)) (sym (number_drop k bs z)) ∙ big_endian_number (drop k bs) (bytes_drop k bs h)

-- the bytes after all leading zeros are the least count
pub least_bytes_leading : (most k : ℕ) (bs : List ℕ) → AllBytes bs → length bs ≤ most → ((i : ℕ) → i < k → get_or bs i 0 ≡ 0) → (k ≡ length bs) ⊎ (get_or bs k 0 ≢ 0)
    → least_bytes most (number bs) ≡ length bs - k
least_bytes_leading most zero [] h l z o = ap (least_bytes most) number_nil ∙ least_bytes_zero most
least_bytes_leading most zero (b ∷ bs) h l z o =
    ⊎_elim (λ e. omega arith) (λ n. least_bytes_cons most b bs h l n ∙ sym (sub-zero (suc (length bs)))) o
least_bytes_leading most (suc k) [] h l z o = ⊎_elim (λ e. omega arith) (λ n. absurd (n refl)) o
least_bytes_leading most (suc k) (b ∷ bs) h l z o =
    let o' : (k ≡ length bs) ⊎ (get_or bs k 0 ≢ 0) = ⊎_elim (λ e. inl (omega arith)) (λ n. inr n) o in
    ap (least_bytes most) (number_zero b bs (z 0 (omega arith)))
    ∙ least_bytes_leading most k bs (λ i. h (suc i)) (omega arith) (λ i m. z (suc i) (omega arith)) o'
    ∙ sym (suc-sub-suc (length bs) k)
