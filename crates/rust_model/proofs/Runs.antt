-- What a run that comes to a value tells of its steps. Assumes nothing.
use Prim.Native.Nat.{ℕ}
use mathlib.Core.Path.{◌≡◌, refl, ap}
use mathlib.Core.Bool.{Bool, true, false, cond, false≢true}
use mathlib.Core.List.{List, [], ◌∷◌, ◌++◌}
use lib.Dec.{leb}
use lib.ListN.{length}
use Rattle.rust_model.specs.Run.{Run, done, panic, and_then, len_idx, pushed}

-- whether a run comes to a value
abbrev comes : {A : Type 0} → Run A → Bool
comes (done x) = true
comes panic = false

-- a panic is no value
pub panic_done : {A B : Type 0} {x : A} → panic ≡ done x → B
panic_done e = absurd (false≢true (ap comes e))

-- two values that a run comes to are the same
pub done_inj : {A : Type 0} {x y : A} → done x ≡ done y → x ≡ y
done_inj e = cc

-- a value after two steps: the first came to one, and the second from there
pub and_then_done : {A B : Type 0} (r : Run A) (next : A → Run B) (y : B) → and_then r next ≡ done y → (x : A) × (r ≡ done x) × (next x ≡ done y)
and_then_done (done x) next y e = (x, refl, e)
and_then_done panic next y e = panic_done e

-- no step after the last
pub and_then_last : {A : Type 0} (r : Run A) → and_then r done ≡ r
and_then_last (done x) = refl
and_then_last panic = refl

-- next steps that are the same from every value
pub and_then_same : {A B : Type 0} (r : Run A) (f g : A → Run B) → ((x : A) → f x ≡ g x) → and_then r f ≡ and_then r g
and_then_same (done x) f g h = h x
and_then_same panic f g h = refl

-- a value after a test that panics where it fails
pub cond_done : {A : Type 0} (b : Bool) (r : Run A) (y : A) → cond b r panic ≡ done y → (b ≡ true) × (r ≡ done y)
cond_done true r y e = (refl, e)
cond_done false r y e = panic_done e

-- after one that panics where it holds
pub cond_not_done : {A : Type 0} (b : Bool) (r : Run A) (y : A) → cond b panic r ≡ done y → (b ≡ false) × (r ≡ done y)
cond_not_done true r y e = panic_done e
cond_not_done false r y e = (refl, e)

-- a length as an index is that length
pub len_idx_done : (xs : List ℕ) (n : ℕ) → len_idx xs ≡ done n → length xs ≡ n
unfolding len_idx
len_idx_done xs n e = done_inj (cond_done (leb (length xs) 4294967294) (done (length xs)) n e).1

-- a list with one more element
pub pushed_done : (xs : List ℕ) (x : ℕ) (ys : List ℕ) → pushed xs x ≡ done ys → xs ++ (x ∷ []) ≡ ys
unfolding pushed
pushed_done xs x ys e = done_inj (and_then_done (len_idx xs) (λ i. done (xs ++ (x ∷ []))) ys e).2
