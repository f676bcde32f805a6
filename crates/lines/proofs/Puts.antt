-- Laws of putting text into a slice: two texts in a row are one; a text past the slice's end; and one that there is room for. Assumes
-- nothing.
use Prim.Native.Nat.{ℕ, suc, ◌+◌, ◌≤◌, ◌<◌, ◌^◌}
use native.Mathlib.Omega.{arith}
use native.Mathlib.Nat.{add-zero, add-suc, suc-add}
use mathlib.Core.Path.{◌≡◌, refl, sym, ap, ◌∙◌}
use mathlib.Core.Bool.{Bool, true, false}
use mathlib.Core.List.{List, [], ◌∷◌, ◌++◌, append_assoc}
use lib.ListN.{length, take, drop, set, length-append}
use lib.Seq.{sets, sets-eq, length-sets, set_out}
use lib.Dec.{ltb}
use borrow.Author.Tests.{ltb-true, ltb-false}
use Rattle.slices.specs.Over.{over_if_room}
use Rattle.slices.proofs.Over.{has_room}
use Rattle.lines.specs.Put.{place_after, Put}

-- a text after another
pub sets_append : (x y t : List ℕ) (at : ℕ) → sets t at (x ++ y) ≡ sets (sets t at x) (at + length x) y
sets_append [] y t at = rw add-zero
sets_append (a ∷ x) y t at =
    sets_append x y (set t at a) (suc at)
    ∙ ap (λ (n : ℕ). sets (sets (set t at a) (suc at) x) n y) (suc-add at (length x) ∙ sym (add-suc at (length x)))

-- past the slice's end nothing is stored
sets_out : (x t : List ℕ) (at : ℕ) → length t ≤ at → sets t at x ≡ t
sets_out [] t at h = refl
sets_out (a ∷ x) t at h = ap (λ (l : List ℕ). sets l (suc at) x) (set_out t at a h) ∙ sets_out x t (suc at) (omega arith)

-- where the place stopped at the machine's last number, it lies past the slice's end as the full one does
sets_place : (y t : List ℕ) (at count : ℕ) → length t < 2 ^ 64 → sets t (place_after at count) y ≡ sets t (at + count) y
sets_place y t at count short = go (ltb (at + count) (2 ^ 64)) refl
  where
    go : (b : Bool) → ltb (at + count) (2 ^ 64) ≡ b → sets t (place_after at count) y ≡ sets t (at + count) y
    go true e = let l = ltb-true (at + count) (2 ^ 64) e in ap (λ (k : ℕ). sets t k y) (omega arith)
    go false e =
        let l = ltb-false (at + count) (2 ^ 64) e in
        sets_out y t (place_after at count) (omega arith) ∙ sym (sets_out y t (at + count) (omega arith))

-- the slice keeps its length
pub put_length : {t m : List ℕ} {at r : ℕ} {x : List ℕ} → Put t at x r m → length m ≡ length t
put_length {t} {m} {at} {r} {x} p = ap length p.text ∙ length-sets t at x

-- two texts in a row, in a slice that the machine can have
pub join : {t m u : List ℕ} {at r s : ℕ} {x y : List ℕ} → length t < 2 ^ 64 → Put t at x r m → Put m r y s u → Put t at (x ++ y) s u
join {t} {m} {u} {at} {r} {s} {x} {y} short p q = record {
  count = omega (arith, length-append x y, p.count, q.count);
  text =
      q.text
      ∙ ap (λ (k : ℕ). sets m k y) p.count
      ∙ sets_place y m at (length x) (omega (arith, put_length p))
      ∙ ap (λ (l : List ℕ). sets l (at + length x) y) p.text
      ∙ sym (sets_append x y t at);
}

-- a text past the slice's end is counted alone
pub put_past : {t : List ℕ} {at r : ℕ} (x : List ℕ) → length t ≤ at → r ≡ place_after at (length x) → Put t at x r t
put_past {t} {at} x h e = record { count = e; text = sym (sets_out x t at h) }

-- a text that is put where there is room for it is written over what stood there
pub over_sets : (t m : List ℕ) (at : ℕ) (x : List ℕ) → at + length x ≤ length t → m ≡ sets t at x → m ≡ over_if_room t at x
over_sets t m at x h put = put ∙ sets-eq x t at h ∙ append_assoc (take at t) x (drop (at + length x) t) ∙ sym (has_room t at x h)
