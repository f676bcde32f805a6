-- Laws of `over`: a list with others written over it from an index on. Assumes nothing.
use Prim.Native.Nat.{ℕ, suc, ◌+◌, ◌≤◌, ◌<◌}
use native.Mathlib.Omega.{arith}
use native.Mathlib.Nat.{add-zero, zero-add, suc-add, add-sub_of_le}
use native.Mathlib.Numerals.{add-one}
use mathlib.Core.Path.{◌≡◌, sym, ap, ap₂, ◌∙◌, subst}
use mathlib.Core.List.{List, [], ◌∷◌, ◌++◌, append_assoc, append-nil}
use lib.ListN.{length, get_or, take, drop, set, length-append, length-drop, length-set, take-append-drop, get_or-append}
use lib.Seq.{paste, take-length, drop-length, slice, length-take-le, take_at, drop_at, drop-drop, drop-append-le, get_or-append-add, set_split, set-append_left, take-set-le}
use borrow.Author.Tests.{le-leb, lt-leb}
use Rattle.slices.specs.Over.{over, over_if_room}

module _ (old : List ℕ) (i : ℕ) (new : List ℕ) (fits : i ≤ length old) where
  -- up to the end of the new part
  front_length : length (take i old ++ new) ≡ i + length new
  front_length = length-append (take i old) new ∙ ap (λ (k : ℕ). k + length new) (length-take-le i old fits)

  -- which the old part follows
  over_split : over old i new ≡ (take i old ++ new) ++ drop (i + length new) old
  over_split = sym (append_assoc (take i old) new (drop (i + length new) old))

  -- before the index nothing changes
  pub take_over : take i (over old i new) ≡ take i old
  take_over = take_at (take i old) (new ++ drop (i + length new) old) i (length-take-le i old fits)

  -- nor after the new part
  pub drop_over : drop (i + length new) (over old i new) ≡ drop (i + length new) old
  drop_over = rw over_split (drop_at (take i old ++ new) (drop (i + length new) old) (i + length new) front_length)

  -- nor the length, if the new part fits
  pub length_over : i + length new ≤ length old → length (over old i new) ≡ length old
  length_over h =
      ap length over_split
      ∙ length-append (take i old ++ new) (drop (i + length new) old)
      ∙ ap (λ (k : ℕ). k + length (drop (i + length new) old)) front_length
      ∙ ap (λ (k : ℕ). i + length new + k) (length-drop (i + length new) old)
      ∙ add-sub_of_le h

  -- the new part stands at the index
  pub get_d_over : (j d : ℕ) → j < length new → get_or (over old i new) (i + j) d ≡ get_or new j d
  get_d_over j d l =
      subst (λ (k : ℕ). get_or (over old i new) (k + j) d ≡ get_or new j d) (length-take-le i old fits)
      (get_or-append-add (take i old) (new ++ drop (i + length new) old) j d ∙ get_or-append new (drop (i + length new) old) d j l)

  -- a part that ends with the new one
  pub slice_over : (f : ℕ) → f ≤ i → slice f (i + length new) (over old i new) ≡ slice f i old ++ new
  slice_over f h =
      ap (drop f) (ap (take (i + length new)) over_split ∙ take_at (take i old ++ new) (drop (i + length new) old) (i + length new) front_length)
      ∙ drop-append-le f (take i old) new (subst (λ (k : ℕ). f ≤ k) (sym (length-take-le i old fits)) h)

-- a whole copy is the new bytes written over the old from `at` on
pub paste_over : (d : List ℕ) (at : ℕ) (s : List ℕ) → paste d at s (length s) ≡ over d at s
paste_over d at s = ap (λ (r : List ℕ). take at d ++ r ++ drop (at + length s) d) (take-length s) ∙ append_assoc (take at d) s (drop (at + length s) d)

-- where there is room, and where there is none
pub has_room : (old : List ℕ) (i : ℕ) (new : List ℕ) → i + length new ≤ length old → over_if_room old i new ≡ over old i new
unfolding over_if_room
has_room old i new h = rw (le-leb (i + length new) (length old) h)

pub no_room : (old : List ℕ) (i : ℕ) (new : List ℕ) → length old < i + length new → over_if_room old i new ≡ old
unfolding over_if_room
no_room old i new h = rw (lt-leb (i + length new) (length old) h)

-- ---- one part after another

-- nothing written
pub over_nothing : (old : List ℕ) (i : ℕ) → over old i [] ≡ old
over_nothing old i = ap (λ (k : ℕ). take i old ++ drop k old) (add-zero i) ∙ take-append-drop i old

-- as much as there is: the whole of it
pub over_whole : (old new : List ℕ) → length new ≡ length old → over old 0 new ≡ new
over_whole old new e =
    let all : 0 + length new ≡ length old = omega (arith, e) in
    ap (λ (k : ℕ). new ++ drop k old) all
    ∙ ap (λ (r : List ℕ). new ++ r) (drop-length old)
    ∙ append-nil new

-- a part after a part is both at once
pub over_next : (old : List ℕ) (i : ℕ) (xs ys : List ℕ) → i + length xs ≤ length old → over (over old i xs) (i + length xs) ys ≡ over old i (xs ++ ys)
over_next old i xs ys h =
    let l : length (take i old ++ xs) ≡ i + length xs = length-append (take i old) xs ∙ ap (λ (k : ℕ). k + length xs) (length-take-le i old (omega arith)) in
    let split : over old i xs ≡ (take i old ++ xs) ++ drop (i + length xs) old = sym (append_assoc (take i old) xs (drop (i + length xs) old)) in
    let front : take (i + length xs) (over old i xs) ≡ take i old ++ xs = ap (take (i + length xs)) split ∙ take_at (take i old ++ xs) (drop (i + length xs) old) (i + length xs) l in
    let back : drop (i + length xs + length ys) (over old i xs) ≡ drop (i + length xs + length ys) old =
    sym (drop-drop (length ys) (i + length xs) (over old i xs)) ∙ ap (drop (length ys)) (drop_over old i xs (omega arith)) ∙ drop-drop (length ys) (i + length xs) old in
    let same : i + length xs + length ys ≡ i + length (xs ++ ys) = omega (arith, length-append xs ys) in
    ap₂ (λ (a b : List ℕ). a ++ (ys ++ b)) front back
    ∙ append_assoc (take i old) xs (ys ++ drop (i + length xs + length ys) old)
    ∙ ap (λ (r : List ℕ). take i old ++ r) (sym (append_assoc xs ys (drop (i + length xs + length ys) old)))
    ∙ ap (λ (k : ℕ). take i old ++ ((xs ++ ys) ++ drop k old)) same

-- a byte set after the place of a part is the part with that byte
pub over_set : (old : List ℕ) (i n b : ℕ) (xs : List ℕ) → length xs ≡ n → i + n < length old → over (set old (i + n) b) i xs ≡ over old i (xs ++ (b ∷ []))
over_set old i n b xs e h =
    let front : take i (set old (i + n) b) ≡ take i old = take-set-le i old (i + n) b (omega arith) in
    let back : drop (i + n) (set old (i + n) b) ≡ b ∷ drop (suc (i + n)) old =
    ap (drop (i + n)) (set_split old (i + n) b h) ∙ drop_at (take (i + n) old) (b ∷ drop (suc (i + n)) old) (i + n) (length-take-le (i + n) old (omega arith)) in
    let same : suc (i + n) ≡ i + length (xs ++ (b ∷ [])) = omega (arith, length-append xs (b ∷ [])) in
    ap₂ (λ (a c : List ℕ). a ++ (xs ++ c)) front (ap (λ (k : ℕ). drop (i + k) (set old (i + n) b)) e ∙ back)
    ∙ ap (λ (r : List ℕ). take i old ++ r) (sym (append_assoc xs (b ∷ []) (drop (suc (i + n)) old)))
    ∙ ap (λ (k : ℕ). take i old ++ ((xs ++ (b ∷ [])) ++ drop k old)) same

-- one byte set is one byte written
pub over_one : (old : List ℕ) (i b : ℕ) → i < length old → set old i b ≡ over old i (b ∷ [])
over_one old i b h = set_split old i b h ∙ ap (λ (k : ℕ). take i old ++ (b ∷ drop k old)) (sym (add-one i))

-- ---- one element of a part replaced

-- an element behind the first list
set_behind : (xs ys : List ℕ) (j a : ℕ) → set (xs ++ ys) (length xs + j) a ≡ xs ++ set ys j a
set_behind [] ys j a = rw (zero-add j)
set_behind (x ∷ xs) ys j a = rw (suc-add (length xs) j) (ap (λ (r : List ℕ). x ∷ r) (set_behind xs ys j a))

pub set_over : (old : List ℕ) (i : ℕ) (new : List ℕ) (j a : ℕ) → i ≤ length old → j < length new → set (over old i new) (i + j) a ≡ over old i (set new j a)
set_over old i new j a h l =
    subst (λ (k : ℕ). set (over old i new) (k + j) a ≡ take i old ++ set (new ++ drop (i + length new) old) j a) (length-take-le i old h) (set_behind (take i old) (new ++ drop (i + length new) old) j a)
    ∙ ap (λ (r : List ℕ). take i old ++ r) (set-append_left new (drop (i + length new) old) j a l)
    ∙ ap (λ (k : ℕ). take i old ++ (set new j a ++ drop (i + k) old)) (sym (length-set new j a))
