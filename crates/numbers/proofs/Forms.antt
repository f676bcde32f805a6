-- Laws of forms. Assumes nothing.
use Rattle.std.specs.Prelude.{Option, None}
use Prim.Native.Nat.{ℕ, zero, suc, ◌+◌, ◌-◌, ◌%◌, ◌≤◌, ◌<◌}
use native.Mathlib.Omega.{arith}
use mathlib.Core.Path.{◌≡◌, refl, sym, ap}
use mathlib.Core.Bool.{Bool, true, false, ◌&&◌, ◌||◌, true≢false}
use mathlib.Mathlib.Data.Bool.Basic.{or-eq-false-eq-eq-false-and-eq-false as or-false}
use lib.Dec.{leb, ltb}
use borrow.Author.Tests.{le-leb, lt-leb, leb-true, lt-ltb, le-ltb}
use Rattle.units.specs.declared.RefSize.{RefSize}
use Rattle.units.specs.declared.MarkReference.{MarkReference}
use Rattle.units.specs.Reference.{least_size, size_for, too_narrow, size}
use Rattle.units.specs.Form.{size_number, pushed_number}
use Rattle.records.specs.Record.{set_size_of, direct_kind, delta_kind, reference_words, stored_section}
use Rattle.records.specs.Store.{Store}
use Rattle.numbers.specs.Numbers.{names_nothing}
use Rattle.numbers.specs.Forms.{named, form_of, direct, delta, formed, reference_number, reference_after, is_form, form_kind}

module _ (n : ℕ) where
  pub form_raw : (s : Option RefSize) → n < 5 → s ≡ set_size_of n → named s false ≡ form_of n
  unfolding form_of
  form_raw s l e = rw (e, le-leb n 4 (omega arith))

  pub form_pushed : (s : Option RefSize) → 8 ≤ n → n < 13 → s ≡ set_size_of (n - 8) → named s true ≡ form_of n
  unfolding form_of
  form_pushed s l h e = rw (e, lt-leb n 4 (omega arith), le-leb 8 n l, le-leb n 12 (omega arith))

  pub form_between : 5 ≤ n → n < 8 → None ≡ form_of n
  unfolding form_of
  form_between l h = rw (lt-leb n 4 (omega arith), lt-leb 8 n h)

  pub form_above : 13 ≤ n → None ≡ form_of n
  unfolding form_of
  form_above l = rw (lt-leb n 4 (omega arith), le-leb 8 n (omega arith), lt-leb n 12 (omega arith))

-- sizes are a matter of the form alone
pub size_any_mark : (m : MarkReference) (s : Option RefSize) (p : Bool) (v : ℕ)
    → (size_for (formed m s p) v ≡ size_for (formed (direct 0) s p) v) × (least_size (formed m s p) ≡ least_size (formed (direct 0) s p))
unfolding size_for too_narrow size least_size
size_any_mark m s p v = (refl, refl)

-- ---- a number as a form, and the words of a reference in it

-- a number that stands for a set size
number_back : (n : ℕ) → n ≤ 4 → size_number (set_size_of n) ≡ n
unfolding set_size_of
number_back zero h = refl
number_back (suc zero) h = refl
number_back (suc (suc zero)) h = refl
number_back (suc (suc (suc zero))) h = refl
number_back (suc (suc (suc (suc zero)))) h = refl
number_back (suc (suc (suc (suc (suc n))))) h = absurd (omega arith)

-- the set size, whether pushed, and the kind of a delta, in a form
pub record Named (n : ℕ) : Type 0 where
  pub form : form_of n ≡ named (set_size_of (n % 8)) (leb 8 n)
  pub number : size_number (set_size_of (n % 8)) + pushed_number (leb 8 n) ≡ n
  pub kind : form_kind n ≡ size_number (set_size_of (n % 8)) + delta_kind (leb 8 n)

module _ (n : ℕ) where
  -- a number that names nothing
  pub form_nothing : is_form n ≡ false → form_of n ≡ None
  unfolding form_of
  form_nothing e =
      let both = (or-false (leb n 4) (leb 8 n && leb n 12)).0 e in
      rw (both.0, both.1)

  -- is answered so, and leaves the words as they are
  pub unnamed : is_form n ≡ false → (w : ℕ) (m : MarkReference) (st : Store)
      → (names_nothing ≡ reference_number w m (form_of n) st) × (st.words ≡ reference_after w m (form_of n) st)
  unnamed e w m st = rw (form_nothing e) (refl, refl)

  -- one that names something
  pub form_named : is_form n ≡ true → Named n
  unfolding form_of
  form_named e = go (leb n 4) refl (leb 8 n) refl (leb n 12) refl e
    where
      go : (s : Bool) → leb n 4 ≡ s → (t : Bool) → leb 8 n ≡ t → (u : Bool) → leb n 12 ≡ u → (s || t && u) ≡ true → Named n
      go true p t q u r h =
          let small : n ≤ 4 = leb-true n 4 p in
          let raw : leb 8 n ≡ false = lt-leb 8 n (omega arith) in
          let same : n % 8 ≡ n = omega arith in
          let back : size_number (set_size_of n) ≡ n = number_back n small in
          let few : ltb n 8 ≡ true = lt-ltb n 8 (omega arith) in
          record { form = rw (p, raw, same); number = rw (raw, same, back) (omega arith); kind = rw (raw, same, few, back) }
      go false p true q true r h =
          let low : 8 ≤ n = leb-true 8 n q in
          let high : n ≤ 12 = leb-true n 12 r in
          let less : n % 8 ≡ n - 8 = omega arith in
          let back : size_number (set_size_of (n - 8)) ≡ n - 8 = number_back (n - 8) (omega arith) in
          let many : ltb n 8 ≡ false = le-ltb n 8 low in
          record { form = rw (p, q, r, less); number = rw (q, less, back) (omega arith); kind = rw (q, less, many, back) }
      go false p true q false r h = absurd (true≢false (sym h))
      go false p false q u r h = absurd (true≢false (sym h))

  pub direct_formed : is_form n ≡ true → (m : ℕ)
      → stored_section direct_kind m n ≡ reference_words (formed (direct m) (set_size_of (n % 8)) (leb 8 n))
  unfolding reference_words
  direct_formed e m = ap (stored_section direct_kind m) (sym (form_named e).number)

  pub delta_formed : is_form n ≡ true → (a b : ℕ)
      → stored_section (form_kind n) a b ≡ reference_words (formed (delta a b) (set_size_of (n % 8)) (leb 8 n))
  unfolding reference_words
  delta_formed e a b = ap (λ (k : ℕ). stored_section k a b) (form_named e).kind
