-- When three words can't be read: what the code's test says of each kind. Assumes nothing.
use Prim.Native.Nat.{ℕ, zero, suc, ◌-◌, ◌≤◌, ◌<◌}
use native.Mathlib.Omega.{arith}
use mathlib.Core.Path.{◌≡◌, refl, sym, ap, ◌∙◌}
use mathlib.Core.Bool.{Bool, true, false, cond, ◌&&◌, ◌||◌, true≢false}
use lib.Dec.{ltb, eqb}
use borrow.Author.Tests.{eqb-true, eqb-false, ltb-true, ltb-false, ne_eqb, lt-ltb, le-ltb}
use Rattle.units.specs.declared.Span.{Span}
use Rattle.units.specs.declared.AsmBytesIdx.{AsmBytesIdx}
use Rattle.records.specs.Record.{max_mark, read_mark, read_span, read_direct, read_delta, read_section}
use Rattle.records.specs.Damage.{unreadable, is_span}
use Rattle.records.specs.declared.record.AsmSection.{AsmSection}
use Rattle.records.specs.declared.record.AsmSection.TheVariants.{Ops, Data}
use Rattle.records.specs.declared.record.StoredSection.{StoredSection}
use Rattle.records.proofs.Reading.{mark_large, mark_read, mark_field, span_read, span_bad, direct_large, direct_raw, direct_pushed, direct_between, direct_above, delta_start_lem, delta_end_lem, delta_read, section_mark, section_ops, section_data, section_direct, section_pushed_delta, section_raw_delta, section_unlisted}

-- the greatest second word of a section without bytes, by its kind word
abbrev greatest_second : ℕ → ℕ
greatest_second k = cond (eqb k 0) 0 (cond (eqb k 3) 12 max_mark)

-- a number that is none of the first four
above : (k : ℕ) → (k ≡ 0 → ⊥) → (k ≡ 1 → ⊥) → (k ≡ 2 → ⊥) → (k ≡ 3 → ⊥) → 4 ≤ k
above zero a b c d = absurd (a refl)
above (suc zero) a b c d = absurd (b refl)
above (suc (suc zero)) a b c d = absurd (c refl)
above (suc (suc (suc zero))) a b c d = absurd (d refl)
above (suc (suc (suc (suc k)))) a b c d = omega arith

module _ (a b : ℕ) where
  bad_mark : (ltb max_mark a || ltb 0 b) ≡ unreadable (read_mark a b)
  bad_mark = go (ltb max_mark a) (ltb 0 b) refl refl
    where
      go : (p q : Bool) → ltb max_mark a ≡ p → ltb 0 b ≡ q → (p || q) ≡ unreadable (read_mark a b)
      go true q e d = ap unreadable (mark_large a b (ltb-true max_mark a e))
      go false true e d = let l : 0 < b = ltb-true 0 b d in ap unreadable (mark_field a b (ltb-false max_mark a e) (λ h. omega arith))
      go false false e d = let l : b ≤ 0 = ltb-false 0 b d in ap unreadable (mark_read a b (ltb-false max_mark a e) (omega arith))

  bad_direct : (ltb max_mark a || ltb 12 b || ltb 4 b && ltb b 8) ≡ unreadable (read_direct a b)
  bad_direct = go (ltb max_mark a) (ltb 12 b) (ltb 4 b) (ltb b 8) refl refl refl refl
    where
      go : (p q s t : Bool) → ltb max_mark a ≡ p → ltb 12 b ≡ q → ltb 4 b ≡ s → ltb b 8 ≡ t → (p || q || s && t) ≡ unreadable (read_direct a b)
      go true q s t e d f g = ap unreadable (direct_large a b (ltb-true max_mark a e))
      go false true s t e d f g = ap unreadable (direct_above a b (ltb-false max_mark a e) (ltb-true 12 b d))
      go false false true true e d f g = ap unreadable (direct_between a b (ltb-false max_mark a e) (ltb-true 4 b f) (ltb-true b 8 g))
      go false false true false e d f g =
          let l : b ≤ 12 = ltb-false 12 b d in
          ap unreadable (direct_pushed a b _ (ltb-false max_mark a e) (ltb-false b 8 g) (omega arith) refl)
      go false false false t e d f g =
          let l : b ≤ 4 = ltb-false 4 b f in
          ap unreadable (direct_raw a b _ (ltb-false max_mark a e) (omega arith) refl)

  -- whatever the size of a delta, pushed or not
  bad_delta : (s : ℕ) (p : Bool) → (ltb max_mark a || ltb max_mark b) ≡ unreadable (read_delta s p a b)
  bad_delta s p = go (ltb max_mark a) (ltb max_mark b) refl refl
    where
      go : (x y : Bool) → ltb max_mark a ≡ x → ltb max_mark b ≡ y → (x || y) ≡ unreadable (read_delta s p a b)
      go true y e d = ap unreadable (delta_start_lem a b s p (ltb-true max_mark a e))
      go false true e d = ap unreadable (delta_end_lem a b s p (ltb-false max_mark a e) (ltb-true max_mark b d))
      go false false e d = ap unreadable (delta_read a b _ s p (ltb-false max_mark a e) (ltb-false max_mark b d) refl)

  bad_span : (f : Span AsmBytesIdx → AsmSection) → ltb b a ≡ unreadable (read_span f a b)
  bad_span f = go (ltb b a) refl
    where
      go : (q : Bool) → ltb b a ≡ q → q ≡ unreadable (read_span f a b)
      go true e = ap unreadable (span_bad a b f (ltb-true b a e))
      go false e = ap unreadable (span_read a b f (ltb-false b a e))

-- the code's test of a section without bytes: the number, the second word's limit, the kind, and the forms that a direct reference lacks
abbrev unread_words : ℕ → ℕ → ℕ → ℕ → Bool
unread_words limit k a b = ((ltb max_mark a || ltb limit b) || ltb 13 k) || ((eqb k 3 && ltb 4 b) && ltb b 8)

-- the limit of the second word
module _ (k : ℕ) where
  pub limit_mark : k ≡ 0 → 0 ≡ greatest_second k
  limit_mark e = sym (ap greatest_second e)

  pub limit_direct : k ≡ 3 → 12 ≡ greatest_second k
  limit_direct e = sym (ap greatest_second e)

  pub limit_other : (k ≡ 0 → ⊥) → (k ≡ 3 → ⊥) → max_mark ≡ greatest_second k
  limit_other z d =
      let m : eqb k 0 ≡ false = ne_eqb k 0 z in
      let t : eqb k 3 ≡ false = ne_eqb k 3 d in
      rw (m, t)

-- what is added for another kind is nothing
nothing_added : (x y : Bool) → ((x || y) || false) || false ≡ (x || y)
nothing_added true y = refl
nothing_added false true = refl
nothing_added false false = refl

regroup : (x y z : Bool) → ((x || y) || false) || z ≡ (x || y || z)
regroup true y z = refl
regroup false true z = refl
regroup false false z = refl

-- a kind that isn't listed is enough
kind_enough : (x y : Bool) → (x || true) || y ≡ true
kind_enough true y = refl
kind_enough false y = refl

-- a section by its kind
module _ (r : StoredSection) where
  pub unread_span : is_span r.kind ≡ true → ltb r.second r.first ≡ unreadable (read_section r)
  unread_span s = go (eqb r.kind 1) refl s
    where
      go : (q : Bool) → eqb r.kind 1 ≡ q → (q || eqb r.kind 2) ≡ true → ltb r.second r.first ≡ unreadable (read_section r)
      go true e t = bad_span r.first r.second Ops ∙ ap unreadable (section_ops r _ (eqb-true r.kind 1 e) refl)
      go false e t = bad_span r.first r.second Data ∙ ap unreadable (section_data r _ (eqb-true r.kind 2 t) refl)

  -- the test with its limit
  abbrev tested : Bool
  tested = unread_words (greatest_second r.kind) r.kind r.first r.second

  unread_mark : r.kind ≡ 0 → tested ≡ unreadable (read_section r)
  unread_mark k =
      ap (λ (n : ℕ). unread_words (greatest_second n) n r.first r.second) k
      ∙ nothing_added (ltb max_mark r.first) (ltb 0 r.second)
      ∙ bad_mark r.first r.second
      ∙ ap unreadable (section_mark r _ k refl)

  unread_direct : r.kind ≡ 3 → tested ≡ unreadable (read_section r)
  unread_direct k =
      ap (λ (n : ℕ). unread_words (greatest_second n) n r.first r.second) k
      ∙ regroup (ltb max_mark r.first) (ltb 12 r.second) (ltb 4 r.second && ltb r.second 8)
      ∙ bad_direct r.first r.second
      ∙ ap unreadable (section_direct r _ k refl)

  unread_delta : 4 ≤ r.kind → r.kind ≤ 13 → tested ≡ unreadable (read_section r)
  unread_delta four l =
      let z : eqb r.kind 0 ≡ false = ne_eqb r.kind 0 (λ h. omega arith) in
      let t : eqb r.kind 3 ≡ false = ne_eqb r.kind 3 (λ h. omega arith) in
      let m : ltb 13 r.kind ≡ false = le-ltb 13 r.kind l in
      rw (z, t, m) (nothing_added (ltb max_mark r.first) (ltb max_mark r.second)) ∙ go (ltb r.kind 9) refl
    where
      go : (q : Bool) → ltb r.kind 9 ≡ q → (ltb max_mark r.first || ltb max_mark r.second) ≡ unreadable (read_section r)
      go true h = bad_delta r.first r.second (r.kind - 4) true ∙ ap unreadable (section_pushed_delta r _ four (ltb-true r.kind 9 h) refl)
      go false h = bad_delta r.first r.second (r.kind - 9) false ∙ ap unreadable (section_raw_delta r _ (ltb-false r.kind 9 h) (omega arith) refl)

  unread_unlisted : 13 < r.kind → tested ≡ unreadable (read_section r)
  unread_unlisted l =
      let m : ltb 13 r.kind ≡ true = lt-ltb 13 r.kind l in
      rw m (kind_enough (ltb max_mark r.first || ltb (greatest_second r.kind) r.second) ((eqb r.kind 3 && ltb 4 r.second) && ltb r.second 8)) ∙ ap unreadable (section_unlisted r l)

  pub unread_other : (limit : ℕ) → limit ≡ greatest_second r.kind → is_span r.kind ≡ false → unread_words limit r.kind r.first r.second ≡ unreadable (read_section r)
  unread_other limit is s = ap (λ (n : ℕ). unread_words n r.kind r.first r.second) is ∙ go (eqb r.kind 0) (eqb r.kind 3) (ltb 13 r.kind) refl refl refl
    where
      not_span : (n : ℕ) → is_span n ≡ true → r.kind ≡ n → ⊥
      not_span n t h = true≢false (sym (ap is_span h ∙ t) ∙ s)

      go : (z d u : Bool) → eqb r.kind 0 ≡ z → eqb r.kind 3 ≡ d → ltb 13 r.kind ≡ u → tested ≡ unreadable (read_section r)
      go true d u e f g = unread_mark (eqb-true r.kind 0 e)
      go false true u e f g = unread_direct (eqb-true r.kind 3 f)
      go false false true e f g = unread_unlisted (ltb-true 13 r.kind g)
      go false false false e f g =
          unread_delta (above r.kind (eqb-false r.kind 0 e) (not_span 1 refl) (not_span 2 refl) (eqb-false r.kind 3 f)) (ltb-false 13 r.kind g)
