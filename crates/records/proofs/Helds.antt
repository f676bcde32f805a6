-- A section as the tests for number 6 read it: what the words say of it, and what the definitions ask of it. Assumes nothing.
use Rattle.std.specs.Prelude.{None, Option, Some}
use Prim.Native.Nat.{ℕ}
use mathlib.Core.Path.{◌≡◌, refl, sym, ap, ◌∙◌, subst}
use mathlib.Core.Bool.{Bool, true, false, cond, not, ◌&&◌, ◌||◌, true≢false}
use lib.Dec.{leb, ltb, eqb}
use borrow.Author.Tests.{eqb-true, eq-eqb, ne_eqb}
use Rattle.units.specs.declared.Span.{Span}
use Rattle.units.specs.declared.AsmBytesIdx.{AsmBytesIdx}
use Rattle.records.specs.Record.{max_mark, span, read_mark, read_span, read_direct, read_delta, read_section}
use Rattle.records.specs.Damage.{unreadable, is_span, broken_section, broken_last}
use Rattle.records.specs.Held.{Held, held_by, held_read, ends_elsewhere, span_misplaced, is_misplaced, end_after}
use Rattle.records.specs.declared.record.AsmSection.{AsmSection}
use Rattle.records.specs.declared.record.AsmSection.TheVariants.{Ops, Data}
use Rattle.records.specs.declared.record.StoredSection.{StoredSection}
use Rattle.slices.proofs.Tests.{or-false}
use Rattle.records.proofs.Reading.{section_ops, section_data}

-- what can be read holds this
abbrev Holds : Held → Option AsmSection → Type 0
Holds h x = unreadable x ≡ false → Some h ≡ held_read x

holds_damaged : (h : Held) → Holds h None
holds_damaged h e = absurd (true≢false e)

holds_cond : (h : Held) (t : Bool) (x y : Option AsmSection) → Holds h x → Holds h y → Holds h (cond t x y)
holds_cond h true x y p q = p
holds_cond h false x y p q = q

holds_else : (h : Held) (t : Bool) (x y : Option AsmSection) → t ≡ false → Holds h y → Holds h (cond t x y)
holds_else h true x y e q = absurd (true≢false e)
holds_else h false x y e q = q

module _ (a b : ℕ) where
  no_damage : Holds None None
  no_damage = holds_damaged None

  mark_holds : Holds None (read_mark a b)
  unfolding read_mark
  mark_holds = holds_cond None (leb a max_mark && eqb b 0) _ _ (λ e. refl) no_damage

  direct_holds : Holds None (read_direct a b)
  unfolding read_direct
  direct_holds =
      holds_cond None (ltb max_mark a) _ _ no_damage
      (holds_cond None (leb b 4) _ _ (λ e. refl) (holds_cond None (leb 8 b && leb b 12) _ _ (λ e. refl) no_damage))

  delta_holds : (s : ℕ) (p : Bool) → Holds None (read_delta s p a b)
  unfolding read_delta
  delta_holds s p = holds_cond None (leb a max_mark && leb b max_mark) _ _ (λ e. refl) no_damage

  span_holds : (f : Span AsmBytesIdx → AsmSection) → held_by (f (span a b)) ≡ Some (span a b) → Holds (Some (span a b)) (read_span f a b)
  unfolding read_span
  span_holds f e = holds_cond (Some (span a b)) (leb a b) _ _ (λ _. ap Some (sym e)) (holds_damaged (Some (span a b)))

pub held_damaged : (x : Option AsmSection) → unreadable x ≡ true → None ≡ held_read x
held_damaged (Some s) e = absurd (true≢false (sym e))
held_damaged None e = refl

-- a section by its words
module _ (r : StoredSection) where
  pub held_span : is_span r.kind ≡ true → Holds (Some (span r.first r.second)) (read_section r)
  held_span s = go (eqb r.kind 1) refl s
    where
      go : (q : Bool) → eqb r.kind 1 ≡ q → (q || eqb r.kind 2) ≡ true → Holds (Some (span r.first r.second)) (read_section r)
      go true e t = subst (λ (x : Option AsmSection). Holds (Some (span r.first r.second)) x) (section_ops r _ (eqb-true r.kind 1 e) refl) (span_holds r.first r.second Ops refl)
      go false e t = subst (λ (x : Option AsmSection). Holds (Some (span r.first r.second)) x) (section_data r _ (eqb-true r.kind 2 t) refl) (span_holds r.first r.second Data refl)

  pub held_nothing : is_span r.kind ≡ false → Holds None (read_section r)
  unfolding read_section
  held_nothing s =
      let n = or-false (eqb r.kind 1) (eqb r.kind 2) s in
      holds_cond None (eqb r.kind 0) _ _ (mark_holds r.first r.second)
      (holds_else None (eqb r.kind 1) _ _ n.0
      (holds_else None (eqb r.kind 2) _ _ n.1
      (holds_cond None (eqb r.kind 3) _ _ (direct_holds r.first r.second)
      (holds_cond None (ltb r.kind 9) _ _ (delta_holds r.first r.second _ _)
      (holds_cond None (ltb r.kind 14) _ _ (delta_holds r.first r.second _ _) (holds_damaged None))))))

-- the fields of a reading
abbrev is_damaged : Option Held → Bool
is_damaged (Some h) = false
is_damaged None = true

abbrev held_in : Option Held → Held
held_in (Some h) = h
held_in None = None

damaged_as : (x : Option AsmSection) → unreadable x ≡ is_damaged (held_read x)
damaged_as (Some s) = refl
damaged_as None = refl

module _ (r : StoredSection) where
  damaged : None ≡ held_read (read_section r) → unreadable (read_section r) ≡ true
  damaged e = damaged_as (read_section r) ∙ ap is_damaged (sym e)

  -- a damaged reading leaves the walk
  pub damaged_broken : (previous : ℕ) (is_last : Bool) (stored : ℕ) → None ≡ held_read (read_section r) → broken_section r previous is_last stored ≡ true
  damaged_broken previous is_last stored e = rw (damaged e)

  pub damaged_last : (stored : ℕ) → None ≡ held_read (read_section r) → broken_last r stored ≡ true
  damaged_last stored e = rw (damaged e)

  -- what was read is asked
  module _ (h : Held) (e : Some h ≡ held_read (read_section r)) where
    readable : unreadable (read_section r) ≡ false
    readable = damaged_as (read_section r) ∙ ap is_damaged (sym e)

    is_bytes : is_span r.kind ≡ true → h ≡ Some (span r.first r.second)
    is_bytes s = ap held_in (e ∙ sym (held_span r s readable))

    is_nothing : is_span r.kind ≡ false → h ≡ None
    is_nothing s = ap held_in (e ∙ sym (held_nothing r s readable))

    pub held_broken : (previous : ℕ) (is_last : Bool) (stored : ℕ) → broken_section r previous is_last stored ≡ is_misplaced h previous is_last stored
    held_broken previous is_last stored = go (is_span r.kind) refl
      where
        go : (t : Bool) → is_span r.kind ≡ t → broken_section r previous is_last stored ≡ is_misplaced h previous is_last stored
        go true s = rw (readable, s, is_bytes s)
        go false s = rw (readable, s, is_nothing s)

    pub held_last : (stored : ℕ) → broken_last r stored ≡ ends_elsewhere h stored
    held_last stored = go (is_span r.kind) refl
      where
        go : (t : Bool) → is_span r.kind ≡ t → broken_last r stored ≡ ends_elsewhere h stored
        go true s = rw (readable, s, is_bytes s)
        go false s = rw (readable, s, is_nothing s)

    pub held_end : (end : ℕ) → end_after h end ≡ cond (is_span r.kind) r.second end
    held_end end = go (is_span r.kind) refl
      where
        go : (t : Bool) → is_span r.kind ≡ t → end_after h end ≡ cond (is_span r.kind) r.second end
        go true s = rw (s, is_bytes s)
        go false s = rw (s, is_nothing s)

-- where bytes stand
module _ (s : Span AsmBytesIdx) (previous : ℕ) (is_last : Bool) (stored : ℕ) where
  pub start_elsewhere : (s.start.0 ≡ previous → ⊥) → true ≡ span_misplaced s previous is_last stored
  start_elsewhere n =
      let u : eqb s.start.0 previous ≡ false = ne_eqb _ _ n in
      rw u

  pub last_end : s.start.0 ≡ previous → is_last ≡ true → not (eqb s.end.0 stored) ≡ span_misplaced s previous is_last stored
  last_end e l =
      let u : eqb s.start.0 previous ≡ true = eq-eqb _ _ e in
      rw (u, l)

  pub inner_end : s.start.0 ≡ previous → is_last ≡ false → false ≡ span_misplaced s previous is_last stored
  inner_end e l =
      let u : eqb s.start.0 previous ≡ true = eq-eqb _ _ e in
      rw (u, l)
