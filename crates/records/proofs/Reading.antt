-- Laws of the definitions that read a section from its words: one for each way that the code goes. Assumes nothing.
use Rattle.std.specs.Prelude.{None, Option, Some}
use Rattle.std.proofs.Common.{rules}
use Prim.Native.Nat.{ℕ, ◌+◌, ◌-◌, ◌≤◌, ◌<◌}
use native.Mathlib.Omega.{arith}
use mathlib.Core.Path.{◌≡◌, refl}
use mathlib.Core.Bool.{Bool, true, false, cond}
use lib.Dec.{leb, ltb, eqb}
use borrow.Author.Tests.{lt-ltb, le-ltb, le-leb, lt-leb, eq-eqb, ne_eqb}
use native.Mathlib.Nat.{add-zero}
use Rattle.units.specs.declared.Span.{Span}
use Rattle.units.specs.declared.AsmBytesIdx.{AsmBytesIdx}
use Rattle.units.specs.declared.MarkId.{MarkId}
use Rattle.units.specs.declared.AsmReference.{AsmReference}
use Rattle.units.specs.declared.RefSize.TheVariants.{S4}
use Rattle.units.specs.declared.MarkReference.TheVariants.{Direct, Delta}
use Rattle.records.specs.Record.{max_mark, set_size_of, reference_words, read_mark, span, read_span, read_ref, read_direct, read_delta, read_section}
use Rattle.units.specs.Form.{size_number}
use Rattle.records.specs.declared.record.AsmSection.{AsmSection}
use Rattle.records.specs.declared.record.AsmSection.TheVariants.{Mark, Ops, Data}
use Rattle.records.specs.declared.record.StoredSection.{StoredSection}

module _ (a b : ℕ) where
  pub mark_large : max_mark < a → None ≡ read_mark a b
  unfolding read_mark
  mark_large h =
      let t : leb a max_mark ≡ false = lt-leb a max_mark h in
      rw t

  pub mark_read : a ≤ max_mark → b ≡ 0 → Some (Mark (record { 0 = a })) ≡ read_mark a b
  unfolding read_mark
  mark_read h z =
      let t : leb a max_mark ≡ true = le-leb a max_mark h in
      let u : eqb b 0 ≡ true = eq-eqb b 0 z in
      rw (t, u)

  pub mark_field : a ≤ max_mark → (b ≡ 0 → ⊥) → None ≡ read_mark a b
  unfolding read_mark
  mark_field h z =
      let t : leb a max_mark ≡ true = le-leb a max_mark h in
      let u : eqb b 0 ≡ false = ne_eqb b 0 z in
      rw (t, u)

  pub span_bad : (kind : Span AsmBytesIdx → AsmSection) → b < a → None ≡ read_span kind a b
  unfolding read_span
  span_bad kind h =
      let t : leb a b ≡ false = lt-leb a b h in
      rw t

  pub span_read : (kind : Span AsmBytesIdx → AsmSection) → a ≤ b → Some (kind (span a b)) ≡ read_span kind a b
  unfolding read_span
  span_read kind h =
      let t : leb a b ≡ true = le-leb a b h in
      rw t

  -- a span that was read, as the section that has it
  pub span_kept : (kind : Span AsmBytesIdx → AsmSection) (s : Span AsmBytesIdx) → Some s ≡ cond (leb a b) (Some (span a b)) None → Some (kind s) ≡ read_span kind a b
  unfolding read_span
  span_kept kind s e = go (leb a b) e
    where
      go : (t : Bool) → Some s ≡ cond t (Some (span a b)) None → Some (kind s) ≡ cond t (Some (kind (span a b))) None
      go true e = cc
      go false e = absurd (search rules)

  pub span_lost : (kind : Span AsmBytesIdx → AsmSection) → ◌≡◌ {A = Option (Span AsmBytesIdx)} None (cond (leb a b) (Some (span a b)) None) → None ≡ read_span kind a b
  unfolding read_span
  span_lost kind e = go (leb a b) e
    where
      go : (t : Bool) → ◌≡◌ {A = Option (Span AsmBytesIdx)} None (cond t (Some (span a b)) None) → None ≡ cond t (Some (kind (span a b))) None
      go true e = absurd (search rules)
      go false e = refl

  pub direct_large : max_mark < a → None ≡ read_direct a b
  unfolding read_direct
  direct_large h =
      let t : ltb max_mark a ≡ true = lt-ltb max_mark a h in
      rw t

  pub direct_raw : (x : Option AsmSection) → a ≤ max_mark → b < 5 → x ≡ read_ref (Direct (record { 0 = a })) b false → x ≡ read_direct a b
  unfolding read_direct
  direct_raw x h l e =
      let t : ltb max_mark a ≡ false = le-ltb max_mark a h in
      let u : leb b 4 ≡ true = le-leb b 4 (omega arith) in
      rw (t, u) e

  pub direct_pushed : (x : Option AsmSection) → a ≤ max_mark → 8 ≤ b → b < 13 → x ≡ read_ref (Direct (record { 0 = a })) (b - 8) true → x ≡ read_direct a b
  unfolding read_direct
  direct_pushed x h l m e =
      let t : ltb max_mark a ≡ false = le-ltb max_mark a h in
      let u : leb b 4 ≡ false = lt-leb b 4 (omega arith) in
      let v : leb 8 b ≡ true = le-leb 8 b l in
      let w : leb b 12 ≡ true = le-leb b 12 (omega arith) in
      rw (t, u, v, w) e

  pub direct_between : a ≤ max_mark → 5 ≤ b → b < 8 → None ≡ read_direct a b
  unfolding read_direct
  direct_between h l m =
      let t : ltb max_mark a ≡ false = le-ltb max_mark a h in
      let u : leb b 4 ≡ false = lt-leb b 4 l in
      let v : leb 8 b ≡ false = lt-leb 8 b m in
      rw (t, u, v)

  pub direct_above : a ≤ max_mark → 13 ≤ b → None ≡ read_direct a b
  unfolding read_direct
  direct_above h l =
      let t : ltb max_mark a ≡ false = le-ltb max_mark a h in
      let u : leb b 4 ≡ false = lt-leb b 4 (omega arith) in
      let v : leb 8 b ≡ true = le-leb 8 b (omega arith) in
      let w : leb b 12 ≡ false = lt-leb b 12 l in
      rw (t, u, v, w)

  pub delta_start_lem : (s : ℕ) (p : Bool) → max_mark < a → None ≡ read_delta s p a b
  unfolding read_delta
  delta_start_lem s p h =
      let t : leb a max_mark ≡ false = lt-leb a max_mark h in
      rw t

  pub delta_end_lem : (s : ℕ) (p : Bool) → a ≤ max_mark → max_mark < b → None ≡ read_delta s p a b
  unfolding read_delta
  delta_end_lem s p h k =
      let t : leb a max_mark ≡ true = le-leb a max_mark h in
      let u : leb b max_mark ≡ false = lt-leb b max_mark k in
      rw (t, u)

  pub delta_read : (x : Option AsmSection) (s : ℕ) (p : Bool) → a ≤ max_mark → b ≤ max_mark → x ≡ read_ref (Delta (record { start = record { 0 = a }; end = record { 0 = b } })) s p → x ≡ read_delta s p a b
  unfolding read_delta
  delta_read x s p h k e =
      let t : leb a max_mark ≡ true = le-leb a max_mark h in
      let u : leb b max_mark ≡ true = le-leb b max_mark k in
      rw (t, u) e

-- a number that stands for a set size
pub size_other : (n : ℕ) → (n ≡ 0 → ⊥) → (n ≡ 1 → ⊥) → (n ≡ 2 → ⊥) → (n ≡ 3 → ⊥) → Some S4 ≡ set_size_of n
unfolding set_size_of
size_other n a b c d =
    let t : eqb n 0 ≡ false = ne_eqb n 0 a in
    let u : eqb n 1 ≡ false = ne_eqb n 1 b in
    let v : eqb n 2 ≡ false = ne_eqb n 2 c in
    let w : eqb n 3 ≡ false = ne_eqb n 3 d in
    rw (t, u, v, w)

-- a section by its kind; x is what the code's reader of that kind gave
module _ (r : StoredSection) (x : Option AsmSection) where
  pub section_mark : r.kind ≡ 0 → x ≡ read_mark r.first r.second → x ≡ read_section r
  unfolding read_section
  section_mark k e = rw k e

  pub section_ops : r.kind ≡ 1 → x ≡ read_span Ops r.first r.second → x ≡ read_section r
  unfolding read_section
  section_ops k e = rw k e

  pub section_data : r.kind ≡ 2 → x ≡ read_span Data r.first r.second → x ≡ read_section r
  unfolding read_section
  section_data k e = rw k e

  pub section_direct : r.kind ≡ 3 → x ≡ read_direct r.first r.second → x ≡ read_section r
  unfolding read_section
  section_direct k e = rw k e

  pub section_pushed_delta : 4 ≤ r.kind → r.kind < 9 → x ≡ read_delta (r.kind - 4) true r.first r.second → x ≡ read_section r
  unfolding read_section
  section_pushed_delta l h e =
      let a : eqb r.kind 0 ≡ false = ne_eqb r.kind 0 (omega arith) in
      let b : eqb r.kind 1 ≡ false = ne_eqb r.kind 1 (omega arith) in
      let c : eqb r.kind 2 ≡ false = ne_eqb r.kind 2 (omega arith) in
      let d : eqb r.kind 3 ≡ false = ne_eqb r.kind 3 (omega arith) in
      let f : ltb r.kind 9 ≡ true = lt-ltb _ _ h in
      rw (a, b, c, d, f) e

  pub section_raw_delta : 9 ≤ r.kind → r.kind < 14 → x ≡ read_delta (r.kind - 9) false r.first r.second → x ≡ read_section r
  unfolding read_section
  section_raw_delta l h e =
      let a : eqb r.kind 0 ≡ false = ne_eqb r.kind 0 (omega arith) in
      let b : eqb r.kind 1 ≡ false = ne_eqb r.kind 1 (omega arith) in
      let c : eqb r.kind 2 ≡ false = ne_eqb r.kind 2 (omega arith) in
      let d : eqb r.kind 3 ≡ false = ne_eqb r.kind 3 (omega arith) in
      let f : ltb r.kind 9 ≡ false = le-ltb _ _ l in
      let g : ltb r.kind 14 ≡ true = lt-ltb _ _ h in
      rw (a, b, c, d, f, g) e

pub section_unlisted : (r : StoredSection) → 14 ≤ r.kind → None ≡ read_section r
unfolding read_section
section_unlisted r l =
    let a : eqb r.kind 0 ≡ false = ne_eqb r.kind 0 (omega arith) in
    let b : eqb r.kind 1 ≡ false = ne_eqb r.kind 1 (omega arith) in
    let c : eqb r.kind 2 ≡ false = ne_eqb r.kind 2 (omega arith) in
    let d : eqb r.kind 3 ≡ false = ne_eqb r.kind 3 (omega arith) in
    let f : ltb r.kind 9 ≡ false = le-ltb r.kind 9 (omega arith) in
    let g : ltb r.kind 14 ≡ false = le-ltb _ _ l in
    rw (a, b, c, d, f, g)

-- the words of a reference; n is its set size as a number, as the code has it
module _ (r : AsmReference) (n : ℕ) (sized : n ≡ size_number r.set_size) where
  pub direct_words_pushed : (m : MarkId) → r.mark_ref ≡ Direct m → r.pushed ≡ true → record { kind = 3; first = m.0; second = n + 8 } ≡ reference_words r
  unfolding reference_words
  direct_words_pushed m e p = rw (e, p, sized)

  pub direct_words_raw : (m : MarkId) → r.mark_ref ≡ Direct m → r.pushed ≡ false → record { kind = 3; first = m.0; second = n } ≡ reference_words r
  unfolding reference_words
  direct_words_raw m e p = rw (e, p, add-zero, ← sized)

  pub delta_words_pushed : (d : Span MarkId) → r.mark_ref ≡ Delta d → r.pushed ≡ true → record { kind = n + 4; first = d.start.0; second = d.end.0 } ≡ reference_words r
  unfolding reference_words
  delta_words_pushed d e p = rw (e, p, sized)

  pub delta_words_raw : (d : Span MarkId) → r.mark_ref ≡ Delta d → r.pushed ≡ false → record { kind = n + 9; first = d.start.0; second = d.end.0 } ≡ reference_words r
  unfolding reference_words
  delta_words_raw d e p = rw (e, p, sized)
