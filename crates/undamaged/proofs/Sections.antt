-- The list of sections of a store, the ends of its Ops and Data sections, and what is known of each section. Assumes nothing.
use Rattle.std.specs.Prelude.{None, Option, Some}
use Prim.Native.Nat.{ℕ, zero, suc, ◌+◌, ◌≤◌, ◌<◌}
use native.Mathlib.Nat.{add-zero, add-suc, suc-add, le_refl, le_trans, le_of_eq, eq-or-lt_of_le}
use native.Mathlib.Omega.{arith}
use mathlib.Core.Path.{◌≡◌, refl, sym, ap, ◌∙◌, subst}
use mathlib.Core.Bool.{true, false, true≢false}
use mathlib.Mathlib.Data.Bool.Basic.{dichotomy}
use mathlib.Core.List.{List, [], ◌∷◌, ◌++◌}
use mathlib.Core.Logic.{◌⊎◌, inl, inr}
use lib.ListN.{length}
use Rattle.records.specs.declared.record.AsmSection.{AsmSection}
use Rattle.records.specs.Record.{read_section}
use Rattle.records.specs.Store.{Store, section_words}
use Rattle.records.specs.Damage.{unreadable, is_span, end_before}
use Rattle.records.specs.Sections.{Section, decode_at, decode_from}
use Rattle.undamaged.specs.View.{Facts}
use Rattle.undamaged.specs.Section.{ReadIn}
use Rattle.slices.proofs.Tests.{cond_true, cond_false}
use Rattle.undamaged.proofs.Reading.{Reads, is_damaged_lem, is_mark, is_ops_lem, is_data, is_direct, is_delta_lem, reads, view, span_ordered}

-- one more section at the end
pub decode_snoc : (w : ℕ) (st : Store) (k i : ℕ) → decode_from w st (suc k) i ≡ decode_from w st k i ++ (decode_at w st (i + k) ∷ [])
unfolding decode_from
decode_snoc w st zero i = rw add-zero
decode_snoc w st (suc k) i = ap (λ (l : List Section). decode_at w st i ∷ l) (decode_snoc w st k (suc i) ∙ rw (suc-add, add-suc))

-- in an undamaged store the ends never fall
end_step : (w : ℕ) (st : Store) (i : ℕ) → Facts w st → i < st.sections → end_before w st i ≤ end_before w st (suc i)
unfolding end_before
end_step w st i f l = go (dichotomy (is_span (section_words w st i).kind))
  where
    go : (is_span (section_words w st i).kind ≡ false) ⊎ (is_span (section_words w st i).kind ≡ true) → end_before w st i ≤ end_before w st (suc i)
    go (inr s) =
        let o : (section_words w st i).first ≤ (section_words w st i).second = span_ordered (view (section_words w st i)) (f.readable i l) s in
        omega (arith, f.starts i l s, cond_true _ (section_words w st i).second (end_before w st i) s)
    go (inl n) = le_of_eq (sym (cond_false _ _ _ n))

-- over any distance
pub end_mono : (w : ℕ) (st : Store) (i m : ℕ) → Facts w st → i ≤ m → m ≤ st.sections → end_before w st i ≤ end_before w st m
end_mono w st i zero f l h = le_of_eq (ap (end_before w st) (omega arith))
end_mono w st i (suc m) f l h = go (eq-or-lt_of_le l) (λ a. end_mono w st i m f a (omega arith))
  where
    go : (i ≡ suc m) ⊎ (i < suc m) → (i ≤ m → end_before w st i ≤ end_before w st m) → end_before w st i ≤ end_before w st (suc m)
    go (inl e) r = le_of_eq (ap (end_before w st) e)
    go (inr a) r = le_trans (r (omega arith)) (end_step w st m f h)

-- so an Ops or Data section among the first m ends at or before the last end among them
pub span_within : (w : ℕ) (st : Store) (i m : ℕ) → Facts w st → i < m → m ≤ st.sections → is_span (section_words w st i).kind ≡ true → (section_words w st i).second ≤ end_before w st m
unfolding end_before
span_within w st i m f l h s = subst (λ (x : ℕ). x ≤ end_before w st m) (cond_true _ _ (end_before w st i) s) (end_mono w st (suc i) m f l h)

-- nor past the stored count
pub span_stored : (w : ℕ) (st : Store) (i : ℕ) → Facts w st → i < st.sections → is_span (section_words w st i).kind ≡ true → (section_words w st i).second ≤ st.stored_bytes
span_stored w st i f l s = omega (arith, span_within w st i st.sections f l (le_refl st.sections) s, f.ends)

-- ---- one section

-- words that can be read, and whose end is at most n if they are of Ops or Data
pub read_in : {k a b : ℕ} {v : Option AsmSection} (n : ℕ) → Reads k a b v → unreadable v ≡ false → (is_span k ≡ true → b ≤ n) → ReadIn n v
read_in n is_damaged_lem u h = true≢false u
read_in n (is_mark e m) u h = m
read_in n (is_ops_lem e l) u h = (l, h (ap is_span e))
read_in n (is_data e l) u h = (l, h (ap is_span e))
read_in n (is_direct e m s p f) u h = m
read_in n (is_delta_lem l m m' s p f) u h = (m, m')

-- and the other way: a section of n bytes can be read
pub can_read : (n : ℕ) (v : Option AsmSection) → ReadIn n v → unreadable v ≡ false
can_read n (Some s) h = refl
can_read n None h = absurd h

-- so every section of an undamaged store is one of its stored bytes
pub section_in : (w : ℕ) (st : Store) (i : ℕ) → Facts w st → i < st.sections → ReadIn st.stored_bytes (read_section (section_words w st i))
section_in w st i f l = read_in st.stored_bytes (reads (section_words w st i)) (f.readable i l) (span_stored w st i f l)

-- and of the byte slice
pub section_held : (w : ℕ) (st : Store) (i : ℕ) → Facts w st → i < st.sections → ReadIn (length st.bytes) (read_section (section_words w st i))
section_held w st i f l =
    read_in (length st.bytes) (reads (section_words w st i)) (f.readable i l) (λ s. omega (arith, span_stored w st i f l s, f.bytes_fit))
