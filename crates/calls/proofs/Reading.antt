-- One added section: it joins the last one or comes after it, and its words are read back as it.
-- Assumes nothing.
use Rattle.std.specs.Prelude.{Option, Some}
use Prim.Native.Nat.{ℕ, ◌+◌, ◌≤◌}
use native.Mathlib.Nat.{add-zero, le-add_right}
use mathlib.Core.Path.{◌≡◌, refl, sym, ap, ◌∙◌, subst}
use mathlib.Core.Bool.{Bool, true, false, cond, true≢false, false≢true}
use mathlib.Mathlib.Data.Bool.Basic.{or-eq-false-eq-eq-false-and-eq-false as or-false}
use mathlib.Core.List.{List, [], ◌∷◌, ◌++◌}
use lib.ListN.{length}
use lib.Seq.{slice}
use lib.Dec.{ltb}
use borrow.Author.Tests.{ltb-false, eqb-true, le-leb}
use Rattle.units.specs.declared.RefSize.{RefSize}
use Rattle.records.specs.declared.record.AsmSection.{AsmSection}
use Rattle.units.specs.declared.MarkReference.{MarkReference}
use Rattle.units.specs.declared.MarkReference.TheVariants.{Direct, Delta}
use Rattle.records.specs.declared.record.AsmSection.TheVariants.{MarkRef}
use Rattle.records.specs.Record.{max_mark, ops_kind, data_kind, read_mark, read_section, words_of_ref, reference_words}
use Rattle.records.specs.Damage.{unreadable, is_span}
use Rattle.records.specs.Sections.{Section, mark, ops, bytes, reference, section_read}
use Rattle.calls.specs.Calls.{names_large_mark, bytes_of, words_of, extends}
use Rattle.calls.specs.Lists.{after_ops, after_bytes, after_last}
use Rattle.undamaged.proofs.Reading.{View, unread, as_ops_lem, as_data_lem, as_mark, as_reference, read_ops, read_data, read_direct_lem, read_delta_lem, reference_kind}

-- ---- the last section and what is added after it

-- what doesn't extend an Ops section comes after it, and likewise Data
apart_ops : (x : List ℕ) (s : Section) → extends ops_kind s ≡ false → after_ops x s ≡ ops x ∷ s ∷ []
apart_ops x (mark m) e = refl
apart_ops x (ops new) e = absurd (true≢false e)
apart_ops x (bytes new) e = refl
apart_ops x (reference r) e = refl

-- the same for Data
apart_data : (x : List ℕ) (s : Section) → extends data_kind s ≡ false → after_bytes x s ≡ bytes x ∷ s ∷ []
apart_data x (mark m) e = refl
apart_data x (ops new) e = refl
apart_data x (bytes new) e = absurd (true≢false e)
apart_data x (reference r) e = refl

-- a section that doesn't extend the last one, by its kind word, comes after it in the list
pub apart : {k a b : ℕ} {v : Option AsmSection} (old : List ℕ) (s : Section) → View k a b v → extends k s ≡ false → after_last (section_read old v) s ≡ section_read old v ∷ s ∷ []
apart old s unread e = refl
apart old s (as_ops_lem q l) e = apart_ops _ s (subst (λ (k : ℕ). extends k s ≡ false) q e)
apart old s (as_data_lem q l) e = apart_data _ s (subst (λ (k : ℕ). extends k s ≡ false) q e)
apart old s (as_mark n m) e = refl
apart old s (as_reference n r) e = refl

-- ---- the words of an added section

-- a reference is read back from its words
read_reference : (m : MarkReference) (s : Option RefSize) (p : Bool) → names_large_mark m ≡ false
    → read_section (words_of_ref m s p) ≡ Some (MarkRef (record { mark_ref = m; set_size = s; pushed = p }))
read_reference (Direct m) s p e = read_direct_lem m s p e
read_reference (Delta d) s p e =
    let r = (or-false (ltb max_mark d.start.0) (ltb max_mark d.end.0)).0 e in
    read_delta_lem d s p (le-leb d.start.0 max_mark (ltb-false max_mark d.start.0 r.0)) (le-leb d.end.0 max_mark (ltb-false max_mark d.end.0 r.1))

-- what is extended is Ops or Data
pub extends_span : (k : ℕ) (s : Section) → extends k s ≡ true → is_span k ≡ true
extends_span k (mark m) t = absurd (false≢true t)
extends_span k (ops bs) t = rw t
extends_span k (bytes bs) t = ap is_span (eqb-true k data_kind t)
extends_span k (reference r) t = absurd (false≢true t)

-- with its end moved it can still be read, and it is the section with the added bytes
pub extended : (k a b c : ℕ) (s : Section) (old new : List ℕ) → extends k s ≡ true → a ≤ b → a ≤ c → slice a c new ≡ slice a b old ++ bytes_of s
    → (unreadable (read_section (record { kind = k; first = a; second = c })) ≡ false)
    × (after_last (section_read old (read_section (record { kind = k; first = a; second = b }))) s ≡ section_read new (read_section (record { kind = k; first = a; second = c })) ∷ [])
extended k a b c (mark m) old new t l h e = absurd (false≢true t)
extended k a b c (ops bs) old new t l h e =
    let q : k ≡ ops_kind = eqb-true k ops_kind t in
    rw (read_ops k a b q l, read_ops k a c q h) (refl, ap (λ (x : List ℕ). ops x ∷ []) (sym e))
extended k a b c (bytes bs) old new t l h e =
    let q : k ≡ data_kind = eqb-true k data_kind t in
    rw (read_data k a b q l, read_data k a c q h) (refl, ap (λ (x : List ℕ). bytes x ∷ []) (sym e))
extended k a b c (reference r) old new t l h e = absurd (false≢true t)

-- a section that names a mark above the largest
abbrev pub large : Section → Bool
large (mark m) = ltb max_mark m
large (ops bs) = false
large (bytes bs) = false
large (reference r) = names_large_mark r.mark_ref

-- the words of a section are read back as that section, its bytes from where they start
pub read_back : (at : ℕ) (s : Section) (old : List ℕ) → large s ≡ false → slice at (at + length (bytes_of s)) old ≡ bytes_of s
    → (unreadable (read_section (words_of at s)) ≡ false) × (section_read old (read_section (words_of at s)) ≡ s)
unfolding read_section read_mark reference_words
read_back at (mark m) old e h = rw (le-leb m max_mark (ltb-false max_mark m e)) (refl, refl)
read_back at (ops bs) old e h = rw (read_ops ops_kind at (at + length bs) refl (le-add_right at (length bs))) (refl, ap ops h)
read_back at (bytes bs) old e h = rw (read_data data_kind at (at + length bs) refl (le-add_right at (length bs))) (refl, ap bytes h)
read_back at (reference r) old e h = rw (read_reference r.mark_ref r.set_size r.pushed e) (refl, refl)

-- ---- where the words of a section say it starts and ends

-- an Ops or Data section starts where it was told to
pub words_start : (at : ℕ) (s : Section) → is_span (words_of at s).kind ≡ true → (words_of at s).first ≡ at
unfolding reference_words
words_start at (mark m) t = absurd (false≢true t)
words_start at (ops bs) t = refl
words_start at (bytes bs) t = refl
words_start at (reference r) t = absurd (true≢false (sym t ∙ reference_kind r.mark_ref r.set_size r.pushed))

-- the last end after a section is the one before it and the section's bytes
pub words_end : (at : ℕ) (s : Section) → cond (is_span (words_of at s).kind) (words_of at s).second at ≡ at + length (bytes_of s)
unfolding reference_words
words_end at (mark m) = sym (add-zero at)
words_end at (ops bs) = refl
words_end at (bytes bs) = refl
words_end at (reference r) = rw (reference_kind r.mark_ref r.set_size r.pushed) (sym (add-zero at))
