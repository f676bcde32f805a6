-- Laws for the code that writes: one for each way that it goes, on plain variables. Assumes nothing.
use Prim.Native.Nat.{ℕ, zero, suc, ◌+◌, ◌-◌, ◌/◌, ◌%◌, ◌≤◌, ◌<◌}
use native.Mathlib.Omega.{arith}
use native.Mathlib.Numerals.{add-one}
use native.Mathlib.Nat.{add-zero, sub-zero, suc-sub-suc}
use mathlib.Core.Path.{◌≡◌, refl, sym, ◌∙◌, ap, subst}
use mathlib.Core.Bool.{true, false}
use mathlib.Core.List.{List, [], ◌∷◌, ◌++◌}
use lib.Dec.{leb, ltb, eqb}
use lib.ListN.{length, get_or, set, take, drop, length-append}
use lib.Seq.{slice, slice-cons, slice_empty, take-nil, take-take, length-slice, drop-drop, drop-append-le, length-take-le}
use Rattle.std.proofs.lemmas.List.{take-append-drop}
use borrow.Author.Tests.{eq-eqb, ne_eqb, lt-ltb, ltb-false}
use Rattle.units.specs.Numbers.{big_endian, held_bytes}
use Rattle.units.specs.Form.{count_by_form, push_zero_by_form}
use Rattle.units.proofs.Held.{held_le}
use Rattle.records.specs.Record.{direct_kind}
use Rattle.records.specs.Store.{Store, section_words}
use Rattle.records.specs.Sections.{decode_at, decode_from, decode}
use Rattle.records.specs.declared.record.StoredSection.{StoredSection}
use Rattle.slices.specs.Over.{over}
use Rattle.slices.proofs.Over.{take_over, drop_over, length_over}
use Rattle.slices.proofs.Tests.{cond_case, and-false}
use Rattle.layout.specs.Passes.{entry}
use Rattle.settling.specs.SectionWalk.{backward_words, value_words}
use Rattle.assembler.specs.Emission.{opcode, in_a_row, code_of}
use Rattle.slices.proofs.Over.{over_nothing, over_next, over_one}
use Rattle.assembler.specs.Writing.{Fits, wrote, words_bytes, form_bytes, WritableReference}
use Rattle.assembler.specs.declared.emission.CodeWriter.{CodeWriter}
use Rattle.std.specs.Int.{w32, to_be_bytes}
use denote.Ref.{at_last}

-- ---- the bytes of a span

-- a part of a list, as code cuts it
pub part_slice : (f t : ℕ) (l : List ℕ) → f ≤ t → take (t - f) (drop f l) ≡ slice f t l
part_slice zero t l h = ap (λ (n : ℕ). take n l) (sub-zero t)
part_slice (suc f) zero l h = absurd (omega arith)
part_slice (suc f) (suc t) [] h = take-nil _
part_slice (suc f) (suc t) (x ∷ l) h = ap (λ (n : ℕ). take n (drop f l)) (suc-sub-suc t f) ∙ part_slice f t l (omega arith)

-- the first, and the others
pub span_next : (bytes : List ℕ) (i end : ℕ) → i < end → end ≤ length bytes → slice i end bytes ≡ (get_or bytes i 0 ∷ []) ++ slice (i + 1) end bytes
span_next bytes i end l h = slice-cons i end bytes 0 l h ∙ ap (λ (k : ℕ). get_or bytes i 0 ∷ slice k end bytes) (sym (add-one i))

-- those up to a place, and those from it on
pub span_parts : (bytes : List ℕ) (i at end : ℕ) → i ≤ at → at ≤ end → end ≤ length bytes → slice i end bytes ≡ slice i at bytes ++ slice at end bytes
span_parts bytes i at end l m h =
    let cut : take end bytes ≡ take at bytes ++ slice at end bytes =
    sym (take-append-drop at (take end bytes)) ∙ ap (λ (front : List ℕ). front ++ slice at end bytes) (take-take at end bytes m) in
    ap (drop i) cut ∙ drop-append-le i (take at bytes) (slice at end bytes) (omega (arith, length-take-le at bytes))

-- none
pub span_none : (bytes : List ℕ) (i end : ℕ) → i ≡ end → slice i end bytes ≡ []
span_none bytes i end e = ap (λ (k : ℕ). slice k end bytes) e ∙ slice_empty end bytes

-- ---- one part, and two in a row

-- written over again by no fewer bytes
over_again : (old : List ℕ) (i : ℕ) (xs ys : List ℕ) → i ≤ length old → length xs ≤ length ys → over (over old i xs) i ys ≡ over old i ys
over_again old i xs ys fits m =
    let more : i + length xs + (length ys - length xs) ≡ i + length ys = omega arith in
    let beyond : drop (i + length ys) (over old i xs) ≡ drop (i + length ys) old =
    ap (λ (n : ℕ). drop n (over old i xs)) (sym more)
    ∙ sym (drop-drop (length ys - length xs) (i + length xs) (over old i xs))
    ∙ ap (drop (length ys - length xs)) (drop_over old i xs fits)
    ∙ drop-drop (length ys - length xs) (i + length xs) old
    ∙ ap (λ (n : ℕ). drop n old) more in
    ap (λ (front : List ℕ). front ++ (ys ++ drop (i + length ys) (over old i xs))) (take_over old i xs fits) ∙ ap (λ (back : List ℕ). take i old ++ (ys ++ back)) beyond

module _ (writer : CodeWriter) where
  -- nothing written
  pub wrote_none : wrote writer [] ≡ writer
  wrote_none = λ i. record { code = at_last writer.code (over_nothing writer.code.now writer.at i); at = add-zero writer.at i }

  -- one byte
  pub wrote_byte : (b : ℕ) → Fits writer (b ∷ []) → record { code = at_last writer.code (set writer.code.now writer.at b); at = writer.at + 1 } ≡ wrote writer (b ∷ [])
  wrote_byte b h = ap (λ (bytes : List ℕ). record { code = at_last writer.code bytes; at = writer.at + 1 }) (over_one writer.code.now writer.at b (omega arith))

  module _ (x y : List ℕ) (h : Fits writer (x ++ y)) where
    -- one part after another
    pub wrote_next : wrote (wrote writer x) y ≡ wrote writer (x ++ y)
    wrote_next = λ i. record { code = at_last writer.code (codes i); at = places i }
      where
        codes : over (over writer.code.now writer.at x) (writer.at + length x) y ≡ over writer.code.now writer.at (x ++ y)
        codes = over_next writer.code.now writer.at x y (omega (arith, length-append x y))

        places : writer.at + length x + length y ≡ writer.at + length (x ++ y)
        places = omega (arith, length-append x y)

    -- the first fits, and after it the second
    pub fits_first : Fits writer x
    fits_first = omega (arith, length-append x y)

    pub fits_second : Fits (wrote writer x) y
    fits_second = omega (arith, length-append x y, length_over writer.code.now writer.at x (omega (arith, length-append x y)) fits_first)

-- the writer put back from `at` to where the last eight bytes before `end` go
abbrev pub put_back : ℕ → ℕ → CodeWriter → CodeWriter
put_back at end writer = record { code = writer.code; at = writer.at - (at + 8 - end) }

-- a span written up to `at`, and then its last eight bytes, some of them again
module _ (writer : CodeWriter) (bytes : List ℕ) (start at end : ℕ) (long : start + 8 ≤ end) (left : (start ≤ at) × (at ≤ end) × (end ≤ at + 8))
    (h : end ≤ length bytes) (fits : Fits writer (slice start end bytes)) where
  abbrev from : ℕ
  from = end - 8

  lengths : (writer.at + length (slice start from bytes) ≤ length writer.code.now)
      × (writer.at + length (slice start at bytes) - (at + 8 - end) ≡ writer.at + length (slice start from bytes))
      × (length (slice from at bytes) ≤ length (slice from end bytes))
      × (writer.at + length (slice start from bytes) + length (slice from end bytes) ≡ writer.at + length (slice start end bytes))
  lengths =
      let a = length-slice start from bytes (omega arith) in
      let b = length-slice start at bytes (omega (arith, left, h)) in
      let c = length-slice from at bytes (omega (arith, left, h)) in
      let d = length-slice from end bytes h in
      let e = length-slice start end bytes h in
      (omega (arith, a, e, fits), omega (arith, a, b, left), omega (arith, c, d, left), omega (arith, a, d, e))

  pub last_eight : wrote (put_back at end (wrote writer (slice start at bytes))) (slice from end bytes) ≡ wrote writer (slice start end bytes)
  last_eight = λ i. record { code = at_last writer.code (codes i); at = places i }
    where
      places : writer.at + length (slice start at bytes) - (at + 8 - end) + length (slice from end bytes) ≡ writer.at + length (slice start end bytes)
      places = omega (arith, lengths)

      codes : over (over writer.code.now writer.at (slice start at bytes)) (writer.at + length (slice start at bytes) - (at + 8 - end)) (slice from end bytes)
          ≡ over writer.code.now writer.at (slice start end bytes)
      codes =
          let old = writer.code.now in
          let x = slice start from bytes in
          let y = slice from at bytes in
          let z = slice from end bytes in
          let place = writer.at + length x in
          let inside : writer.at ≤ length old = omega (arith, lengths) in
          let reaches : place ≤ length (over old writer.at x) = omega (arith, lengths, length_over old writer.at x inside lengths.0) in
          ap (λ (k : ℕ). over (over old writer.at (slice start at bytes)) k z) lengths.1
          ∙ ap (λ (l : List ℕ). over (over old writer.at l) place z) (span_parts bytes start from at (omega arith) (omega (arith, left)) (omega (arith, left, h)))
          ∙ ap (λ (l : List ℕ). over l place z) (sym (over_next old writer.at x y lengths.0))
          ∙ over_again (over old writer.at x) place y z reaches lengths.2
          ∙ over_next old writer.at x z lengths.0
          ∙ ap (over old writer.at) (sym (span_parts bytes start from end (omega arith) (omega arith) h))

-- with `rest` still to be written, a writer is as it is to be, `goal`, and there is room for the rest
pub record Left (goal writer : CodeWriter) (rest : List ℕ) : Type 0 where
  pub fits : Fits writer rest
  pub left : wrote writer rest ≡ goal

module _ {goal writer : CodeWriter} {rest : List ℕ} (q : Left goal writer rest) where
  module _ (x y : List ℕ) (e : rest ≡ x ++ y) where
    -- a part of the rest fits
    pub left_fits : Fits writer x
    left_fits = fits_first writer x y (subst (Fits writer) e q.fits)

    -- a part of the rest written
    pub left_next : {after : CodeWriter} → after ≡ wrote writer x → Left goal after y
    left_next w =
        let both : Fits writer (x ++ y) = subst (Fits writer) e q.fits in
        subst (λ (z : CodeWriter). Left goal z y) (sym w)
        (record { fits = fits_second writer x y both; left = wrote_next writer x y both ∙ ap (wrote writer) (sym e) ∙ q.left })

  -- all written
  pub left_done : rest ≡ [] → writer ≡ goal
  left_done e = sym (wrote_none writer) ∙ ap (wrote writer) (sym e) ∙ q.left

-- ---- a reference, by its form and value

module _ (f v : ℕ) where
  -- the reference's bytes are these
  module _ {bytes : List ℕ} (same : form_bytes f v ≡ bytes) where
    -- pushed, unsized and 0: the byte 5f alone
    pub reference_zero : push_zero_by_form f v ≡ true → bytes ≡ 95 ∷ []
    unfolding form_bytes
    reference_zero e = sym same ∙ rw e refl

    -- else the opcode and the value; n is the byte count as the code has it
    pub reference_parts : (n : ℕ) → push_zero_by_form f v ≡ false → n ≡ count_by_form f v → bytes ≡ opcode (leb 8 f) n ++ big_endian n v
    unfolding form_bytes
    reference_parts n e count = sym same ∙ rw (e, count) refl

  -- at most four bytes
  pub count_four : f % 8 ≤ 4 → count_by_form f v ≤ 4
  unfolding count_by_form
  count_four h = cond_case (λ (n : ℕ). n ≤ 4) (eqb (f % 8) 0) (held_bytes v) (f % 8) (λ _. held_le v) (λ _. h)

-- ---- a reference's value

module _ (table : List ℕ) (x : StoredSection) (ok : WritableReference table x) where
  -- a direct one
  pub value_one : x.kind ≡ direct_kind → (x.first < length table) × (entry table x.first ≡ value_words table x)
  unfolding value_words
  value_one k = (ok.marks.first ok.kind, rw (eq-eqb x.kind direct_kind k))

  -- a delta
  pub value_two : (x.kind ≡ direct_kind → ⊥)
      → (x.first < length table) × (x.second < length table) × (entry table x.first ≤ entry table x.second) × (entry table x.second - entry table x.first ≡ value_words table x)
  unfolding value_words backward_words
  value_two n =
      let above : direct_kind < x.kind = omega (arith, ok.kind) in
      let below = and-false (ltb direct_kind x.kind) (ltb (entry table x.second) (entry table x.first)) ok.forward (lt-ltb direct_kind x.kind above) in
      (ok.marks.first ok.kind, ok.marks.second above, ltb-false (entry table x.second) (entry table x.first) below, rw (ne_eqb x.kind direct_kind n))

-- ---- a value

-- the last bytes of a number's four
pub last_bytes : (n v : ℕ) → n ≤ 4 → take (4 - (4 - n)) (drop (4 - n) (to_be_bytes w32 v)) ≡ big_endian n v
unfolding big_endian
last_bytes zero v h = refl
last_bytes (suc zero) v h = refl
last_bytes (suc (suc zero)) v h = refl
last_bytes (suc (suc (suc zero))) v h = let two : v / 65536 ≡ v / 256 / 256 = omega arith in rw two refl
last_bytes (suc (suc (suc (suc zero)))) v h =
    let two : v / 65536 ≡ v / 256 / 256 = omega arith in
    let three : v / 16777216 ≡ v / 256 / 256 / 256 = omega arith in
    rw (two, three) refl
last_bytes (suc (suc (suc (suc (suc n))))) v h = absurd (omega arith)

-- ---- the sections

module _ (w : ℕ) (st : Store) (table : List ℕ) where
  -- the code of section i and those after it
  abbrev pub code_from : ℕ → List ℕ
  code_from i = code_of (entry table) (decode_from w st (st.sections - i) i)

  -- section i, of the words x, and those after it
  pub code_step : (i : ℕ) (x : StoredSection) → i < st.sections → x ≡ section_words w st i → code_from i ≡ words_bytes table st.bytes x ++ code_from (i + 1)
  unfolding decode_from decode_at in_a_row
  code_step i x h e =
      let k : st.sections - i ≡ suc (st.sections - (i + 1)) = omega arith in
      rw (k, e, add-one i)

  -- at the start all is
  pub code_all : code_of (entry table) (decode w st) ≡ code_from 0
  unfolding decode
  code_all = rw sub-zero refl

  -- after the last section none
  pub code_none : (i : ℕ) → st.sections ≤ i → code_from i ≡ []
  unfolding decode_from in_a_row
  code_none i h = let z : st.sections - i ≡ 0 = omega arith in rw z refl
