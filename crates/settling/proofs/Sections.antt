-- What the walks know of an undamaged store: its list of sections, section i by its words, and that no sum of sizes is large.
-- Assumes nothing.
use Rattle.std.specs.Prelude.{Some}
use Prim.Native.Nat.{ℕ, zero, suc, ◌+◌, ◌*◌, ◌≤◌, ◌<◌}
use native.Mathlib.Nat.{add-zero, zero-add, le_refl}
use native.Mathlib.Numerals.{add-one}
use native.Mathlib.Omega.{arith}
use mathlib.Core.Path.{◌≡◌, refl, sym, ap, ◌∙◌, subst}
use mathlib.Core.Bool.{Bool, true, cond, not}
use mathlib.Core.List.{List, [], ◌∷◌, ◌++◌}
use lib.Dec.{ltb}
use lib.ListN.{length, get_or, take}
use lib.Seq.{take_all}
use borrow.Author.Tests.{ne_eqb}
use Rattle.units.specs.Reference.{least_size, size}
use Rattle.units.proofs.Forms.{size_found}
use Rattle.units.specs.declared.AsmReference.{AsmReference}
use Rattle.records.specs.Record.{ops_kind, data_kind, direct_kind}
use Rattle.records.specs.Store.{Store, store_of, words_per_section, words_at, section_words}
use Rattle.records.specs.Damage.{is_span, end_before}
use Rattle.records.specs.Sections.{Section, mark, ops, bytes, reference, decode_at, decode_from, decode}
use Rattle.records.specs.declared.Assembler.{Assembler}
use Rattle.records.specs.declared.record.StoredSection.{StoredSection}
use Rattle.undamaged.specs.View.{Undamaged, Facts}
use Rattle.undamaged.specs.declared.store.UndamagedStore.{UndamagedStore}
use Rattle.undamaged.proofs.Soundness.{undamaged_iff}
use Rattle.undamaged.proofs.Sections.{decode_snoc, span_stored}
use Rattle.layout.specs.Passes.{value_by}
use Rattle.layout.specs.Conditions.{section_at, sum_of, stored_in, placed, short_at, unplaced_at, missing_at, delta_at, backward_at}
use Rattle.layout.proofs.Moves.{width_by}
use Rattle.layout.proofs.Apart.{least_before}
use Rattle.layout.proofs.WidthRule.{width_rule, size_five}
use Rattle.settling.specs.SectionWalk.{sections_of, sections_in, MarksFit, Whole, Fitting, short_words, MarksIn, missing_words, backward_words}
use Rattle.settling.proofs.SectionWords.{Words, mark_words, ops_words, data_words, direct_words, delta_words, words_read, size_section, short_words_lem, named_kind, missing_words_lem, backward_words_lem, delta_kind_lem, marks_in}

-- ---- the list

-- so many sections
length_decode : (w : ℕ) (st : Store) (k i : ℕ) → length (decode_from w st k i) ≡ k
unfolding decode_from
length_decode w st zero i = refl
length_decode w st (suc k) i = ap suc (length_decode w st k (suc i))

-- each is the store's
pub get_or_decode : (w : ℕ) (st : Store) (k i j : ℕ) → j < k → get_or (decode_from w st k i) j (mark 0) ≡ decode_at w st (i + j)
unfolding decode_from
get_or_decode w st zero i j l = absurd (omega arith)
get_or_decode w st (suc k) i zero l = rw add-zero
get_or_decode w st (suc k) i (suc j) l =
    let e : suc i + j ≡ i + suc j = omega arith in
    get_or_decode w st k (suc i) j (omega arith) ∙ ap (decode_at w st) e

-- the length of the list of sections
pub decode_count : (w : ℕ) (st : Store) → length (decode w st) ≡ st.sections
unfolding decode
decode_count w st = length_decode w st st.sections 0

-- section i of the list
pub decode_at_lem : (w : ℕ) (st : Store) (i : ℕ) → i < st.sections → section_at (decode w st) i ≡ decode_at w st i
unfolding decode
decode_at_lem w st i l = get_or_decode w st st.sections 0 i l ∙ ap (decode_at w st) (zero-add i)

-- ---- one section

-- an Ops or Data section ends within the byte slice
pub span_end : (w : ℕ) (st : Store) (i : ℕ) → Facts w st → i < st.sections → is_span (section_words w st i).kind ≡ true
    → (section_words w st i).second ≤ length st.bytes
span_end w st i f l s = omega (arith, span_stored w st i f l s, f.bytes_fit)

-- section i has its words
words_at_lem : (w : ℕ) (st : Store) (i : ℕ) → Facts w st → i < st.sections → Words (section_words w st i) (decode_at w st i)
unfolding decode_at
words_at_lem w st i f l = words_read st.bytes (section_words w st i) (f.readable i l) (span_end w st i f l)

-- its stored bytes lead from the last end before it to the next
stored_next : {x : StoredSection} {s : Section} (at : ℕ) → Words x s → (is_span x.kind ≡ true → x.first ≡ at) → at + stored_in s ≡ cond (is_span x.kind) x.second at
stored_next {x} at (mark_words f) h = rw f (add-zero at)
stored_next {x} at (ops_words f l bs d) h = rw f (omega (arith, h (ap is_span f)))
stored_next {x} at (data_words f l bs d) h = rw f (omega (arith, h (ap is_span f)))
stored_next {x} at (direct_words f s p g) h = rw f (add-zero at)
stored_next {x} at (delta_words l s p g) h =
    rw (ne_eqb x.kind ops_kind (λ e. omega arith), ne_eqb x.kind data_kind (λ e. omega arith)) (add-zero at)

-- the stored bytes of the first k sections end at the last end
stored_first : (w : ℕ) (st : Store) (k : ℕ) → Facts w st → k ≤ st.sections → sum_of stored_in (decode_from w st k 0) ≡ end_before w st k
unfolding sum_of decode_from end_before
stored_first w st zero f l = refl
stored_first w st (suc k) f l =
    ap (sum_of stored_in) (decode_snoc w st k 0 ∙ ap (λ (n : ℕ). decode_from w st k 0 ++ (decode_at w st n ∷ [])) (zero-add k))
    ∙ sum-snoc stored_in (decode_from w st k 0) (decode_at w st k)
    ∙ ap (λ (n : ℕ). n + stored_in (decode_at w st k)) (stored_first w st k f (omega arith))
    ∙ stored_next (end_before w st k) (words_at_lem w st k f l) (f.starts k l)
  where
    sum-snoc : (g : Section → ℕ) (xs : List Section) (x : Section) → sum_of g (xs ++ (x ∷ [])) ≡ sum_of g xs + g x
    sum-snoc g [] x = omega arith
    sum-snoc g (y ∷ xs) x = omega (arith, sum-snoc g xs x)

-- the stored bytes of the list are the stored count
pub stored_is : (w : ℕ) (st : Store) → Undamaged w st → sum_of stored_in (decode w st) ≡ st.stored_bytes
unfolding decode
stored_is w st u =
    let f = (undamaged_iff w st).0 u in
    stored_first w st st.sections f (le_refl st.sections) ∙ f.ends

-- ---- sums

-- one more section
pub sum_next : (f : Section → ℕ) (ss : List Section) (i : ℕ) → i < length ss → sum_of f (take (i + 1) ss) ≡ sum_of f (take i ss) + f (section_at ss i)
unfolding sum_of
sum_next f ss i l = rw (add-one i) (go ss i l)
  where
    go : (xs : List Section) (j : ℕ) → j < length xs → sum_of f (take (suc j) xs) ≡ sum_of f (take j xs) + f (section_at xs j)
    go [] j k = absurd (omega arith)
    go (x ∷ xs) zero k = omega arith
    go (x ∷ xs) (suc j) k = omega (arith, go xs j (omega arith))

-- more sections, a greater sum
pub sum_mono : (f : Section → ℕ) (ss : List Section) (j i : ℕ) → j ≤ i → sum_of f (take j ss) ≤ sum_of f (take i ss)
unfolding sum_of
sum_mono f ss zero i l = omega arith
sum_mono f ss (suc j) zero l = absurd (omega arith)
sum_mono f [] (suc j) (suc i) l = omega arith
sum_mono f (s ∷ ss) (suc j) (suc i) l = omega (arith, sum_mono f ss j i (omega arith))

-- the sum of least sizes, with one section more
pub least_next : (ss : List Section) (i : ℕ) → i < length ss → least_before ss (i + 1) ≡ least_before ss i + width_by least_size (section_at ss i)
least_next ss i l = sum_next (width_by least_size) ss i l

-- no size is above 5
pub size_small : (r : AsmReference) (v : ℕ) → size r v ≤ 5
size_small r v = omega (arith, width_rule.at_most r v, size_five r)

-- nor is a least size
pub least_small : (r : AsmReference) → least_size r ≤ 5
least_small r = omega (arith, width_rule.at_least r 0, size_small r 0)

-- a sum of sizes before section i: at most the stored bytes before it and five bytes for each section
abbrev pub Room : List Section → ℕ → ℕ → Type 0
Room ss i sum = sum ≤ sum_of stored_in (take i ss) + 5 * i

module _ (ss : List Section) (i : ℕ) (sum : ℕ) (l : i < length ss) (h : Room ss i sum) where
  -- one more section, of at most its stored bytes and five more
  room_next : (x : ℕ) → x ≤ stored_in (section_at ss i) + 5 → Room ss (i + 1) (sum + x)
  room_next x w = omega (arith, sum_next stored_in ss i l)

  pub room_mark : Room ss (i + 1) sum
  room_mark = omega (arith, room_next 0 (omega arith))

  pub room_least : Room ss (i + 1) (sum + width_by least_size (section_at ss i))
  room_least = room_next (width_by least_size (section_at ss i)) (go (section_at ss i))
    where
      go : (s : Section) → width_by least_size s ≤ stored_in s + 5
      go (mark m) = omega arith
      go (ops bs) = omega arith
      go (bytes bs) = omega arith
      go (reference r) = omega (arith, least_small r)

  pub room_size : (offset : ℕ → ℕ) (n : ℕ) → size_section offset (section_at ss i) ≡ Some n → Room ss (i + 1) (sum + n)
  room_size offset n e = room_next n (go (section_at ss i) e)
    where
      go : (s : Section) → size_section offset s ≡ Some n → n ≤ stored_in s + 5
      go (mark m) k = let z : n ≡ 0 = cc in omega arith
      go (ops bs) k = let z : n ≡ length bs = cc in omega arith
      go (bytes bs) k = let z : n ≡ length bs = cc in omega arith
      go (reference r) k =
          let v : ℕ = value_by offset r.mark_ref in
          omega (arith, size_small r v, (size_found r v n k).1)

-- ---- for a walk over an undamaged store

-- x are the words of section i of the list
pub record Turn (ss : List Section) (i : ℕ) (x : StoredSection) : Type 0 where
  pub below : i < length ss
  pub words : Words x (section_at ss i)

-- the code's test for 7
pub short_test : (n : ℕ) (ss : List Section) (i : ℕ) (x : StoredSection) → Turn ss i x → short_words n x ≡ short_at n ss i
unfolding short_at
short_test n ss i x t = short_words_lem n t.words

-- 8, 17 and 18 are of a reference
pub unplaced_kind : (ss : List Section) (i : ℕ) (x : StoredSection) → Turn ss i x → unplaced_at ss i ≡ true → direct_kind ≤ x.kind
unfolding unplaced_at
unplaced_kind ss i x t h = named_kind (λ m. not (placed ss m)) t.words h

-- and which of them, by whether its first mark is placed
pub missing_test : (ss : List Section) (i : ℕ) (x : StoredSection) → Turn ss i x → unplaced_at ss i ≡ true
    → (startPlaced : Bool) → startPlaced ≡ placed ss x.first → missing_words startPlaced x ≡ missing_at ss i
unfolding missing_at
missing_test ss i x t h startPlaced e =
    ap (λ (b : Bool). missing_words b x) e ∙ missing_words_lem (placed ss) t.words (unplaced_kind ss i x t h)

-- the code's test for 12
pub backward_test : (table : List ℕ) (ss : List Section) (i : ℕ) (x : StoredSection) → Turn ss i x → backward_words table x ≡ backward_at table ss i
unfolding backward_at
backward_test table ss i x t = backward_words_lem table t.words

-- and of a delta
pub delta_test : (ss : List Section) (i : ℕ) (x : StoredSection) → Turn ss i x → ltb direct_kind x.kind ≡ delta_at ss i
unfolding delta_at
delta_test ss i x t = delta_kind_lem t.words

module _ (store : Assembler) (held words : List ℕ) (u : Whole store held words) where
  abbrev facts : Facts words_per_section (store_of store held words)
  facts = (undamaged_iff words_per_section (store_of store held words)).0 u

  -- the words of section i lie in the slice
  pub words_fit_lem : (i : ℕ) → i < store.sections → words_per_section * (i + 1) ≤ length words
  words_fit_lem i l = omega (arith, facts.words_fit)

  -- the words that the code has are those of section i
  pub turn : (i : ℕ) (x : StoredSection) → i < store.sections → x ≡ words_at words_per_section words i → Turn (sections_of store held words) i x
  turn i x l e =
      let st = store_of store held words in
      record {
        below = omega (arith, decode_count words_per_section st);
        words = subst (Words x) (sym (decode_at_lem words_per_section st i l)) (subst (λ (y : StoredSection). Words y (decode_at words_per_section st i)) (sym e) (words_at_lem words_per_section st i facts l));
      }

  -- no sum of sizes is large
  pub room_small : (i sum : ℕ) → Room (sections_of store held words) i sum → i ≤ store.sections → sum ≤ 22020096
  room_small i sum h l =
      let ss = sections_of store held words in
      let st = store_of store held words in
      let n = decode_count words_per_section st in
      let all : sum_of stored_in (take (length ss) ss) ≡ sum_of stored_in ss = ap (sum_of stored_in) (take_all (length ss) ss (le_refl (length ss))) in
      omega (arith, sum_mono stored_in ss i (length ss) (omega arith), stored_is words_per_section st u, facts.bytes_limit, facts.sections_limit)

-- and, by a table that has an entry for each mark, its marks are in the table
pub turn_in : (store : Assembler) (held words : List ℕ) (n : ℕ) → Fitting store held words n → (i : ℕ) (x : StoredSection) → Turn (sections_of store held words) i x → MarksIn n x
turn_in store held words n f i x t = marks_in n x (short_test n (sections_of store held words) i x t ∙ f.in_table i t.below)

-- ---- for a walk over a store that was found undamaged

-- so many sections
pub sections_count : (store : UndamagedStore) → length (sections_in store) ≡ store.counts.sections
sections_count store = decode_count words_per_section (store_of store.counts store.bytes.now store.words.now)

-- the words that the code reads are those of section i
pub turn_at : (store : UndamagedStore) (i : ℕ) (x : StoredSection) → i < store.counts.sections
    → (i < store.counts.sections → x ≡ words_at words_per_section store.words.now i) → Turn (sections_in store) i x
turn_at store i x l e = turn store.counts store.bytes.now store.words.now store.undamaged i x l (e l)

-- no sum of sizes is large
pub sums_small : (store : UndamagedStore) (i sum : ℕ) → Room (sections_in store) i sum → i ≤ store.counts.sections → sum ≤ 22020096
sums_small store i sum h l = room_small store.counts store.bytes.now store.words.now store.undamaged i sum h l

-- the marks of a section are in a table that fits all
pub marks_fit : (n : ℕ) (ss : List Section) (i : ℕ) (x : StoredSection) → MarksFit ss n → Turn ss i x → MarksIn n x
marks_fit n ss i x f t = marks_in n x (short_test n ss i x t ∙ f i t.below)

-- its sections, where its parts are those of a store
pub sections_same : (store : UndamagedStore) (counts : Assembler) (held words : List ℕ)
    → (store.counts ≡ counts) × (store.bytes.now ≡ held) × (store.words.now ≡ words) → sections_in store ≡ sections_of counts held words
sections_same store counts held words same =
    ap (λ (x : Assembler). sections_of x store.bytes.now store.words.now) same.0
    ∙ ap (λ (x : List ℕ). sections_of counts x store.words.now) same.1
    ∙ ap (sections_of counts held) same.2
