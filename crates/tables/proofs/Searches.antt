-- The searches for 8, 17 or 18 and for 9 by a map of placed marks. The first: in the map of all sections are the marks that are placed. 9: a
-- mark that is in the map of those placed before the last section with bytes has these bytes between its placings. Assumes nothing.
use Prim.Native.Nat.{ℕ, ◌+◌, ◌*◌, ◌/◌, ◌%◌, ◌≤◌, ◌<◌}
use native.Mathlib.Nat.{div-eq_of_lt, eq-or-lt_of_le}
use native.Mathlib.Omega.{arith}
use mathlib.Core.Path.{◌≡◌, refl, sym, ◌∙◌, ap, subst}
use mathlib.Core.Bool.{Bool, true, false, not}
use mathlib.Core.Logic.{◌↔◌, ◌⊎◌, inl, inr, ⊎_elim}
use mathlib.Core.List.{List}
use lib.Dec.{leb, ltb}
use lib.ListN.{length, take, replicate, get_or-eq_default}
use lib.Pow.{pow_pos}
use lib.Seq.{take_all, length-take-le, get_or-take}
use borrow.Author.Tests.{ltb-true, ltb-false, lt-leb, le-leb, eqb-true, ne_eqb}
use Rattle.slices.proofs.First.{NoneBefore, search_start, search_next}
use Rattle.slices.proofs.Tests.{clash}
use Rattle.records.specs.Record.{mark_kind, direct_kind}
use Rattle.records.specs.Sections.{Section, mark}
use Rattle.records.specs.Store.{words_per_section, words_at}
use Rattle.undamaged.specs.declared.store.UndamagedStore.{UndamagedStore}
use Rattle.records.specs.declared.record.StoredSection.{StoredSection}
use Rattle.layout.specs.Conditions.{section_at, Never, names_some, placed, short_at, unplaced_at, has_bytes, apart_at}
use Rattle.layout.specs.ConditionLaws.{HasBytes, BytesBetween}
use Rattle.layout.proofs.Apart.{placed_law}
use Rattle.layout.proofs.ConditionLaws.{bytes_law, condition_laws}
use Rattle.settling.specs.SectionWalk.{sections_in, MarksFit, MarksIn}
use Rattle.settling.proofs.SectionWords.{Words, mark_words, ops_words, data_words, direct_words, delta_words, named_words}
use Rattle.settling.proofs.Sections.{Turn, turn_at, marks_fit, sections_count}
use Rattle.settling.proofs.FirstPlacings.{names_same, none_unplaced}
use Rattle.tables.specs.MarkMap.{digit, in_map, Marked, Covers}
use Rattle.tables.specs.TableWalk.{unplaced_by, bytes_words}
use Rattle.tables.proofs.MarkMaps.{marked_start}
use Rattle.tables.proofs.Turns.{turn_max, marks_covered}

-- ---- a section by its words

module _ {x : StoredSection} where
  -- no mark that it names is at or past n
  named_in : (n : ℕ) {s : Section} → MarksIn n x → Words x s → names_some (leb n) s ≡ false
  named_in n a (mark_words f) = refl
  named_in n a (ops_words f l bs d) = refl
  named_in n a (data_words f l bs d) = refl
  named_in n a (direct_words f s p g) = lt-leb n x.first (a.first (omega arith))
  named_in n a (delta_words l s p g) = rw (lt-leb n x.first (a.first (omega arith)), lt-leb n x.second (a.second l))

  -- it has bytes
  pub bytes_words_lem : {s : Section} → Words x s → bytes_words x ≡ has_bytes s
  unfolding bytes_words
  bytes_words_lem (mark_words f) = rw f
  bytes_words_lem (ops_words f l bs d) = rw f (ap (ltb 0) (sym d))
  bytes_words_lem (data_words f l bs d) = rw f (ap (ltb 0) (sym d))
  bytes_words_lem (direct_words f s p g) = rw f
  bytes_words_lem (delta_words l s p g) = rw (ne_eqb x.kind mark_kind (λ e. omega arith), le-leb direct_kind x.kind (omega arith))

-- where a table has an entry for each mark, a map that covers the table has room for the marks of each section
pub turn_covered : (store : UndamagedStore) (n room : ℕ) → MarksFit (sections_in store) n → Covers n room
    → (i : ℕ) (x : StoredSection) → i < store.counts.sections → (i < store.counts.sections → x ≡ words_at words_per_section store.words.now i) → MarksIn (8 * room) x
turn_covered store n room f covers i x l e =
    marks_covered n room x covers (marks_fit n (sections_in store) i x f (turn_at store i x l e)) (turn_max store i x l e)

-- ---- 8, 17 and 18

-- a map has room for a mark that is in it
in_room : (map : List ℕ) (m : ℕ) → in_map map m ≡ true → m < 8 * length map
unfolding in_map
in_room map m h = go (ltb m (8 * length map)) refl
  where
    go : (q : Bool) → ltb m (8 * length map) ≡ q → m < 8 * length map
    go true e = ltb-true m (8 * length map) e
    go false e =
        let past : length map ≤ m / 8 = omega (arith, ltb-false m (8 * length map) e) in
        let bit : digit 0 (m % 8) ≡ 1 = ap (λ (b : ℕ). digit b (m % 8)) (sym (get_or-eq_default map 0 past)) ∙ eqb-true _ 1 h in
        absurd (omega (arith, bit, div-eq_of_lt (pow_pos (m % 8))))

module _ (ss : List Section) (n : ℕ) (map : List ℕ) (h : Marked ss n map) (count : length ss ≡ n) where
  -- the marks in the map of all sections are placed, and no other
  pub in_placed : (m : ℕ) → m < 8 * length map → in_map map m ≡ placed ss m
  in_placed m l = h m l ∙ ap (λ (x : List Section). placed x m) (take_all n ss (omega arith))

  -- one of the three of one section, as the code tests it
  pub unplaced_by_lem : (i : ℕ) (x : StoredSection) → Turn ss i x → MarksIn (8 * length map) x → unplaced_by map x ≡ unplaced_at ss i
  unfolding unplaced_by unplaced_at
  unplaced_by_lem i x t a =
      let out : ℕ → Bool = λ m. not (in_map map m) in
      let absent : ℕ → Bool = λ m. not (placed ss m) in
      let same : (m : ℕ) → m < 8 * length map → out m ≡ absent m = λ m l. ap not (in_placed m l) in
      named_words out t.words ∙ names_same (8 * length map) out absent (section_at ss i) same (named_in (8 * length map) a t.words)

  -- where every mark that a table of length k has an entry for is in the map, it is never said
  pub all_in : (k : ℕ) → Never ss (short_at k ss) → ((m : ℕ) → m < k → in_map map m ≡ true) → Never ss (unplaced_at ss)
  all_in k in_table every = none_unplaced k ss in_table (λ m l. sym (in_placed m (in_room map m (every m l))) ∙ every m l)

-- so of a section's words in an undamaged store, whose marks the table has entries for
pub code_unplaced : (store : UndamagedStore) (n room : ℕ) (map : List ℕ) → MarksFit (sections_in store) n → Covers n room → length map ≡ room
    → Marked (sections_in store) store.counts.sections map → (i : ℕ) (x : StoredSection) → i < store.counts.sections
    → (i < store.counts.sections → x ≡ words_at words_per_section store.words.now i) → unplaced_by map x ≡ unplaced_at (sections_in store) i
code_unplaced store n room map f covers long h i x l e =
    unplaced_by_lem _ _ map h (sections_count store) i x (turn_at store i x l e)
    (subst (λ (k : ℕ). MarksIn (8 * k) x) (sym long) (turn_covered store n room f covers i x l e))

-- ---- 9

-- a mark is placed before section i
placed_before : (ss : List Section) (i m : ℕ) → i ≤ length ss → (placed (take i ss) m ≡ true) ↔ ((j : ℕ) × (j < i) × (section_at ss j ≡ mark m))
placed_before ss i m l = (there, back)
  where
    there : placed (take i ss) m ≡ true → (j : ℕ) × (j < i) × (section_at ss j ≡ mark m)
    there h =
        let q = (placed_law (take i ss) m).0 h in
        let below : q.0 < i = omega (arith, q.1, length-take-le i ss l) in
        (q.0, below, sym (get_or-take i ss q.0 (mark 0) below) ∙ q.2)

    back : (j : ℕ) × (j < i) × (section_at ss j ≡ mark m) → placed (take i ss) m ≡ true
    back (j, k, e) = (placed_law (take i ss) m).1 (j, omega (arith, length-take-le i ss l), get_or-take i ss j (mark 0) k ∙ e)

-- the search has come to section i: `run` is the last section with bytes before it, 0 if there is none, and the map has the marks placed
-- before that
pub record Searched (ss : List Section) (i run : ℕ) (map : List ℕ) : Type 0 where
  pub before : run ≤ i
  pub marked : Marked ss run map
  pub held : (run ≡ 0) ⊎ HasBytes (section_at ss run)
  pub last : (k : ℕ) → run < k → k < i → HasBytes (section_at ss k) → ⊥
  pub together : NoneBefore (apart_at ss) i

pub searched_start : (ss : List Section) (map : List ℕ) → map ≡ replicate (length map) 0 → Searched ss 0 0 map
searched_start ss map e =
    record { before = omega arith; marked = marked_start ss map e; held = inl refl; last = λ k a b. absurd (omega arith); together = search_start (apart_at ss) }

module _ (ss : List Section) (i run : ℕ) (map : List ℕ) (l : i < length ss) (h : Searched ss i run map) where
  -- a mark at section i, which the map has room for
  module _ (m : ℕ) (e : section_at ss i ≡ mark m) (b : m < 8 * length map) where
    -- where anything is before `run`, there are bytes at `run`, and they are before the mark
    run_held : (j : ℕ) → j < run → (run < i) × HasBytes (section_at ss run)
    run_held j k = go h.held
      where
        go : (run ≡ 0) ⊎ HasBytes (section_at ss run) → (run < i) × HasBytes (section_at ss run)
        go (inl z) = absurd (omega arith)
        go (inr s) =
            let other : run ≡ i → ⊥ = λ d. subst HasBytes (ap (section_at ss) d ∙ e) s in
            (omega (arith, other, h.before), s)

    -- in the map, it was placed before these bytes
    apart_in : in_map map m ≡ true → apart_at ss i ≡ true
    apart_in found =
        let q = (placed_before ss run m (omega (arith, h.before))).0 (sym (h.marked m b) ∙ found) in
        let r = run_held q.0 q.1 in
        ((condition_laws ss).apart_iff i l).1 (m, q.0, (l, e), (omega (arith, q.1, r.0), q.2), omega (arith, q.1, r.0), (run, q.1, r.0, r.1))

    -- not in the map, it was placed after all bytes or never
    apart_out : in_map map m ≡ false → apart_at ss i ≡ false
    apart_out missing = go (apart_at ss i) refl
      where
        parted : (a j : ℕ) → section_at ss i ≡ mark a → section_at ss j ≡ mark a → BytesBetween ss j i → ⊥
        parted a j at aj (k, jk, ki, s) =
            let same : a ≡ m = cc in
            let later : run < k → ⊥ = λ d. h.last k d ki s in
            let held : k ≤ run = omega (arith, later) in
            clash (in_map map m) (h.marked m b ∙ (placed_before ss run m (omega (arith, h.before))).1 (j, omega arith, aj ∙ ap mark same)) missing

        go : (q : Bool) → apart_at ss i ≡ q → apart_at ss i ≡ false
        go true t = let (a, j, pi, pj, k, between) = ((condition_laws ss).apart_iff i l).0 t in absurd (parted a j pi.1 pj.1 between)
        go false t = t

    -- so 9 of a mark is whether it is in the map
    pub apart_by : in_map map m ≡ apart_at ss i
    apart_by = go (in_map map m) refl
      where
        go : (q : Bool) → in_map map m ≡ q → in_map map m ≡ apart_at ss i
        go true t = t ∙ sym (apart_in t)
        go false t = t ∙ sym (apart_out t)

  -- a section without bytes
  pub next_empty : has_bytes (section_at ss i) ≡ false → apart_at ss i ≡ false → Searched ss (i + 1) run map
  next_empty s a =
      record {
        before = omega (arith, h.before);
        marked = h.marked;
        held = h.held;
        last = last;
        together = search_next (apart_at ss) i h.together a;
      }
    where
      last : (k : ℕ) → run < k → k < i + 1 → HasBytes (section_at ss k) → ⊥
      last k c d t =
          ⊎_elim
          (λ (q : k ≡ i). clash (has_bytes (section_at ss i)) ((bytes_law (section_at ss i)).1 (subst (λ (x : ℕ). HasBytes (section_at ss x)) q t)) s)
          (λ (q : k < i). h.last k c q t)
          (eq-or-lt_of_le (omega arith))

  -- a section with bytes: the map has the marks placed before it now
  pub next_bytes : (map' : List ℕ) → has_bytes (section_at ss i) ≡ true → apart_at ss i ≡ false → Marked ss i map' → Searched ss (i + 1) i map'
  next_bytes map' s a marked =
      record {
        before = omega arith;
        marked = marked;
        held = inr ((bytes_law (section_at ss i)).0 s);
        last = λ k c d. absurd (omega arith);
        together = search_next (apart_at ss) i h.together a;
      }
