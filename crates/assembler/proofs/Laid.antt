-- What is known where the settling of a store laid its sections out: the store is undamaged, the table has an entry for every mark, the
-- last pass stood still, and the code can be written. Assumes nothing.
use Prim.Native.Nat.{ℕ, ◌+◌, ◌*◌, ◌-◌, ◌≤◌, ◌<◌}
use native.Mathlib.Omega.{arith}
use native.Mathlib.Nat.{zero-add}
use mathlib.Core.Path.{◌≡◌, refl, sym, ap, ◌∙◌, subst}
use mathlib.Core.List.{List}
use lib.ListN.{length}
use Rattle.units.specs.Reply.{Reply, accepted, refused}
use Rattle.records.specs.Store.{Store, section_words}
use Rattle.records.specs.Damage.{whole_soundness}
use Rattle.records.specs.Sections.{Section, decode_at, decode}
use Rattle.records.specs.Damage.{Soundness}
use Rattle.records.specs.Damage.{Sound, Damaged}
use Rattle.records.specs.declared.record.StoredSection.{StoredSection}
use Rattle.layout.specs.Passes.{entry, settled, settle}
use Rattle.layout.specs.Conditions.{Never, short_at, backward_at, references}
use Rattle.layout.specs.Answer.{Answer, laid_out, no_layout, answer, Says, Laid}
use Rattle.layout.proofs.Answers.{settle_law, answer_law}
use Rattle.layout.proofs.Moves.{Still}
use Rattle.layout.proofs.Rule.{Sizes}
use Rattle.layout.proofs.WidthRule.{width_rule}
use Rattle.undamaged.specs.View.{Undamaged, Facts}
use Rattle.undamaged.proofs.Soundness.{undamaged_iff}
use Rattle.undamaged.proofs.Sections.{section_held}
use Rattle.settling.specs.Settle.{Settlement, settlement, settling}
use Rattle.settling.proofs.SectionWords.{Words, words_read, marks_in}
use Rattle.settling.proofs.Sections.{decode_count, decode_at_lem, span_end, stored_is, Turn, short_test, backward_test}
use Rattle.assembler.specs.Emission.{code_of}
use Rattle.assembler.proofs.Lengths.{length_code}
use Rattle.layout.proofs.Places.{settled_still, still_sum, sizes_five}
use Rattle.assembler.specs.Assemble.{written, Outcome, assembly}
use Rattle.assembler.specs.Writing.{Writable}
use Rattle.assembler.proofs.Outcomes.{LaidBy, written_same, code_over, outcome_refused, laid_by, outcome_written, fits_law}

-- only an undamaged store is laid out
laid_sound : (w n : ℕ) (st : Store) (table : List ℕ) (size k : ℕ) → LaidBy w n st table size k
    → Undamaged w st × (answer n (decode w st) ≡ laid_out table size k)
unfolding settling
laid_sound w n st table size k e = go (whole_soundness w st) (answer n (decode w st)) refl refl e
  where
    go : (s : Soundness) (a : Answer) → whole_soundness w st ≡ s → answer n (decode w st) ≡ a → settlement n s a ≡ record { reply = written size k; table = table }
        → Undamaged w st × (answer n (decode w st) ≡ laid_out table size k)
    go (Damaged i) a h g f = let q = ap (λ (x : Settlement). x.reply) f in let z : ◌≡◌ {A = ℕ} 0 1 = cc in absurd (omega arith)
    go Sound (no_layout r) h g f = let q = ap (λ (x : Settlement). x.reply) f in let z : ◌≡◌ {A = ℕ} 0 1 = cc in absurd (omega arith)
    go Sound (laid_out t l p) h g f =
        let a : t ≡ table = ap (λ (x : Settlement). x.table) f in
        let b : l ≡ size = (written_same (ap (λ (x : Settlement). x.reply) f)).0 in
        let c : p ≡ k = (written_same (ap (λ (x : Settlement). x.reply) f)).1 in
        (h, cc)

-- the words of section i
turn_at : (w : ℕ) (st : Store) (i : ℕ) → Facts w st → i < st.sections → Turn (decode w st) i (section_words w st i)
unfolding decode_at
turn_at w st i f l =
    record {
      below = omega (arith, decode_count w st);
      words = subst (Words (section_words w st i)) (sym (decode_at_lem w st i l)) (words_read st.bytes (section_words w st i) (f.readable i l) (span_end w st i f l));
    }

-- where every mark has an entry and no delta is backward by the table, every section can be written
pub sections_writable : (w : ℕ) (st : Store) (table : List ℕ) → Facts w st → Never (decode w st) (short_at (length table) (decode w st))
    → Never (decode w st) (backward_at table (decode w st)) → (i : ℕ) → i < st.sections → Writable st.bytes table (section_words w st i)
sections_writable w st table f marks forward i l =
    let ss : List Section = decode w st in
    let x : StoredSection = section_words w st i in
    let turn : Turn ss i x = turn_at w st i f l in
    record {
      here = section_held w st i f l;
      marks = marks_in (length table) x (short_test (length table) ss i x turn ∙ marks i turn.below);
      forward = backward_test table ss i x turn ∙ forward i turn.below;
    }

-- the code by a table by which a pass stands still is as long as the pass comes to
pub still_code : (ss : List Section) (table : List ℕ) (size : ℕ) → Still (Sizes width_rule) ss 0 (entry table) size
    → length (code_of (entry table) ss) ≡ size
still_code ss table size still = length_code (entry table) ss ∙ sym (still_sum (entry table) ss 0 size still ∙ zero-add _)

-- what is known
pub record LaidFacts (w n : ℕ) (st : Store) (table : List ℕ) (size k : ℕ) : Type 0 where
  pub undamaged : Undamaged w st
  pub facts : Facts w st
  pub says : Says n (decode w st) (laid_out table size k)
  pub settles : settle n (decode w st) ≡ settled table size k
  pub long : length table ≡ n
  pub still : Still (Sizes width_rule) (decode w st) 0 (entry table) size
  -- the length answered is the code's
  pub code_long : length (code_of (entry table) (decode w st)) ≡ size
  pub writable : (i : ℕ) → i < st.sections → Writable st.bytes table (section_words w st i)

-- it is known
pub laid : (w n : ℕ) (st : Store) (table : List ℕ) (size k : ℕ) → LaidBy w n st table size k → LaidFacts w n st table size k
laid w n st table size k e =
    let ss : List Section = decode w st in
    let known = laid_sound w n st table size k e in
    let u : Undamaged w st = known.0 in
    let f : Facts w st = (undamaged_iff w st).0 u in
    let s : Says n ss (laid_out table size k) = (answer_law n ss (laid_out table size k)).0 known.1 in
    let t : settle n ss ≡ settled table size k = (settle_law n ss (settled table size k)).1 s.1 in
    let q = settled_still n ss table size k s.0.0 t in
    record {
      undamaged = u;
      facts = f;
      says = s;
      settles = t;
      long = q.0;
      still = q.1;
      code_long = still_code ss table size q.1;
      writable = sections_writable w st table f (subst (λ (m : ℕ). Never ss (short_at m ss)) (sym q.0) s.0.0) s.2;
    }

-- a result with room for what is stored and five bytes for each reference
module _ (w : ℕ) (st : Store) (n : ℕ) (result : List ℕ) (position : ℕ)
    (in_result : position ≤ length result) (room : st.stored_bytes + 5 * references (decode w st) ≤ length result - position) where
  -- it isn't full, so what settling lays out is written
  pub room_written : (l : Laid) → (settling w n st).reply ≡ accepted l
      → assembly w st n result position
      ≡ record { reply = accepted l; table = (settling w n st).table; result = code_over w st n result position (settling w n st).table }
  room_written l e =
      let table : List ℕ = (settling w n st).table in
      let by = laid_by w st n result position l e in
      let known = laid w n st table l.length l.passes by in
      let sum = still_sum (entry table) (decode w st) 0 l.length known.still in
      outcome_written w st n result position table l.length l.passes by
      ((fits_law (length result) position l.length).1 (omega (arith, sum, sizes_five (entry table) (decode w st), stored_is w st known.undamaged)))

  -- and assembly answers what settling does
  pub room_answers : (assembly w st n result position).reply ≡ (settling w n st).reply
  room_answers = go (settling w n st).reply refl
    where
      go : (r : Reply Laid) → (settling w n st).reply ≡ r → (assembly w st n result position).reply ≡ (settling w n st).reply
      go (refused number i k) e = ap (λ (o : Outcome). o.reply) (outcome_refused w st n result position number i k e) ∙ sym e
      go (accepted l) e = ap (λ (o : Outcome). o.reply) (room_written l e) ∙ sym e
