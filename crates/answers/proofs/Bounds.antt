-- Every answer that is given comes back out of its number: passes at most 1,024, a code's length below 2^32, a text's below 2^56.
-- Assumes nothing.
use Prim.Native.Nat.{ℕ, suc, ◌+◌, ◌^◌, ◌<◌}
use native.Mathlib.Omega.{arith}
use mathlib.Core.Path.{◌≡◌, refl, sym, subst}
use mathlib.Core.Bool.{Bool, true, false, cond}
use mathlib.Core.List.{List, [], ◌∷◌}
use lib.Dec.{ltb}
use lib.ListN.{length}
use Rattle.units.specs.Reference.{too_narrow}
use Rattle.units.specs.Reply.{numbers_reply}
use Rattle.slices.proofs.Tests.{cond_case}
use Rattle.records.specs.Store.{Store}
use Rattle.records.specs.Sections.{Section, mark, ops, bytes, reference, decode}
use Rattle.records.specs.Damage.{whole_soundness}
use Rattle.records.specs.Damage.{Soundness}
use Rattle.records.specs.Damage.{Sound, Damaged}
use Rattle.undamaged.specs.View.{Undamaged}
use Rattle.undamaged.proofs.Soundness.{undamaged_iff, damaged_at_iff}
use Rattle.layout.specs.Passes.{entry, value_by, Walked, left_at, walk_from, pass}
use Rattle.layout.specs.Conditions.{direct_mark, delta_start, delta_end}
use Rattle.layout.specs.Answer as layout
use Rattle.layout.specs.Answer.{laid_out, no_layout, Says}
use Rattle.settling.specs.Settle.{settling}
use Rattle.settling.specs.SettlingAnswers as settled
use Rattle.settling.specs.SettlingAnswers.{SettlingAnswer, settling_reply, SettlingSays}
use Rattle.tables.specs.TableTests as tests
use Rattle.tables.specs.TableAnswers.{TableSays}
use Rattle.tables.proofs.TableLaws.{accepts_still}
use Rattle.settling.proofs.Sections.{decode_count}
use Rattle.layout.proofs.Places.{still_sum, sizes_five}
use Rattle.assembler.specs.Assemble.{assembly}
use Rattle.assembler.specs.AssemblyAnswers as answer
use Rattle.assembler.specs.AssemblyAnswers.{AssemblyAnswer, assembly_reply, AnswerSays}
use Rattle.settling.proofs.Decoded.{stored_small}
use Rattle.settling.proofs.SettlingLaw.{sound_answered, settling_answers, settling_law}
use Rattle.assembler.specs.Write.{write_by}
use Rattle.assembler.specs.WriteAnswers as wrote
use Rattle.assembler.specs.WriteAnswers.{WriteAnswer, write_reply, WriteSays}
use Rattle.assembler.proofs.Laid.{laid}
use Rattle.assembler.proofs.WriteLaws.{write_answers, write_law}
use Rattle.assembler.proofs.AssemblyAnswers.{assembly_answers, assembly_law}
use Rattle.listing.specs.Listing.{listing}
use Rattle.listing.specs.Answer.{reply_for, listing_reply}
use Rattle.listing.proofs.Every.{listing_short}
use Rattle.numbers.proofs.Bounds.{whole_section}
use Rattle.answers.specs.Numbers.{AssembledPacks, ListedPacks}

-- ---- settling and assembly

-- a walk is left at one of the sections
walk_below : (ss : List Section) (i sum : ℕ) (moved : Bool) (table : List ℕ) (j : ℕ) → walk_from ss i sum moved table ≡ left_at j → j < i + length ss
unfolding walk_from
walk_below [] i sum moved table j e = let z : ◌≡◌ {A = ℕ} 0 1 = cc in absurd (omega arith)
walk_below (mark m ∷ ss) i sum moved table j e = omega (arith, walk_below ss (suc i) _ _ _ j e)
walk_below (ops bs ∷ ss) i sum moved table j e = omega (arith, walk_below ss (suc i) _ _ _ j e)
walk_below (bytes bs ∷ ss) i sum moved table j e = omega (arith, walk_below ss (suc i) _ _ _ j e)
walk_below (reference r ∷ ss) i sum moved table j e =
    go (too_narrow r (value_by (entry table) r.mark_ref)) _ (walk_below ss (suc i) _ moved table j) e
  where
    go : (b : Bool) (rest : Walked) → (rest ≡ left_at j → j < suc i + length ss) → cond b (left_at i) rest ≡ left_at j → j < i + suc (length ss)
    go true rest below q = let same : i ≡ j = cc in omega arith
    go false rest below q = omega (arith, below q)

-- a refusal of a layout over at most 2^32 - 1 sections
layout_packs : (n : ℕ) (ss : List Section) (r : layout.LayoutRefusal) → length ss < 2 ^ 32 → Says n ss (no_layout r)
    → AssembledPacks (numbers_reply (layout.layout_numbers r))
unfolding pass
layout_packs n ss (layout.short_table i) l h = (omega arith, (omega arith, omega arith, omega (arith, h.0)))
layout_packs n ss (layout.unplaced direct_mark i) l h = (omega arith, (omega arith, omega arith, omega (arith, h.1.0)))
layout_packs n ss (layout.unplaced delta_start i) l h = (omega arith, (omega arith, omega arith, omega (arith, h.1.0)))
layout_packs n ss (layout.unplaced delta_end i) l h = (omega arith, (omega arith, omega arith, omega (arith, h.1.0)))
layout_packs n ss (layout.placed_apart i) l h = (omega arith, (omega arith, omega arith, omega (arith, h.2.0)))
layout_packs n ss (layout.too_narrow i k) l h =
    (omega arith, (omega arith, omega (arith, h.1.3), omega (arith, walk_below ss 0 0 false h.1.1 i h.1.5)))
layout_packs n ss layout.unsettled l h = (omega arith, (omega arith, omega arith, omega arith))
layout_packs n ss (layout.backward i k) l h = (omega arith, (omega arith, omega (arith, h.3.3), omega (arith, h.4.0)))

module _ (w : ℕ) (st : Store) (n : ℕ) where
  -- the sections of an undamaged store
  sections_below : Undamaged w st → length (decode w st) < 2 ^ 32
  sections_below u = omega (arith, decode_count w st, ((undamaged_iff w st).0 u).sections_limit)

  -- a code's length
  code_below : (table : List ℕ) (size k : ℕ) → Undamaged w st → Says n (decode w st) (laid_out table size k) → size < 2 ^ 32
  code_below table size k u says =
      let settles = sound_answered w n st (laid_out table size k) u says in
      let l = laid w n st table size k settles in
      omega (arith, still_sum (entry table) (decode w st) 0 size l.still, sizes_five (entry table) (decode w st), stored_small w st l.facts)

  -- each answer of settling in its condition
  settled_packs : (a : SettlingAnswer) → SettlingSays w st n a → AssembledPacks (settling_reply a)
  settled_packs (settled.laid_out size k) h =
      let says = h.2 in
      (omega arith, omega (arith, says.1.3), code_below h.0 size k h.1 says)
  settled_packs (settled.damaged i) h = (omega arith, (omega arith, omega arith, whole_section w st i ((damaged_at_iff w st i).1 h)))
  settled_packs (settled.no_layout r) h = layout_packs n (decode w st) r (sections_below h.0) h.1

  pub settling_packs : AssembledPacks (settling w n st).reply
  settling_packs =
      let given = settling_answers w n st in
      subst AssembledPacks (sym given.1) (settled_packs given.0 ((settling_law w n st given.0).0 given.1))

  -- each answer of assembly in its condition
  says_packs : (room position : ℕ) (a : AssemblyAnswer) → AnswerSays w st n room position a → AssembledPacks (assembly_reply a)
  says_packs room position (answer.written size k) h = settled_packs (settled.laid_out size k) h.0
  says_packs room position (answer.damaged i) h = settled_packs (settled.damaged i) h
  says_packs room position (answer.no_layout r) h = settled_packs (settled.no_layout r) h
  says_packs room position (answer.result_full k) h =
      let says = h.1.2 in
      (omega arith, (omega arith, omega (arith, says.1.3), omega arith))

  pub assembly_packs : (result : List ℕ) (position : ℕ) → AssembledPacks (assembly w st n result position).reply
  assembly_packs result position =
      let given = assembly_answers w st n result position in
      let says = (assembly_law w st n result position given.0).0 given.1 in
      subst AssembledPacks (sym given.1) (says_packs (length result) position given.0 says)

-- ---- the write

-- a refusal of a table over at most 2^32 - 1 sections
table_packs : (table : List ℕ) (ss : List Section) (r : tests.TableRefusal) → length ss < 2 ^ 32 → TableSays table ss (tests.refuses r)
    → AssembledPacks (numbers_reply (tests.table_numbers r))
table_packs table ss (tests.short_table i) l h = (omega arith, (omega arith, omega arith, omega (arith, h.0)))
table_packs table ss (tests.unplaced direct_mark i) l h = (omega arith, (omega arith, omega arith, omega (arith, h.1.0)))
table_packs table ss (tests.unplaced delta_start i) l h = (omega arith, (omega arith, omega arith, omega (arith, h.1.0)))
table_packs table ss (tests.unplaced delta_end i) l h = (omega arith, (omega arith, omega arith, omega (arith, h.1.0)))
table_packs table ss (tests.placed_apart i) l h = (omega arith, (omega arith, omega arith, omega (arith, h.2.0)))
table_packs table ss (tests.differs i) l h = (omega arith, (omega arith, omega arith, omega (arith, h.1.1.0)))
table_packs table ss (tests.too_narrow i) l h = (omega arith, (omega arith, omega arith, omega (arith, h.1.0)))
table_packs table ss (tests.backward i) l h = (omega arith, (omega arith, omega arith, omega (arith, h.3.0)))

module _ (w : ℕ) (st : Store) (table : List ℕ) where
  -- the length of a code by an accepted table
  written_below : (size : ℕ) → Undamaged w st → TableSays table (decode w st) (tests.accepts size) → size < 2 ^ 32
  written_below size u says =
      omega (arith, still_sum (entry table) (decode w st) 0 size (accepts_still table (decode w st) size says), sizes_five (entry table) (decode w st), stored_small w st ((undamaged_iff w st).0 u))

  -- each answer of a write in its condition
  wrote_packs : (room position : ℕ) (a : WriteAnswer) → WriteSays w st table room position a → AssembledPacks (write_reply a)
  wrote_packs room position (wrote.written size) h = (omega arith, omega arith, written_below size h.0.0 h.0.1)
  wrote_packs room position (wrote.damaged i) h = (omega arith, (omega arith, omega arith, whole_section w st i ((damaged_at_iff w st i).1 h)))
  wrote_packs room position (wrote.refuses r) h = table_packs table (decode w st) r (sections_below w st 0 h.0) h.1
  wrote_packs room position wrote.result_full h = (omega arith, (omega arith, omega arith, omega arith))

  pub write_packs : (result : List ℕ) (position : ℕ) → AssembledPacks (write_by w st table result position).reply
  write_packs result position =
      let given = write_answers w st table result position in
      let says = (write_law w st table result position given.0).0 given.1 in
      subst AssembledPacks (sym given.1) (wrote_packs (length result) position given.0 says)

-- ---- listings

pub listing_packs : (w : ℕ) (st : Store) (buffer : List ℕ) → ListedPacks (listing_reply w st buffer)
unfolding listing_reply
listing_packs w st buffer = go (whole_soundness w st) refl
  where
    go : (s : Soundness) → whole_soundness w st ≡ s → ListedPacks (reply_for s (listing (decode w st)) buffer)
    go (Damaged i) e = (omega arith, (omega arith, omega arith, whole_section w st i e))
    go Sound e =
        cond_case ListedPacks (ltb (length buffer) (length (listing (decode w st)))) _ _ (λ h. (omega arith, (omega arith, omega arith, omega arith)))
        (λ h. omega (arith, listing_short w st ((undamaged_iff w st).0 e)))
