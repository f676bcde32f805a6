-- Each pushed reference of a code is one push instruction that pushes its value, wherever the code stands in a result; and each
-- reference's value is where its marks are. For every settled table. Assumes nothing.
use Rattle.std.specs.Prelude.{None, Option, Some}
use Prim.Native.Nat.{ℕ, zero, suc, ◌+◌, ◌^◌, ◌≤◌, ◌<◌}
use native.Mathlib.Omega.{arith}
use native.Mathlib.Nat.{zero-add}
use mathlib.Core.Path.{◌≡◌, refl, sym, ◌∙◌, ap, ap₂, subst}
use mathlib.Core.Bool.{Bool, true, false, cond, not, false≢true}
use mathlib.Core.Logic.{inl, inr}
use mathlib.Core.List.{List, [], ◌∷◌, ◌++◌, map, append_assoc}
use mathlib.Core.Option.{some}
use lib.Dec.{eqb}
use lib.ListN.{length, get_or, take, drop, length-append, length-map, get_or-map}
use lib.Seq.{length-take-le, get_or-append_seam}
use borrow.Author.Tests.{eqb-true, eqb-false, ltb-false, not-false}
use Rattle.units.specs.declared.RefSize.{RefSize}
use Rattle.units.specs.Numbers.{held_bytes, number, big_endian}
use Rattle.units.specs.Reference.{ref_size_bytes, width, size, too_narrow}
use Rattle.units.specs.declared.MarkReference.{MarkReference}
use Rattle.units.specs.declared.MarkReference.TheVariants.{Direct, Delta}
use Rattle.units.specs.declared.AsmReference.{AsmReference}
use Rattle.units.proofs.BigEndian.{number_nil, length_big_endian, number_big_endian}
use Rattle.units.proofs.Held.{held_le}
use Rattle.units.proofs.Forms.{ref_size_le}
use Rattle.evm.specs.YellowPaper.{is_push, push_size, instruction_length, code_byte}
use Rattle.evm.proofs.Steps.{is_push_push, push_size_push}
use Rattle.records.specs.Sections.{Section, mark}
use Rattle.slices.specs.Over.{over}
use Rattle.evm.specs.Opcodes.{push_op}
use Rattle.instructions.proofs.Runs.{push_anywhere}
use Rattle.layout.specs.Layout.{total, HoldsIn}
use Rattle.layout.specs.Passes.{entry, value_by, size_by}
use Rattle.layout.specs.Conditions.{section_at, Never, some_mark, placed, unplaced_at, backward_by, backward_at}
use Rattle.layout.proofs.Moves.{Still}
use Rattle.slices.proofs.Tests.{or-false}
use Rattle.layout.proofs.Rule.{Sizes}
use Rattle.layout.proofs.WidthRule.{width_rule, size_holds}
use Rattle.assembler.specs.Emission.{opcode, reference_bytes, section_bytes, parts, in_a_row, code_of}
use Rattle.units.specs.Reference.{byte_count, is_push_zero}
use Rattle.assembler.specs.Pushes.{width_of, place_of, IsPlace, ValueHere, PushesAt, ReferencesHere}
use Rattle.assembler.proofs.Lengths.{part_lengths}
use Rattle.assembler.proofs.Rows.{row_split}
use Rattle.layout.proofs.Places.{StillAt, still_at, still_value}

-- ---- the bytes of a pushed reference

-- they are PUSHn and n bytes, whose number is the value
record Push (bs : List ℕ) (v : ℕ) : Type 0 where
  count : ℕ
  immediate : List ℕ
  is : bs ≡ push_op count ∷ immediate
  long : length immediate ≡ count
  few : count ≤ 32
  value : number immediate ≡ v

-- in n bytes
push_bytes : (n v : ℕ) → n ≤ 32 → v < 256 ^ n → Push (opcode true n ++ big_endian n v) v
push_bytes n v h l = record { count = n; immediate = big_endian n v; is = refl; long = length_big_endian n v; few = h; value = number_big_endian n v l }

-- PUSH0
push_none : (v : ℕ) → v ≡ 0 → Push (0x5f ∷ []) v
push_none v e = record { count = 0; immediate = []; is = refl; long = refl; few = omega arith; value = number_nil ∙ sym e }

-- so is every pushed reference whose size holds the value
push_reference_lem : (r : AsmReference) (v : ℕ) → r.pushed ≡ true → too_narrow r v ≡ false → v < 2 ^ 32 → Push (reference_bytes r v) v
unfolding reference_bytes size
push_reference_lem r v p narrow small = go r.set_size r.pushed p (size_holds r v small narrow)
  where
    unsized : (b : Bool) → eqb v 0 ≡ b → HoldsIn None true v (cond b 1 (held_bytes v + 1))
        → Push (cond b (0x5f ∷ []) (opcode true (held_bytes v) ++ big_endian (held_bytes v) v)) v
    unsized true e h = push_none v (eqb-true v 0 e)
    unsized false e (inl h) = absurd (eqb-false v 0 e h.1)
    unsized false e (inr h) = push_bytes (held_bytes v) v (omega (arith, held_le v)) (subst (λ (n : ℕ). v < 256 ^ n) (omega arith) h.2)

    go : (s : Option RefSize) (q : Bool) → q ≡ true → HoldsIn s q v (width s q v)
        → Push (cond (is_push_zero s q v) (0x5f ∷ []) (opcode q (byte_count s v) ++ big_endian (byte_count s v) v)) v
    go (Some s) true e h = push_bytes (ref_size_bytes s) v (omega (arith, ref_size_le s)) h.1
    go (Some s) false e h = absurd (false≢true e)
    go None true e h = unsized (eqb v 0) refl h
    go None false e h = absurd (false≢true e)

-- wherever such bytes stand, they are one instruction
push_stands : (before bs after : List ℕ) (v : ℕ) → Push bs v → PushesAt (before ++ (bs ++ after)) (length before) (length bs) v
unfolding instruction_length
push_stands before bs after v p =
    subst (λ (x : List ℕ). PushesAt (before ++ (x ++ after)) (length before) (length x) v) (sym p.is)
    (let op : ℕ = push_op p.count in
    let code : List ℕ = before ++ (op ∷ (p.immediate ++ after)) in
    let here : code_byte code (length before) ≡ op = get_or-append_seam before op (p.immediate ++ after) 0 in
    record {
      push = ap is_push here ∙ is_push_push p.count p.few;
      long = ap (λ (b : ℕ). 1 + push_size b) here ∙ omega (arith, push_size_push p.count p.few, p.long);
      pushes = λ stack room. push_anywhere before p.immediate after stack p.count p.long p.few room ∙ ap (λ (x : ℕ). some (x ∷ stack)) p.value;
    })

-- ---- one section of a code

-- the widths are the lengths of the parts
get_or_lengths : (ps : List (List ℕ)) (i : ℕ) → get_or (map length ps) i 0 ≡ length (get_or ps i [])
get_or_lengths [] i = refl
get_or_lengths (p ∷ ps) zero = refl
get_or_lengths (p ∷ ps) (suc i) = get_or_lengths ps i

-- section i's bytes in a result that holds the code from a position on
pub part_stands : (ss : List Section) (table old : List ℕ) (position i : ℕ) → position ≤ length old → i < length ss
    → (before : List ℕ) × (after : List ℕ) × (over old position (code_of (entry table) ss) ≡ before ++ (section_bytes (entry table) (section_at ss i) ++ after))
    × (length before ≡ position + place_of table ss i) × (length (section_bytes (entry table) (section_at ss i)) ≡ width_of table ss i)
part_stands ss table old position i h l =
    let ps : List (List ℕ) = parts (entry table) ss in
    let part : List ℕ = section_bytes (entry table) (section_at ss i) in
    let same : get_or ps i [] ≡ part = get_or-map (section_bytes (entry table)) ss i (mark 0) in
    let q = row_split ps i (omega (arith, length-map ss (section_bytes (entry table)))) in
    let rest : List ℕ = drop (position + length (in_a_row ps)) old in
    let row : in_a_row ps ≡ q.0 ++ (part ++ q.1) = q.2 ∙ ap (λ (x : List ℕ). q.0 ++ (x ++ q.1)) same in (
      take position old ++ q.0,
      q.1 ++ rest,
      ap (λ (x : List ℕ). take position old ++ (x ++ rest)) row
          ∙ ap (λ (x : List ℕ). take position old ++ x) (append_assoc q.0 (part ++ q.1) rest ∙ ap (λ (x : List ℕ). q.0 ++ x) (append_assoc part q.1 rest))
          ∙ sym (append_assoc (take position old) q.0 (part ++ (q.1 ++ rest))),
      length-append (take position old) q.0 ∙ ap₂ (λ (a b : ℕ). a + b) (length-take-le position old h) q.3,
      ap length (sym same) ∙ sym (get_or_lengths ps i),
    )

-- ---- values

module _ (ss : List Section) (table : List ℕ) (e : ℕ) (still : Still (Sizes width_rule) ss 0 (entry table) e) where
  -- each placing of a mark is at its entry
  at_place : (m : ℕ) → placed ss m ≡ true → IsPlace table ss m (entry table m)
  at_place m p = (
    p,
    λ j l is.
        let q : entry table m ≡ 0 + total (take j (map (size_by (entry table)) ss)) = subst (λ (s : Section). StillAt (entry table) s (0 + total (take j (map (size_by (entry table)) ss)))) is (still_at (entry table) ss 0 e still j l) in
        ap (λ (ws : List ℕ). total (take j ws)) (part_lengths (entry table) ss) ∙ sym (q ∙ zero-add _),
  )

  -- a reference whose marks are placed, and that isn't backward
  value_here : (r : MarkReference) → some_mark (λ m. not (placed ss m)) r ≡ false → backward_by table r ≡ false → ValueHere table ss r (value_by (entry table) r)
  value_here (Direct m) p b = at_place m.0 (not-false (placed ss m.0) p)
  value_here (Delta d) p b =
      let q = or-false (not (placed ss d.start.0)) (not (placed ss d.end.0)) p in (
        entry table d.start.0,
        entry table d.end.0,
        at_place d.start.0 (not-false (placed ss d.start.0) q.0),
        at_place d.end.0 (not-false (placed ss d.end.0) q.1),
        omega (arith, ltb-false (entry table d.end.0) (entry table d.start.0) b),
      )

  -- every reference of a code that stands in a result
  pub references_here : (old : List ℕ) (position : ℕ) → position ≤ length old → e < 2 ^ 32 → Never ss (unplaced_at ss) → Never ss (backward_at table ss)
      → ReferencesHere ss table (over old position (code_of (entry table) ss)) position
  unfolding unplaced_at backward_at
  references_here old position h small marks forward =
      record {
        pushed = λ i r l is p.
            let v : ℕ = value_by (entry table) r.mark_ref in
            let q = part_stands ss table old position i h l in
            let named : some_mark (λ m. not (placed ss m)) r.mark_ref ≡ false = rw is at (marks i l) in
            let narrow : too_narrow r v ≡ false = subst (λ (s : Section). StillAt (entry table) s (0 + total (take i (map (size_by (entry table)) ss)))) is (still_at (entry table) ss 0 e still i l) in
            let push : Push (section_bytes (entry table) (section_at ss i)) v = subst (λ (s : Section). Push (section_bytes (entry table) s) v) (sym is) (push_reference_lem r v p narrow (omega (arith, still_value (entry table) ss e still r.mark_ref named))) in
            let one : PushesAt (q.0 ++ (section_bytes (entry table) (section_at ss i) ++ q.1)) (length q.0) (length (section_bytes (entry table) (section_at ss i))) v =
            push_stands q.0 (section_bytes (entry table) (section_at ss i)) q.1 v push in
            subst (λ (code : List ℕ). PushesAt code (position + place_of table ss i) (width_of table ss i) v) (sym q.2)
            (subst (λ (at : ℕ). PushesAt (q.0 ++ (section_bytes (entry table) (section_at ss i) ++ q.1)) at (width_of table ss i) v) q.3
            (subst (λ (long : ℕ). PushesAt (q.0 ++ (section_bytes (entry table) (section_at ss i) ++ q.1)) (length q.0) long v) q.4 one));
        values = λ i r l is. value_here r.mark_ref (rw is at (marks i l)) (rw is at (forward i l));
      }
