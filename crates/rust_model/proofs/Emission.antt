-- The Rust's emission against 01's, by one table. Assumes nothing.
use Rattle.std.specs.Prelude.{None, Option, Some}
use Prim.Native.Nat.{ℕ, zero, suc, ◌+◌, ◌-◌, ◌≤◌, ◌<◌}
use native.Mathlib.Omega.{arith}
use mathlib.Core.Path.{◌≡◌, refl, sym, ap, ◌∙◌}
use mathlib.Core.Bool.{Bool, true, false, cond, ◌&&◌, false≢true}
use mathlib.Core.List.{List, [], ◌∷◌, ◌++◌, map, append_assoc, append-nil, reverse}
use lib.Dec.{ltb, eqb}
use lib.ListN.{length, take}
use borrow.Author.Tests.{ltb-true, ltb-false, lt-leb}
use Rattle.units.specs.Numbers.{held_bytes, big_endian}
use Rattle.units.specs.Reference.{ref_size_bytes, narrow, too_narrow}
use Rattle.units.specs.declared.RefSize.{RefSize}
use Rattle.units.specs.declared.RefSize.TheVariants.{S1, S2, S3, S4}
use Rattle.units.specs.declared.MarkReference.{MarkReference}
use Rattle.units.specs.declared.MarkReference.TheVariants.{Direct, Delta}
use Rattle.records.specs.Sections.{Section, mark, ops, bytes, reference}
use Rattle.slices.proofs.Tests.{cond_false}
use Rattle.layout.specs.Passes.{entry, value_by}
use Rattle.layout.specs.Conditions.{section_at, refers, backward_by}
use Rattle.layout.proofs.Walks.{All}
use Rattle.assembler.specs.Emission.{opcode, reference_bytes, section_bytes, in_a_row, code_of}
use Rattle.units.specs.Reference.{byte_count, is_push_zero}
use Rattle.rust_model.specs.Run.{Run, done, panic, and_then, checked_sub}
use Rattle.rust_model.specs.Building.{le_bytes}
use Rattle.rust_model.specs.Sections.{AsmSection, Mark, Ops, Data, MarkRef, as_u32, bytes_to_hold}
use Rattle.rust_model.specs.Assemble.{emit_value, emit_bytes, emit_ref, emit_section, emit_from}
use Rattle.rust_model.specs.Demand2.{seen}
use Rattle.rust_model.proofs.Spans.{SectionIn, EveryIn}
use Rattle.rust_model.proofs.Minimal.{low_bytes}
use Rattle.rust_model.proofs.Steps.{checked_done, index_done, range_done, as_bytes_lem, held_same, MarksIn}
use Rattle.rust_model.proofs.Offsets.{InMap, EveryMap}

-- ---- the bytes of a reference

-- a size is 1 to 4
size_range : (s : RefSize) → (1 ≤ as_u32 s) × (as_u32 s ≤ 4)
size_range S1 = omega arith
size_range S2 = omega arith
size_range S3 = omega arith
size_range S4 = omega arith

-- the opcode and the bytes, by the same count
bytes_same : (p : Bool) (s : RefSize) (n v : ℕ) → as_u32 s ≡ n → emit_bytes p s v ≡ opcode p n ++ big_endian n v
unfolding emit_bytes
bytes_same true s n v e =
    let r = size_range s in
    let op : 0x60 + as_u32 s - 1 ≡ 0x5f + n = omega arith in
    ap (λ (x : ℕ). x ∷ reverse (take (as_u32 s) (le_bytes 4 v))) op ∙ ap (λ (l : List ℕ). (0x5f + n) ∷ l) (low_bytes (as_u32 s) 4 v r.1 ∙ ap (λ (k : ℕ). big_endian k v) e)
bytes_same false s n v e = low_bytes (as_u32 s) 4 v (size_range s).1 ∙ ap (λ (k : ℕ). big_endian k v) e

-- what is appended for a reference whose set size holds its value
ref_same : (s : Option RefSize) (p : Bool) (v : ℕ) → narrow s v ≡ false
    → emit_ref s p v ≡ done (cond (is_push_zero s p v) (0x5f ∷ []) (opcode p (byte_count s v) ++ big_endian (byte_count s v) v))
unfolding emit_ref
ref_same (Some s) p v h =
    cond_false (ltb (as_u32 s) (as_u32 (bytes_to_hold v))) panic (done (emit_bytes p s v)) (rw (as_bytes_lem s, held_same v) h)
    ∙ ap done (bytes_same p s (ref_size_bytes s) v (as_bytes_lem s))
ref_same None true v h = go (eqb v 0)
  where
    go : (z : Bool) → cond (z && true) (done (0x5f ∷ [])) (done (emit_bytes true (bytes_to_hold v) v)) ≡ done (cond z (0x5f ∷ []) (opcode true (held_bytes v) ++ big_endian (held_bytes v) v))
    go true = refl
    go false = ap done (bytes_same true (bytes_to_hold v) (held_bytes v) v (held_same v))
ref_same None false v h = go (eqb v 0)
  where
    go : (z : Bool) → cond (z && false) (done (0x5f ∷ [])) (done (emit_bytes false (bytes_to_hold v) v)) ≡ done (big_endian (held_bytes v) v)
    go true = ap done (bytes_same false (bytes_to_hold v) (held_bytes v) v (held_same v))
    go false = ap done (bytes_same false (bytes_to_hold v) (held_bytes v) v (held_same v))

-- ---- values

-- a value where a delta isn't backward
emit_value_lem : (t : List ℕ) (m : MarkReference) → MarksIn (length t) m → backward_by t m ≡ false → emit_value t m ≡ done (value_by (entry t) m)
emit_value_lem t (Direct m) h b = index_done t m.0 h
emit_value_lem t (Delta d) h b =
    rw (index_done t d.end.0 h.1, index_done t d.start.0 h.0)
    (checked_done (entry t d.end.0) (entry t d.start.0) (ltb-false (entry t d.end.0) (entry t d.start.0) b))

-- a backward delta panics
emit_backward : (t : List ℕ) (m : MarkReference) → MarksIn (length t) m → backward_by t m ≡ true → emit_value t m ≡ panic
unfolding checked_sub
emit_backward t (Direct m) h b = absurd (false≢true b)
emit_backward t (Delta d) h b =
    rw (index_done t d.end.0 h.1, index_done t d.start.0 h.0, lt-leb (entry t d.start.0) (entry t d.end.0) (ltb-true (entry t d.end.0) (entry t d.start.0) b))

-- ---- sections

-- a section that the settled table can be emitted by
abbrev pub Ready : List ℕ → Section → Type 0
Ready t (mark m) = Unit {0}
Ready t (ops x) = Unit {0}
Ready t (bytes x) = Unit {0}
Ready t (reference r) = too_narrow r (value_by (entry t) r.mark_ref) ≡ false

section_same : (bs t : List ℕ) (s : AsmSection) → SectionIn bs s → InMap (length t) s → Ready t (seen bs s) → refers (backward_by t) (seen bs s) ≡ false
    → emit_section bs t s ≡ done (section_bytes (entry t) (seen bs s))
unfolding too_narrow reference_bytes
section_same bs t (Mark id) i m k b = refl
section_same bs t (Ops span) i m k b = range_done bs span i
section_same bs t (Data span) i m k b = range_done bs span i
section_same bs t (MarkRef r) i m k b =
    ap (λ (x : Run ℕ). and_then x (emit_ref r.set_size r.pushed)) (emit_value_lem t r.mark_ref m b)
    ∙ ref_same r.set_size r.pushed (value_by (entry t) r.mark_ref) k

-- the code of all of them, behind what the result held
pub emit_same : (bs t : List ℕ) (rs : List AsmSection) (result : List ℕ) → EveryIn bs rs → EveryMap (length t) rs → All (Ready t) (map (seen bs) rs)
    → All (λ s. refers (backward_by t) s ≡ false) (map (seen bs) rs) → emit_from bs t rs result ≡ done (result ++ code_of (entry t) (map (seen bs) rs))
unfolding emit_from in_a_row
emit_same bs t [] result i m k b = ap done (sym (append-nil result))
emit_same bs t (s ∷ rs) result i m k b =
    let new : List ℕ = section_bytes (entry t) (seen bs s) in
    ap (λ (x : Run (List ℕ)). and_then x (λ more. emit_from bs t rs (result ++ more))) (section_same bs t s i.0 m.0 k.0 b.0)
    ∙ emit_same bs t rs (result ++ new) i.1 m.1 k.1 b.1
    ∙ ap done (append_assoc result new (code_of (entry t) (map (seen bs) rs)))

-- one step that panics, or another later
emit_later : (bs t : List ℕ) (s : AsmSection) (rs : List AsmSection) (result : List ℕ) → ((more : List ℕ) → emit_from bs t rs (result ++ more) ≡ panic)
    → emit_from bs t (s ∷ rs) result ≡ panic
unfolding emit_from
emit_later bs t s rs result h = go (emit_section bs t s)
  where
    go : (x : Run (List ℕ)) → and_then x (λ more. emit_from bs t rs (result ++ more)) ≡ panic
    go (done more) = h more
    go panic = refl

-- at a backward delta
emit_here : (bs t : List ℕ) (s : AsmSection) (rs : List AsmSection) (result : List ℕ) → InMap (length t) s → refers (backward_by t) (seen bs s) ≡ true
    → emit_from bs t (s ∷ rs) result ≡ panic
unfolding emit_from
emit_here bs t (Mark id) rs result m b = absurd (false≢true b)
emit_here bs t (Ops span) rs result m b = absurd (false≢true b)
emit_here bs t (Data span) rs result m b = absurd (false≢true b)
emit_here bs t (MarkRef r) rs result m b =
    ap (λ (x : Run ℕ). and_then (and_then x (emit_ref r.set_size r.pushed)) (λ more. emit_from bs t rs (result ++ more))) (emit_backward t r.mark_ref m b)

-- a backward delta among them panics
pub emit_panic : (bs t : List ℕ) (rs : List AsmSection) (result : List ℕ) (i : ℕ) → EveryMap (length t) rs → i < length (map (seen bs) rs)
    → refers (backward_by t) (section_at (map (seen bs) rs) i) ≡ true → emit_from bs t rs result ≡ panic
emit_panic bs t [] result i m l b = absurd (omega arith)
emit_panic bs t (s ∷ rs) result zero m l b = emit_here bs t s rs result m.0 b
emit_panic bs t (s ∷ rs) result (suc i) m l b = emit_later bs t s rs result (λ more. emit_panic bs t rs (result ++ more) i m.1 (omega arith) b)
