-- Bytes that grow at their end: the spans of earlier sections stay within them, and hold what they held. Assumes nothing.
use Prim.Native.Nat.{ℕ, ◌≤◌}
use native.Mathlib.Omega.{arith}
use mathlib.Core.Path.{◌≡◌, refl, sym, ap, ap₂, ◌∙◌}
use mathlib.Core.List.{List, [], ◌∷◌, ◌++◌, map}
use lib.ListN.{length, drop, length-append}
use lib.Seq.{slice, take-append-le, drop-append-le, take-length}
use Rattle.records.specs.Sections.{Section, ops, bytes}
use Rattle.rust_model.specs.Sections.{AsmSection, Mark, Ops, Data, MarkRef}
use Rattle.rust_model.specs.Demand2.{seen}
use Rattle.rust_model.proofs.Spans.{SectionIn, EveryIn}

-- ---- parts of a list that grows at its end

-- a part within it stays
slice_more : (bs more : List ℕ) (a b : ℕ) → b ≤ length bs → slice a b (bs ++ more) ≡ slice a b bs
slice_more bs more a b h = ap (drop a) (take-append-le b bs more h)

-- a part to its end grows
pub slice_end : (bs more : List ℕ) (a : ℕ) → a ≤ length bs → slice a (length (bs ++ more)) (bs ++ more) ≡ slice a (length bs) bs ++ more
slice_end bs more a h =
    ap (drop a) (take-length (bs ++ more)) ∙ drop-append-le a bs more h ∙ ap (λ (l : List ℕ). drop a l ++ more) (sym (take-length bs))

-- ---- spans within bytes that grow

-- a section
in_more : (bs more : List ℕ) (s : AsmSection) → SectionIn bs s → SectionIn (bs ++ more) s
in_more bs more (Mark id) h = tt
in_more bs more (Ops span) h = record { ordered = h.ordered; within = omega (arith, h.within, length-append bs more) }
in_more bs more (Data span) h = record { ordered = h.ordered; within = omega (arith, h.within, length-append bs more) }
in_more bs more (MarkRef r) h = tt

-- every section
pub every_more : (bs more : List ℕ) (ss : List AsmSection) → EveryIn bs ss → EveryIn (bs ++ more) ss
every_more bs more [] h = tt
every_more bs more (s ∷ ss) h = (in_more bs more s h.0, every_more bs more ss h.1)

-- a list before one more section
pub every_before : (bs : List ℕ) (ss : List AsmSection) (s : AsmSection) → EveryIn bs (ss ++ (s ∷ [])) → EveryIn bs ss × SectionIn bs s
every_before bs [] s h = (tt, h.0)
every_before bs (t ∷ ts) s h = let r = every_before bs ts s h.1 in ((h.0, r.0), r.1)

-- one more section
pub every_snoc : (bs : List ℕ) (ss : List AsmSection) (s : AsmSection) → EveryIn bs ss → SectionIn bs s → EveryIn bs (ss ++ (s ∷ []))
every_snoc bs [] s h i = (i, tt)
every_snoc bs (t ∷ ts) s h i = (h.0, every_snoc bs ts s h.1 i)

-- ---- what sections hold of bytes that grow

-- a section
seen_more : (bs more : List ℕ) (s : AsmSection) → SectionIn bs s → seen (bs ++ more) s ≡ seen bs s
seen_more bs more (Mark id) h = refl
seen_more bs more (Ops span) h = ap ops (slice_more bs more span.start span.end h.within)
seen_more bs more (Data span) h = ap bytes (slice_more bs more span.start span.end h.within)
seen_more bs more (MarkRef r) h = refl

-- every section
pub every_seen : (bs more : List ℕ) (ss : List AsmSection) → EveryIn bs ss → map (seen (bs ++ more)) ss ≡ map (seen bs) ss
every_seen bs more [] h = refl
every_seen bs more (s ∷ ss) h = ap₂ (λ (x : Section) (l : List Section). x ∷ l) (seen_more bs more s h.0) (every_seen bs more ss h.1)
