-- The spans of the Rust's sections are within its bytes: what the building calls keep, and what its slicing needs. Assumes nothing.
use Prim.Native.Nat.{ℕ, ◌≤◌}
use mathlib.Core.List.{List, [], ◌∷◌}
use lib.ListN.{length}
use Rattle.units.specs.declared.Span.{Span}
use Rattle.rust_model.specs.Building.{Assembler}
use Rattle.rust_model.specs.Sections.{AsmSection, Mark, Ops, Data, MarkRef, iter_sections}

-- a span within the bytes
pub record SpanIn (bs : List ℕ) (s : Span ℕ) : Type 0 where
  pub ordered : s.start ≤ s.end
  pub within : s.end ≤ length bs

-- a section whose span, if it has one, is within the bytes
abbrev pub SectionIn : List ℕ → AsmSection → Type 0
SectionIn bs (Mark id) = Unit {0}
SectionIn bs (Ops span) = SpanIn bs span
SectionIn bs (Data span) = SpanIn bs span
SectionIn bs (MarkRef r) = Unit {0}

-- every section of a list
abbrev pub EveryIn : List ℕ → List AsmSection → Type 0
EveryIn bs [] = Unit {0}
EveryIn bs (s ∷ ss) = SectionIn bs s × EveryIn bs ss

-- of the Rust's store
abbrev pub Spans : Assembler → Type 0
Spans a = EveryIn a.bytes (iter_sections a)
