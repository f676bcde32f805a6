-- One section added to the Rust's store, as our calls add it to a list: appended, or joined to the last one. Assumes nothing.
use Prim.Native.Nat.{ℕ, ◌≤◌}
use native.Mathlib.Nat.{le_refl}
use native.Mathlib.Omega.{arith}
use mathlib.Core.Path.{◌≡◌, refl, sym, ap, ap₂, ◌∙◌, subst}
use mathlib.Core.List.{List, [], ◌∷◌, ◌++◌, append-nil, map, map-append}
use lib.ListN.{length, length-append}
use lib.Seq.{slice, slice_empty}
use Rattle.records.specs.Sections.{Section, ops, bytes}
use Rattle.calls.specs.Calls.{bytes_of}
use Rattle.calls.specs.Lists.{after_last, added_to}
use Rattle.calls.proofs.Added.{added_to_snoc}
use Rattle.units.specs.declared.Span.{Span}
use Rattle.rust_model.specs.Building.{StoredAsmSection, Assembler, Ops, Data}
use Rattle.rust_model.specs.Sections.{AsmSection, from_stored, iter_sections}
use Rattle.rust_model.specs.Sections as read
use Rattle.rust_model.specs.Demand2.{seen, sections_of}
use Rattle.rust_model.proofs.Spans.{SpanIn, SectionIn, EveryIn, Spans}
use Rattle.rust_model.proofs.Growth.{slice_end, every_more, every_before, every_snoc, every_seen}

-- ---- what the building calls keep

-- a section of bytes ends at the end of the bytes
abbrev pub AtEnd : List ℕ → AsmSection → Type 0
AtEnd bs (read.Mark id) = Unit {0}
AtEnd bs (read.Ops span) = span.end ≡ length bs
AtEnd bs (read.Data span) = span.end ≡ length bs
AtEnd bs (read.MarkRef r) = Unit {0}

-- the last section does
abbrev pub LastAtEnd : List ℕ → List AsmSection → Type 0
LastAtEnd bs [] = Unit {0}
LastAtEnd bs (s ∷ []) = AtEnd bs s
LastAtEnd bs (s ∷ t ∷ ts) = LastAtEnd bs (t ∷ ts)

-- spans are within the bytes, and a last section of bytes ends at their end
pub record Kept (a : Assembler) : Type 0 where
  pub spans : Spans a
  pub last : LastAtEnd a.bytes (iter_sections a)

-- a section comes to the end of the list, or joins the last, as in our list; its bytes come to the end of the bytes
pub record Adds (s : Section) (a a' : Assembler) : Type 0 where
  pub bytes_added : a'.bytes ≡ a.bytes ++ bytes_of s
  pub list : sections_of a' ≡ added_to (sections_of a) s
  pub kept : Kept a'

-- the last of a list with one more section is that one
end_snoc : (bs : List ℕ) (ss : List AsmSection) (s : AsmSection) → AtEnd bs s → LastAtEnd bs (ss ++ (s ∷ []))
end_snoc bs [] s h = h
end_snoc bs (t ∷ []) s h = h
end_snoc bs (t ∷ u ∷ us) s h = end_snoc bs (u ∷ us) s h

end_last : (bs : List ℕ) (ss : List AsmSection) (s : AsmSection) → LastAtEnd bs (ss ++ (s ∷ [])) → AtEnd bs s
end_last bs [] s h = h
end_last bs (t ∷ []) s h = h
end_last bs (t ∷ u ∷ us) s h = end_last bs (u ∷ us) s h

-- ---- one more section

-- stored sections as the list view has them
abbrev pub list_of : List ℕ → List StoredAsmSection → List Section
list_of bs ss = map (seen bs) (map from_stored ss)

-- one more at the end
pub list_snoc : (bs : List ℕ) (ss : List StoredAsmSection) (s : StoredAsmSection) → list_of bs (ss ++ (s ∷ [])) ≡ list_of bs ss ++ (seen bs (from_stored s) ∷ [])
list_snoc bs ss s = ap (map (seen bs)) (map-append from_stored ss (s ∷ [])) ∙ map-append (seen bs) (map from_stored ss) (from_stored s ∷ [])

-- what is kept, with one more at the end
kept_snoc : (bs : List ℕ) (ss : List StoredAsmSection) (s : StoredAsmSection) → EveryIn bs (map from_stored ss) → SectionIn bs (from_stored s) → AtEnd bs (from_stored s)
    → Kept (record { bytes = bs; sections = ss ++ (s ∷ []) })
kept_snoc bs ss s h i e =
    record {
      spans = rw map-append (every_snoc bs (map from_stored ss) (from_stored s) h i);
      last = rw map-append (end_snoc bs (map from_stored ss) (from_stored s) e);
    }

-- a section that no section joins, and which holds no bytes
pub adds_alone : (a : Assembler) (s : StoredAsmSection) (x : Section) → seen a.bytes (from_stored s) ≡ x → bytes_of x ≡ [] → added_to (sections_of a) x ≡ sections_of a ++ (x ∷ [])
    → SectionIn a.bytes (from_stored s) → AtEnd a.bytes (from_stored s) → Kept a → Adds x a (record { bytes = a.bytes; sections = a.sections ++ (s ∷ []) })
adds_alone a s x e n p i l k =
    record {
      bytes_added = sym (ap (λ (y : List ℕ). a.bytes ++ y) n ∙ append-nil a.bytes);
      list = list_snoc a.bytes a.sections s ∙ ap (λ (y : Section). sections_of a ++ (y ∷ [])) e ∙ sym p;
      kept = kept_snoc a.bytes a.sections s k.spans i l;
    }

-- ---- sections of bytes

-- Ops or Data
pub data Kind : Type 0 where
  as_ops : Kind
  as_data : Kind

abbrev pub stored_as : Kind → Span ℕ → StoredAsmSection
stored_as as_ops span = Ops span
stored_as as_data span = Data span

abbrev pub section_as : Kind → List ℕ → Section
section_as as_ops bs = ops bs
section_as as_data bs = bytes bs

seen_as : (k : Kind) (bs : List ℕ) (span : Span ℕ) → seen bs (from_stored (stored_as k span)) ≡ section_as k (slice span.start span.end bs)
seen_as as_ops bs span = refl
seen_as as_data bs span = refl

in_as : (k : Kind) (bs : List ℕ) (span : Span ℕ) → SpanIn bs span → SectionIn bs (from_stored (stored_as k span))
in_as as_ops bs span h = h
in_as as_data bs span h = h

as_in : (k : Kind) (bs : List ℕ) (span : Span ℕ) → SectionIn bs (from_stored (stored_as k span)) → SpanIn bs span
as_in as_ops bs span h = h
as_in as_data bs span h = h

end_as : (k : Kind) (bs : List ℕ) (span : Span ℕ) → span.end ≡ length bs → AtEnd bs (from_stored (stored_as k span))
end_as as_ops bs span h = h
end_as as_data bs span h = h

as_end : (k : Kind) (bs : List ℕ) (span : Span ℕ) → AtEnd bs (from_stored (stored_as k span)) → span.end ≡ length bs
as_end as_ops bs span h = h
as_end as_data bs span h = h

bytes_as : (k : Kind) (bs : List ℕ) → bytes_of (section_as k bs) ≡ bs
bytes_as as_ops bs = refl
bytes_as as_data bs = refl

join_as : (k : Kind) (x y : List ℕ) → after_last (section_as k x) (section_as k y) ≡ section_as k (x ++ y) ∷ []
join_as as_ops x y = refl
join_as as_data x y = refl

-- a last section of bytes ends at the end of the bytes
pub last_end : (k : Kind) (a : Assembler) (before : List StoredAsmSection) (span : Span ℕ) → a.sections ≡ before ++ (stored_as k span ∷ []) → Kept a
    → span.end ≡ length a.bytes
last_end k a before span e h =
    let parts : iter_sections a ≡ map from_stored before ++ (from_stored (stored_as k span) ∷ []) = ap (map from_stored) e ∙ map-append from_stored before (stored_as k span ∷ []) in
    as_end k a.bytes span (end_last a.bytes (map from_stored before) (from_stored (stored_as k span)) (subst (LastAtEnd a.bytes) parts h.last))

-- bytes at the end, and after these sections one that has them, from a start among the bytes before
abbrev grown : Kind → List ℕ → List ℕ → List StoredAsmSection → ℕ → Assembler
grown k bs more before start = record { bytes = bs ++ more; sections = before ++ (stored_as k (record { start = start; end = length (bs ++ more) }) ∷ []) }

module _ (k : Kind) (bs more : List ℕ) where
  -- its bytes are at the end
  grown_bytes : bs ++ more ≡ bs ++ bytes_of (section_as k more)
  grown_bytes = ap (λ (x : List ℕ). bs ++ x) (sym (bytes_as k more))

  module _ (before : List StoredAsmSection) (start : ℕ) (h : EveryIn bs (map from_stored before)) (starts : start ≤ length bs) where
    -- from the start to the end of the bytes
    abbrev span : Span ℕ
    span = record { start = start; end = length (bs ++ more) }

    -- the list: earlier sections hold what they held
    grown_list : sections_of (grown k bs more before start) ≡ list_of bs before ++ (section_as k (slice start (length bs) bs ++ more) ∷ [])
    grown_list =
        list_snoc (bs ++ more) before (stored_as k span)
        ∙ ap₂ (λ (l : List Section) (x : Section). l ++ (x ∷ [])) (every_seen bs more (map from_stored before) h) (seen_as k (bs ++ more) span ∙ ap (section_as k) (slice_end bs more start starts))

    -- what is kept
    grown_kept : Kept (grown k bs more before start)
    grown_kept =
        let within : SpanIn (bs ++ more) span = record { ordered = omega (arith, length-append bs more); within = le_refl _ } in
        kept_snoc (bs ++ more) before (stored_as k span) (every_more bs more (map from_stored before) h) (in_as k (bs ++ more) span within) (end_as k (bs ++ more) span refl)

  -- a section of their own for the bytes
  pub adds_new : (ss : List StoredAsmSection) → added_to (list_of bs ss) (section_as k more) ≡ list_of bs ss ++ (section_as k more ∷ [])
      → Kept (record { bytes = bs; sections = ss }) → Adds (section_as k more) (record { bytes = bs; sections = ss }) (grown k bs more ss (length bs))
  adds_new ss p h =
      let all : length bs ≤ length bs = le_refl _ in
      record {
        bytes_added = grown_bytes;
        list =
            grown_list ss (length bs) h.spans all
            ∙ ap (λ (x : List ℕ). list_of bs ss ++ (section_as k (x ++ more) ∷ [])) (slice_empty (length bs) bs)
            ∙ sym p;
        kept = grown_kept ss (length bs) h.spans all;
      }

  -- the last section, with the bytes at its end
  pub adds_joined : (ss before : List StoredAsmSection) (last : Span ℕ) → ss ≡ before ++ (stored_as k last ∷ []) → last.end ≡ length bs
      → Kept (record { bytes = bs; sections = ss }) → Adds (section_as k more) (record { bytes = bs; sections = ss }) (grown k bs more before last.start)
  adds_joined ss before last e l h =
      let split = every_before bs (map from_stored before) (from_stored (stored_as k last)) (subst (EveryIn bs) (ap (map from_stored) e ∙ map-append from_stored before (stored_as k last ∷ [])) h.spans) in
      let s : SpanIn bs last = as_in k bs last split.1 in
      let starts : last.start ≤ length bs = omega (arith, s.ordered, l) in
      let part : List ℕ = slice last.start (length bs) bs in
      let was : list_of bs ss ≡ list_of bs before ++ (section_as k part ∷ []) =
      ap (list_of bs) e
      ∙ list_snoc bs before (stored_as k last)
      ∙ ap (λ (x : Section). list_of bs before ++ (x ∷ [])) (seen_as k bs last ∙ ap (λ (x : ℕ). section_as k (slice last.start x bs)) l)
      in
      record {
        bytes_added = grown_bytes;
        list =
            grown_list before last.start split.0 starts
            ∙ ap (λ (l : List Section). list_of bs before ++ l) (sym (join_as k part more))
            ∙ sym (ap (λ (l : List Section). added_to l (section_as k more)) was ∙ added_to_snoc (list_of bs before) (section_as k part) (section_as k more));
        kept = grown_kept before last.start split.0 starts;
      }
