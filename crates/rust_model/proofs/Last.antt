-- What the Rust's `sections.last_mut()` tells of its list, and that all else comes after the last section. Assumes nothing.
use Prim.Native.Nat.{ℕ}
use mathlib.Core.Path.{◌≡◌, refl, sym, ap, ◌∙◌}
use mathlib.Core.List.{List, [], ◌∷◌, ◌++◌, append_assoc}
use Rattle.records.specs.Sections.{Section}
use Rattle.calls.specs.Lists.{after_last, added_after, added_to}
use Rattle.calls.proofs.Added.{added_to_snoc}
use Rattle.units.specs.declared.Span.{Span}
use Rattle.rust_model.specs.Building.{StoredAsmSection, Mark, Ops, Data, DirectMarkRef, UnsizedPushedDeltaRef, Size1PushedDeltaRef, Size2PushedDeltaRef, Size3PushedDeltaRef, Size4PushedDeltaRef, UnsizedRawDeltaRef, Size1RawDeltaRef, Size2RawDeltaRef, Size3RawDeltaRef, Size4RawDeltaRef, Last, last_ops, last_data, other, alone, behind, last_of, last_mut}
use Rattle.rust_model.specs.Sections.{from_stored}
use Rattle.rust_model.specs.Demand2.{seen}
use Rattle.rust_model.proofs.Adds.{list_of, list_snoc}

-- what `last_mut` tells of a list: its last section, or that nothing joins its last section
pub data LastIs (ss : List StoredAsmSection) : Last → Type 0 where
  is_ops_lem : (before : List StoredAsmSection) (span : Span ℕ) → ss ≡ before ++ (Ops span ∷ []) → LastIs ss (last_ops before span)
  is_data : (before : List StoredAsmSection) (span : Span ℕ) → ss ≡ before ++ (Data span ∷ []) → LastIs ss (last_data before span)
  is_other : ((bs : List ℕ) (x : Section) → added_to (list_of bs ss) x ≡ list_of bs ss ++ (x ∷ [])) → LastIs ss other

-- of one section
last_alone : (s : StoredAsmSection) → LastIs (s ∷ []) (alone s)
unfolding added_to added_after
last_alone (Mark id) = is_other (λ bs x. refl)
last_alone (Ops span) = is_ops_lem [] span refl
last_alone (Data span) = is_data [] span refl
last_alone (DirectMarkRef id size pushes) = is_other (λ bs x. refl)
last_alone (UnsizedPushedDeltaRef span) = is_other (λ bs x. refl)
last_alone (Size1PushedDeltaRef span) = is_other (λ bs x. refl)
last_alone (Size2PushedDeltaRef span) = is_other (λ bs x. refl)
last_alone (Size3PushedDeltaRef span) = is_other (λ bs x. refl)
last_alone (Size4PushedDeltaRef span) = is_other (λ bs x. refl)
last_alone (UnsizedRawDeltaRef span) = is_other (λ bs x. refl)
last_alone (Size1RawDeltaRef span) = is_other (λ bs x. refl)
last_alone (Size2RawDeltaRef span) = is_other (λ bs x. refl)
last_alone (Size3RawDeltaRef span) = is_other (λ bs x. refl)
last_alone (Size4RawDeltaRef span) = is_other (λ bs x. refl)

-- with one section more before it
last_behind : (s t : StoredAsmSection) (ts : List StoredAsmSection) {l : Last} → LastIs (t ∷ ts) l → LastIs (s ∷ t ∷ ts) (behind s l)
unfolding added_to added_after
last_behind s t ts (is_ops_lem before span e) = is_ops_lem (s ∷ before) span (ap (λ (l : List StoredAsmSection). s ∷ l) e)
last_behind s t ts (is_data before span e) = is_data (s ∷ before) span (ap (λ (l : List StoredAsmSection). s ∷ l) e)
last_behind s t ts (is_other h) = is_other (λ bs x. ap (λ (l : List Section). seen bs (from_stored s) ∷ l) (h bs x))

last_of_lem : (s : StoredAsmSection) (ss : List StoredAsmSection) → LastIs (s ∷ ss) (last_of s ss)
unfolding last_of
last_of_lem s [] = last_alone s
last_of_lem s (t ∷ ts) = last_behind s t ts (last_of_lem t ts)

pub last_is : (ss : List StoredAsmSection) → LastIs ss (last_mut ss)
unfolding last_mut added_to
last_is [] = is_other (λ bs x. refl)
last_is (s ∷ ss) = last_of_lem s ss

-- a section that doesn't join the last one comes after it
pub apart : (bs : List ℕ) (ss before : List StoredAsmSection) (s : StoredAsmSection) (x : Section) → ss ≡ before ++ (s ∷ [])
    → after_last (seen bs (from_stored s)) x ≡ seen bs (from_stored s) ∷ x ∷ [] → added_to (list_of bs ss) x ≡ list_of bs ss ++ (x ∷ [])
apart bs ss before s x e n =
    let was : list_of bs ss ≡ list_of bs before ++ (seen bs (from_stored s) ∷ []) = ap (list_of bs) e ∙ list_snoc bs before s in
    rw was
    (added_to_snoc (list_of bs before) (seen bs (from_stored s)) x
    ∙ ap (λ (l : List Section). list_of bs before ++ l) n
    ∙ sym (append_assoc (list_of bs before) (seen bs (from_stored s) ∷ []) (x ∷ [])))
