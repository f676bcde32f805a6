-- The Rust's steps where they don't panic, and its sizes against 01's. Assumes nothing.
use Rattle.std.specs.Prelude.{None, Option, Some}
use Prim.Native.Nat.{ℕ, ◌+◌, ◌-◌, ◌≤◌, ◌<◌}
use native.Mathlib.Nat.{add_comm, add-zero}
use native.Mathlib.Omega.{arith}
use mathlib.Core.Path.{◌≡◌, refl, sym, ap, ◌∙◌}
use mathlib.Core.Bool.{Bool, true, false, cond}
use mathlib.Core.List.{List, [], ◌∷◌, ◌++◌}
use lib.Dec.{leb, ltb, eqb}
use lib.ListN.{length, get_or, set}
use lib.Seq.{slice, length-slice}
use borrow.Author.Tests.{ltb-true, lt-ltb, le-leb}
use Rattle.units.specs.Numbers.{held_bytes}
use Rattle.units.specs.Reference.{ref_size_bytes, narrow, least, width}
use Rattle.units.specs.declared.RefSize.{RefSize}
use Rattle.units.specs.declared.RefSize.TheVariants.{S1, S2, S3, S4}
use Rattle.units.specs.declared.MarkReference.{MarkReference}
use Rattle.units.specs.declared.MarkReference.TheVariants.{Direct, Delta}
use Rattle.slices.proofs.Tests.{cond_true}
use Rattle.layout.specs.Passes.{entry, value_by}
use Rattle.rust_model.specs.Run.{done, panic, Build, add_u32, sub_u32, checked_sub, index, index_mut, range, len_idx, pushed}
use Rattle.units.specs.declared.Span.{Span}
use Rattle.rust_model.specs.Sections.{as_u32, bytes_to_hold, min_ref_size, saturating_sub, walk_value, ref_size_for}
use Rattle.rust_model.proofs.Spans.{SpanIn}

-- ---- steps that don't panic

pub add_done : (build : Build) (a b : ℕ) → a + b < 4294967296 → add_u32 build a b ≡ done (a + b)
unfolding add_u32
add_done build a b h = rw (lt-ltb (a + b) 4294967296 h)

sub_done : (build : Build) (a b : ℕ) → b ≤ a → sub_u32 build a b ≡ done (a - b)
unfolding sub_u32
sub_done build a b h = rw (le-leb b a h)

pub checked_done : (a b : ℕ) → b ≤ a → checked_sub a b ≡ done (a - b)
unfolding checked_sub
checked_done a b h = rw (le-leb b a h)

pub index_done : (xs : List ℕ) (i : ℕ) → i < length xs → index xs i ≡ done (get_or xs i 0)
unfolding index
index_done xs i h = cond_true (ltb i (length xs)) (done (get_or xs i 0)) panic (lt-ltb _ _ h)

pub set_done : (xs : List ℕ) (i v : ℕ) → i < length xs → index_mut xs i v ≡ done (set xs i v)
unfolding index_mut
set_done xs i v h = cond_true (ltb i (length xs)) (done (set xs i v)) panic (lt-ltb _ _ h)

pub range_done : (bs : List ℕ) (s : Span ℕ) → SpanIn bs s → range bs s.start s.end ≡ done (slice s.start s.end bs)
unfolding range
range_done bs s h = rw (le-leb s.start s.end h.ordered, le-leb s.end (length bs) h.within)

-- the largest index
abbrev pub max_index : ℕ
max_index = 4294967294

pub len_done : (xs : List ℕ) → length xs ≤ max_index → len_idx xs ≡ done (length xs)
unfolding len_idx
len_done xs h = cond_true (leb (length xs) max_index) (done (length xs)) panic (le-leb _ _ h)

pub push_done : (xs : List ℕ) (x : ℕ) → length xs ≤ max_index → pushed xs x ≡ done (xs ++ (x ∷ []))
unfolding pushed
push_done xs x h = rw (len_done xs h)

-- the length of a span is that of its bytes
pub span_done : (build : Build) (bs : List ℕ) (s : Span ℕ) → SpanIn bs s → sub_u32 build s.end s.start ≡ done (length (slice s.start s.end bs))
span_done build bs s h = sub_done build s.end s.start h.ordered ∙ ap done (sym (length-slice s.start s.end bs h.within))

-- ---- sizes

pub as_bytes_lem : (s : RefSize) → as_u32 s ≡ ref_size_bytes s
as_bytes_lem S1 = refl
as_bytes_lem S2 = refl
as_bytes_lem S3 = refl
as_bytes_lem S4 = refl

pub held_same : (v : ℕ) → as_u32 (bytes_to_hold v) ≡ held_bytes v
unfolding bytes_to_hold held_bytes
held_same v = go (leb v 255) (leb v 65535) (leb v 16777215)
  where
    go : (a b c : Bool) → as_u32 (cond a S1 (cond b S2 (cond c S3 S4))) ≡ cond a 1 (cond b 2 (cond c 3 4))
    go true b c = refl
    go false true c = refl
    go false false true = refl
    go false false false = refl

pub min_same : (s : Option RefSize) (p : Bool) → min_ref_size s p ≡ least s p
min_same (Some s) true = ap (λ (n : ℕ). n + 1) (as_bytes_lem s)
min_same (Some s) false = as_bytes_lem s ∙ omega arith
min_same None p = refl

pub ref_size_same : (s : Option RefSize) (p : Bool) (v : ℕ) → ref_size_for s p v (bytes_to_hold v) ≡ cond (narrow s v) None (Some (width s p v))
ref_size_same (Some s) true v = go (as_u32 s) (as_u32 (bytes_to_hold v)) (as_bytes_lem s) (held_same v)
  where
    go : (a h : ℕ) → a ≡ ref_size_bytes s → h ≡ held_bytes v → cond (ltb a h) None (Some (a + 1)) ≡ cond (ltb (ref_size_bytes s) (held_bytes v)) None (Some (ref_size_bytes s + 1))
    go a h e q = rw (e, q)
ref_size_same (Some s) false v = go (as_u32 s) (as_u32 (bytes_to_hold v)) (as_bytes_lem s) (held_same v)
  where
    go : (a h : ℕ) → a ≡ ref_size_bytes s → h ≡ held_bytes v → cond (ltb a h) None (Some a) ≡ cond (ltb (ref_size_bytes s) (held_bytes v)) None (Some (ref_size_bytes s + 0))
    go a h e q = rw (e, q, add-zero (ref_size_bytes s))
ref_size_same None true v = go (eqb v 0) (as_u32 (bytes_to_hold v)) (held_same v)
  where
    go : (z : Bool) (h : ℕ) → h ≡ held_bytes v → cond z (Some 1) (Some (1 + h)) ≡ Some (cond z 1 (held_bytes v + 1))
    go true h q = refl
    go false h q = ap Some (ap (λ (n : ℕ). 1 + n) q ∙ add_comm 1 (held_bytes v))
ref_size_same None false v = ap Some (held_same v)

-- ---- values

-- 3 - 5 is 0
pub saturating : (a b : ℕ) → saturating_sub a b ≡ a - b
unfolding saturating_sub
saturating a b = go (ltb a b) refl
  where
    go : (q : Bool) → ltb a b ≡ q → cond q 0 (a - b) ≡ a - b
    go true e = omega (arith, ltb-true a b e)
    go false e = refl

-- a reference's marks are in a table of length n
abbrev pub MarksIn : ℕ → MarkReference → Type 0
MarksIn n (Direct m) = m.0 < n
MarksIn n (Delta d) = (d.start.0 < n) × (d.end.0 < n)

pub value_done : (t : List ℕ) (m : MarkReference) → MarksIn (length t) m → walk_value t m ≡ done (value_by (entry t) m)
value_done t (Direct m) h = index_done t m.0 h
value_done t (Delta d) h = rw (index_done t d.end.0 h.1) (rw (index_done t d.start.0 h.0) (ap done (saturating (entry t d.end.0) (entry t d.start.0))))
