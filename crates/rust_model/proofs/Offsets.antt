-- `converge_mark_offsets` against the settling: by a table of the same length the two are the same, step by step. Assumes nothing.
use Rattle.std.specs.Prelude.{Option, Some, None}
use Prim.Native.Nat.{ℕ, zero, suc, ◌+◌, ◌*◌, ◌<◌}
use native.Mathlib.Nat.{add-zero}
use native.Mathlib.Omega.{arith}
use mathlib.Core.Path.{◌≡◌, refl, sym, ap, ◌∙◌, subst}
use mathlib.Core.Bool.{Bool, true, false, cond, not, ◌||◌}
use mathlib.Core.List.{List, [], ◌∷◌, map}
use lib.Dec.{eqb}
use lib.ListN.{length, set, replicate, length-set, length-replicate}
use lib.Seq.{slice}
use Rattle.units.specs.Reference.{least_size, size, too_narrow}
use Rattle.units.specs.declared.AsmReference.{AsmReference}
use Rattle.records.specs.Sections.{Section, mark, ops, bytes, reference}
use Rattle.layout.specs.Passes.{entry, value_by, start_from, start, Walked, through, left_at, unlike, walk_from, pass, Settling, settled, narrow_at, unsettled, ended, passes, settle}
use Rattle.layout.specs.Conditions.{sum_of, stored_bytes, references}
use Rattle.slices.proofs.Tests.{cond_case}
use Rattle.settling.proofs.Sections.{size_small, least_small}
use Rattle.rust_model.specs.Run.{Run, done, panic, and_then, Build, add_u32, index_mut}
use Rattle.rust_model.specs.Sections.{AsmSection, Mark, Ops, Data, MarkRef, min_compiled_size, compiled_size, ref_size_for, bytes_to_hold}
use Rattle.rust_model.specs.Assemble.{start_mark, Walk, walked, too_small, move_mark, walk_mark, or_too_small, Converged, ok, ref_has_too_small_set_size, after_walk, iterate, converge}
use Rattle.rust_model.specs.Assemble as rust
use Rattle.rust_model.specs.Demand2.{seen}
use Rattle.rust_model.proofs.Spans.{EveryIn}
use Rattle.rust_model.proofs.TableGrowth.{exact, grow_exact}
use Rattle.rust_model.proofs.Steps.{add_done, index_done, set_done, span_done, min_same, ref_size_same, MarksIn, value_done}

-- ---- what the walks need

-- a section's marks are in a table of length n
abbrev pub InMap : ℕ → AsmSection → Type 0
InMap n (Mark id) = id < n
InMap n (Ops span) = Unit {0}
InMap n (Data span) = Unit {0}
InMap n (MarkRef r) = MarksIn n r.mark_ref

-- so of every section
abbrev pub EveryMap : ℕ → List AsmSection → Type 0
EveryMap n [] = Unit {0}
EveryMap n (s ∷ ss) = InMap n s × EveryMap n ss

-- no sum of sizes overflows: what is stored and five bytes for each reference
abbrev pub need : List Section → ℕ
need ss = stored_bytes ss + 5 * references ss

-- the start table keeps its length
start_long : (ss : List Section) (sum : ℕ) (t : List ℕ) → length (start_from ss sum t) ≡ length t
unfolding start_from
start_long [] sum t = refl
start_long (mark m ∷ ss) sum t = start_long ss sum (set t m sum) ∙ length-set t m sum
start_long (ops x ∷ ss) sum t = start_long ss _ t
start_long (bytes x ∷ ss) sum t = start_long ss _ t
start_long (reference r ∷ ss) sum t = start_long ss _ t

-- the sections as the list view has them
abbrev pub seen_all : List ℕ → List AsmSection → List Section
seen_all bs rs = map (seen bs) rs

-- what the settling comes to, as the Rust's does
abbrev pub rust_settling : Settling → Run Converged
rust_settling (settled t sum k) = done (ok t)
rust_settling (narrow_at i k) = done (ref_has_too_small_set_size i)
rust_settling unsettled = panic

module _ (build : Build) (bs : List ℕ) where
  -- ---- the start table

  start_step : (s : AsmSection) (rs : List AsmSection) (min : ℕ) (t : List ℕ) (t' : List ℕ) (n : ℕ) → start_mark exact s min t ≡ done t'
      → min_compiled_size build s ≡ done n → min + n < 4294967296 → rust.start_from build exact (s ∷ rs) min t ≡ rust.start_from build exact rs (min + n) t'
  unfolding rust.start_from
  start_step s rs min t t' n e q h =
      ap (λ (x : Run (List ℕ)). and_then x (λ table. and_then (min_compiled_size build s) (λ size. and_then (add_u32 build min size) (λ min'. rust.start_from build exact rs min' table)))) e
      ∙ ap (λ (x : Run ℕ). and_then x (λ size. and_then (add_u32 build min size) (λ min'. rust.start_from build exact rs min' t'))) q
      ∙ ap (λ (x : Run ℕ). and_then x (λ min'. rust.start_from build exact rs min' t')) (add_done build min n h)

  least_done : (r : AsmReference) → min_compiled_size build (MarkRef r) ≡ done (least_size r)
  unfolding least_size
  least_done r = ap done (min_same r.set_size r.pushed)

  -- at a mark, of a table that has an entry for it
  mark_start : (id min : ℕ) (t : List ℕ) → id < length t → start_mark exact (Mark id) min t ≡ done (set t id min)
  mark_start id min t h = ap (λ (x : List ℕ). index_mut x id min) (grow_exact t id h) ∙ set_done t id min h

  start_same : (rs : List AsmSection) (min : ℕ) (t : List ℕ) → EveryIn bs rs → EveryMap (length t) rs → min + need (seen_all bs rs) < 4294967296
      → rust.start_from build exact rs min t ≡ done (start_from (seen_all bs rs) min t)
  unfolding start_from rust.start_from sum_of
  start_same [] min t i m h = refl
  start_same (Mark id ∷ rs) min t i m h =
      start_step (Mark id) rs min t (set t id min) 0 (mark_start id min t m.0) refl (omega arith)
      ∙ ap (λ (k : ℕ). rust.start_from build exact rs k (set t id min)) (add-zero min)
      ∙ start_same rs min (set t id min) i.1 (subst (λ (n : ℕ). EveryMap n rs) (sym (length-set t id min)) m.1) (omega arith)
  start_same (Ops span ∷ rs) min t i m h =
      start_step (Ops span) rs min t t (length (slice span.start span.end bs)) refl (span_done build bs span i.0) (omega arith)
      ∙ start_same rs (min + length (slice span.start span.end bs)) t i.1 m.1 (omega arith)
  start_same (Data span ∷ rs) min t i m h =
      start_step (Data span) rs min t t (length (slice span.start span.end bs)) refl (span_done build bs span i.0) (omega arith)
      ∙ start_same rs (min + length (slice span.start span.end bs)) t i.1 m.1 (omega arith)
  start_same (MarkRef r ∷ rs) min t i m h =
      start_step (MarkRef r) rs min t t (least_size r) refl (least_done r) (omega (arith, least_small r))
      ∙ start_same rs (min + least_size r) t i.1 m.1 (omega (arith, least_small r))

  -- ---- one iteration

  -- how our walk ends, as the Rust's does
  abbrev rust_walked : Walked → rust.Walked
  rust_walked (through sum moved t) = walked (record { converged = not moved; table = t })
  rust_walked (left_at i) = too_small i

  -- a section that is passed
  walk_step : (s : AsmSection) (rs : List AsmSection) (i current : ℕ) (w w' : Walk) (n : ℕ) → walk_mark s current w ≡ done w'
      → compiled_size build w'.table s ≡ done (Some n) → current + n < 4294967296 → rust.walk_from build (s ∷ rs) i current w ≡ rust.walk_from build rs (suc i) (current + n) w'
  unfolding rust.walk_from
  walk_step s rs i current w w' n e q h =
      ap (λ (x : Run Walk). and_then x (λ w''. and_then (compiled_size build w''.table s) (λ size. or_too_small i size (λ n'. and_then (add_u32 build current n') (λ current'. rust.walk_from build rs (suc i) current' w''))))) e
      ∙ ap (λ (x : Run (Option ℕ)). and_then x (λ size. or_too_small i size (λ n'. and_then (add_u32 build current n') (λ current'. rust.walk_from build rs (suc i) current' w')))) q
      ∙ ap (λ (x : Run ℕ). and_then x (λ current'. rust.walk_from build rs (suc i) current' w')) (add_done build current n h)

  -- a set size that is too small
  walk_left : (r : AsmReference) (rs : List AsmSection) (i current : ℕ) (w : Walk) → compiled_size build w.table (MarkRef r) ≡ done None
      → rust.walk_from build (MarkRef r ∷ rs) i current w ≡ done (too_small i)
  unfolding rust.walk_from
  walk_left r rs i current w q =
      ap (λ (x : Run (Option ℕ)). and_then x (λ size. or_too_small i size (λ n'. and_then (add_u32 build current n') (λ current'. rust.walk_from build rs (suc i) current' w)))) q

  -- at a mark
  mark_done : (id current : ℕ) (moved : Bool) (t : List ℕ) → id < length t
      → walk_mark (Mark id) current (record { converged = not moved; table = t })
      ≡ done (record { converged = not (moved || unlike t id current); table = cond (unlike t id current) (set t id current) t })
  mark_done id current moved t h =
      ap (λ (x : Run ℕ). and_then x (move_mark id current (record { converged = not moved; table = t }))) (index_done t id h)
      ∙ go moved (eqb (entry t id) current)
    where
      go : (m : Bool) (q : Bool)
          → cond {A = Run Walk} q (done (record { converged = not m; table = t })) (and_then (index_mut t id current) (λ table'. done (record { converged = false; table = table' })))
          ≡ done (record { converged = not (m || not q); table = cond (not q) (set t id current) t })
      go true true = refl
      go false true = refl
      go true false = ap (λ (x : Run (List ℕ)). and_then x (λ table'. done (record { converged = false; table = table' }))) (set_done t id current h)
      go false false = ap (λ (x : Run (List ℕ)). and_then x (λ table'. done (record { converged = false; table = table' }))) (set_done t id current h)

  -- a reference's size
  size_done : (r : AsmReference) (t : List ℕ) → MarksIn (length t) r.mark_ref
      → compiled_size build t (MarkRef r) ≡ done (cond (too_narrow r (value_by (entry t) r.mark_ref)) None (Some (size r (value_by (entry t) r.mark_ref))))
  unfolding too_narrow size
  size_done r t h =
      ap (λ (x : Run ℕ). and_then x (λ v. done (ref_size_for r.set_size r.pushed v (bytes_to_hold v)))) (value_done t r.mark_ref h)
      ∙ ap done (ref_size_same r.set_size r.pushed (value_by (entry t) r.mark_ref))

  -- a table keeps its length where an entry is set
  long_set : (t : List ℕ) (id current : ℕ) (b : Bool) → length (cond b (set t id current) t) ≡ length t
  long_set t id current true = length-set t id current
  long_set t id current false = refl

  walk_same : (rs : List AsmSection) (i current : ℕ) (moved : Bool) (t : List ℕ) → EveryIn bs rs → EveryMap (length t) rs → current + need (seen_all bs rs) < 4294967296
      → rust.walk_from build rs i current (record { converged = not moved; table = t }) ≡ done (rust_walked (walk_from (seen_all bs rs) i current moved t))
  unfolding walk_from rust.walk_from sum_of
  walk_same [] i current moved t j m h = refl
  walk_same (Mark id ∷ rs) i current moved t j m h =
      let moved' : Bool = moved || unlike t id current in
      let t' : List ℕ = cond (unlike t id current) (set t id current) t in
      walk_step (Mark id) rs i current _ (record { converged = not moved'; table = t' }) 0 (mark_done id current moved t m.0) refl (omega arith)
      ∙ ap (λ (k : ℕ). rust.walk_from build rs (suc i) k (record { converged = not moved'; table = t' })) (add-zero current)
      ∙ walk_same rs (suc i) current moved' t' j.1 (subst (λ (n : ℕ). EveryMap n rs) (sym (long_set t id current (unlike t id current))) m.1) (omega arith)
  walk_same (Ops span ∷ rs) i current moved t j m h =
      let n : ℕ = length (slice span.start span.end bs) in
      walk_step (Ops span) rs i current _ _ n refl (ap (λ (x : Run ℕ). and_then x (λ n'. done (Some n'))) (span_done build bs span j.0)) (omega arith)
      ∙ walk_same rs (suc i) (current + n) moved t j.1 m.1 (omega arith)
  walk_same (Data span ∷ rs) i current moved t j m h =
      let n : ℕ = length (slice span.start span.end bs) in
      walk_step (Data span) rs i current _ _ n refl (ap (λ (x : Run ℕ). and_then x (λ n'. done (Some n'))) (span_done build bs span j.0)) (omega arith)
      ∙ walk_same rs (suc i) (current + n) moved t j.1 m.1 (omega arith)
  walk_same (MarkRef r ∷ rs) i current moved t j m h =
      let v : ℕ = value_by (entry t) r.mark_ref in
      go v (too_narrow r v) (size_done r t m.0) (walk_same rs (suc i) (current + size r v) moved t j.1 m.1 (omega (arith, size_small r v)))
    where
      go : (v : ℕ) (q : Bool) → compiled_size build t (MarkRef r) ≡ done (cond q None (Some (size r v)))
          → rust.walk_from build rs (suc i) (current + size r v) (record { converged = not moved; table = t }) ≡ done (rust_walked (walk_from (seen_all bs rs) (suc i) (current + size r v) moved t))
          → rust.walk_from build (MarkRef r ∷ rs) i current (record { converged = not moved; table = t })
          ≡ done (rust_walked (cond q (left_at i) (walk_from (seen_all bs rs) (suc i) (current + size r v) moved t)))
      go v true e next = walk_left r rs i current _ e
      go v false e next = walk_step (MarkRef r) rs i current _ _ (size r v) refl e (omega (arith, size_small r v)) ∙ next

  -- ---- the iterations

  -- a walk keeps the table's length
  abbrev Long : ℕ → Walked → Type 0
  Long n (through sum moved t) = length t ≡ n
  Long n (left_at i) = Unit {0}

  walk_long : (n : ℕ) (ss : List Section) (i sum : ℕ) (moved : Bool) (t : List ℕ) → length t ≡ n → Long n (walk_from ss i sum moved t)
  unfolding walk_from
  walk_long n [] i sum moved t e = e
  walk_long n (mark m ∷ ss) i sum moved t e = walk_long n ss (suc i) sum _ _ (long_set t m sum (unlike t m sum) ∙ e)
  walk_long n (ops x ∷ ss) i sum moved t e = walk_long n ss (suc i) _ moved t e
  walk_long n (bytes x ∷ ss) i sum moved t e = walk_long n ss (suc i) _ moved t e
  walk_long n (reference r ∷ ss) i sum moved t e =
      let v : ℕ = value_by (entry t) r.mark_ref in
      cond_case (Long n) (too_narrow r v) (left_at i) (walk_from ss (suc i) (sum + size r v) moved t) (λ q. tt) (λ q. walk_long n ss (suc i) (sum + size r v) moved t e)

  is_pass : (ss : List Section) (t : List ℕ) → walk_from ss 0 0 false t ≡ pass ss t
  unfolding pass
  is_pass ss t = refl

  -- the iterations from a table on are the passes from it on
  iterate_same : (rs : List AsmSection) (left k : ℕ) (t : List ℕ) → EveryIn bs rs → EveryMap (length t) rs → need (seen_all bs rs) < 4294967296
      → iterate build left rs t ≡ rust_settling (passes left k (seen_all bs rs) t)
  unfolding iterate passes
  iterate_same rs zero k t i m h = refl
  iterate_same rs (suc left) k t i m h =
      ap (λ (x : Run rust.Walked). and_then x (after_walk (iterate build left rs))) (walk_same rs 0 0 false t i m (omega arith))
      ∙ go (walk_from (seen_all bs rs) 0 0 false t) (walk_long (length t) (seen_all bs rs) 0 0 false t refl)
      (λ t' e. iterate_same rs left (suc k) t' i (subst (λ (n : ℕ). EveryMap n rs) (sym e) m) h)
      ∙ ap (λ (x : Walked). rust_settling (ended k (λ next. passes left (suc k) (seen_all bs rs) next) x)) (is_pass (seen_all bs rs) t)
    where
      go : (w : Walked) → Long (length t) w → ((t' : List ℕ) → length t' ≡ length t → iterate build left rs t' ≡ rust_settling (passes left (suc k) (seen_all bs rs) t'))
          → after_walk (iterate build left rs) (rust_walked w) ≡ rust_settling (ended k (λ next. passes left (suc k) (seen_all bs rs) next) w)
      go (left_at j) e next = refl
      go (through sum false t') e next = refl
      go (through sum true t') e next = next t' e

-- `converge_mark_offsets` by a table of length n that never grows is the settling by a table of length n
pub converge_same : (build : Build) (bs : List ℕ) (n : ℕ) (rs : List AsmSection) → EveryIn bs rs → EveryMap n rs → need (seen_all bs rs) < 4294967296
    → converge build exact rs (replicate n 0) ≡ rust_settling (settle n (seen_all bs rs))
unfolding converge settle start
converge_same build bs n rs i m h =
    let t : List ℕ = replicate n 0 in
    let long : length t ≡ n = length-replicate n 0 in
    ap (λ (x : Run (List ℕ)). and_then x (iterate build rust.max_iterations rs)) (start_same build bs rs 0 t i (subst (λ (k : ℕ). EveryMap k rs) (sym long) m) (omega arith))
    ∙ iterate_same build bs rs rust.max_iterations 1 (start_from (seen_all bs rs) 0 t) i (subst (λ (k : ℕ). EveryMap k rs) (sym (start_long (seen_all bs rs) 0 t ∙ long)) m) h
