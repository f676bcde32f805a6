-- Where the Rust answers code, no mark has bytes between its placings: its last walk moved no mark, so each placing of a mark stands at the
-- mark's entry, and with bytes between them two placings would stand apart. Assumes nothing.
use Rattle.std.specs.Prelude.{Option, Some, None}
use Prim.Native.Nat.{ℕ, zero, suc, ◌+◌, ◌≤◌, ◌<◌}
use native.Mathlib.Nat.{add-zero, le_refl}
use native.Mathlib.Omega.{arith}
use mathlib.Core.Path.{◌≡◌, refl, sym, ap, ◌∙◌, subst}
use mathlib.Core.Bool.{Bool, true, false, cond, false≢true}
use mathlib.Core.List.{List, [], ◌∷◌}
use lib.Dec.{ltb, eqb}
use lib.ListN.{length, get_or, replicate}
use lib.Seq.{slice}
use borrow.Author.Tests.{eqb-true}
use Rattle.units.specs.Reference.{narrow, width, least_size, size}
use Rattle.units.specs.declared.AsmReference.{AsmReference}
use Rattle.records.specs.Sections.{Section, mark, ops, bytes, reference}
use Rattle.layout.specs.Passes.{entry}
use Rattle.layout.specs.Conditions.{section_at, Never, apart_at, sum_of}
use Rattle.layout.proofs.Runs.{Allows}
use Rattle.layout.proofs.Moves.{Still, width_by}
use Rattle.layout.proofs.WidthRule.{width_rule}
use Rattle.layout.proofs.Apart.{least_before, ApartBySums, apart_sums}
use Rattle.settling.proofs.Sections.{size_small}
use Rattle.rust_model.specs.Run.{Run, done, and_then, Build, add_u32, sub_u32, index, index_mut}
use Rattle.units.specs.declared.Span.{Span}
use Rattle.rust_model.specs.Building.{Assembler}
use Rattle.rust_model.specs.Sections.{AsmSection, Mark, Ops, Data, MarkRef, iter_sections, bytes_to_hold, walk_value, ref_size_for, compiled_size}
use Rattle.rust_model.specs.Assemble.{Reserve, start_from, Walk, Walked, walked, too_small, move_mark, walk_mark, or_too_small, walk_from, Converged, ok, ref_has_too_small_set_size, decide, after_walk, iterate, max_iterations, converge, assembled, emission, mark_count, assemble}
use Rattle.rust_model.specs.Demand2.{sections_of, CodeTogether}
use Rattle.rust_model.proofs.Runs.{panic_done, done_inj, and_then_done, cond_done}
use Rattle.rust_model.proofs.Spans.{SpanIn, Spans, EveryIn}
use Rattle.rust_model.proofs.Steps.{add_done, span_done, ref_size_same}
use Rattle.rust_model.proofs.Offsets.{need, seen_all}

-- a width that is at least the least
abbrev at_least : Allows
at_least r v w = least_size r ≤ w

-- ---- a run in which no mark moves has none apart

-- the run behind its first section, which has at least its least size
still_next : (x : Section) (ss : List Section) (s : ℕ) (t : ℕ → ℕ) (e : ℕ) → Still at_least (x ∷ ss) s t e
    → (w : ℕ) × (width_by least_size x ≤ w) × Still at_least ss (s + w) t e
still_next (mark m) ss s t e h = (0, le_refl 0, subst (λ (n : ℕ). Still at_least ss n t e) (sym (add-zero s)) h.1)
still_next (ops x) ss s t e h = (length x, le_refl (length x), h)
still_next (bytes x) ss s t e h = (length x, le_refl (length x), h)
still_next (reference r) ss s t e h = h

-- a first section that is a mark is at the mark's offset
still_mark : (x : Section) (ss : List Section) (s : ℕ) (t : ℕ → ℕ) (e m : ℕ) → x ≡ mark m → Still at_least (x ∷ ss) s t e
    → (t m ≡ s) × (width_by least_size x ≡ 0) × Still at_least ss s t e
still_mark x ss s t e m q h = let f = subst (λ (y : Section). Still at_least (y ∷ ss) s t e) q h in (f.0, ap (width_by least_size) q, f.1)

-- a mark's offset is past the least sizes before each of its placings
past_least : (ss : List Section) (s : ℕ) (t : ℕ → ℕ) (e : ℕ) → Still at_least ss s t e → (i m : ℕ) → i < length ss → section_at ss i ≡ mark m
    → s + least_before ss i ≤ t m
unfolding sum_of
past_least [] s t e h i m l q = absurd (omega arith)
past_least (x ∷ ss) s t e h zero m l q = omega (arith, (still_mark x ss s t e m q h).0)
past_least (x ∷ ss) s t e h (suc i) m l q =
    let n = still_next x ss s t e h in
    omega (arith, n.1, past_least ss (s + n.0) t e n.2 i m (omega arith) q)

-- two placings of a mark have nothing between them
not_apart : (ss : List Section) (s : ℕ) (t : ℕ → ℕ) (e : ℕ) → Still at_least ss s t e → (j i m : ℕ) → j < i → i < length ss
    → section_at ss j ≡ mark m → section_at ss i ≡ mark m → least_before ss i ≤ least_before ss j
unfolding sum_of
not_apart ss s t e h j zero m k l p q = absurd (omega arith)
not_apart [] s t e h j (suc i) m k l p q = absurd (omega arith)
not_apart (x ∷ ss) s t e h zero (suc i) m k l p q =
    let f = still_mark x ss s t e m p h in
    omega (arith, f.0, f.1, past_least ss s t e f.2 i m (omega arith) q)
not_apart (x ∷ ss) s t e h (suc j) (suc i) m k l p q =
    let n = still_next x ss s t e h in
    omega (arith, not_apart ss (s + n.0) t e n.2 j i m (omega arith) (omega arith) p q)

still_together : (ss : List Section) (t : ℕ → ℕ) (e : ℕ) → Still at_least ss 0 t e → Never ss (apart_at ss)
still_together ss t e h i l = go (apart_at ss i) refl
  where
    go : (b : Bool) → apart_at ss i ≡ b → b ≡ false
    go false q = refl
    go true q =
        let a : ApartBySums ss i = (apart_sums ss i l).0 q in
        absurd (omega (arith, a.5, not_apart ss 0 t e h a.1 i a.0 a.3 l a.4 a.2))

-- ---- a walk of the Rust that moves no mark

-- the width of a reference that isn't too small: by some value, the one that module 1 says
ref_some : (r : AsmReference) (v n : ℕ) → ref_size_for r.set_size r.pushed v (bytes_to_hold v) ≡ Some n → size r v ≡ n
unfolding size
ref_some r v n e = go (narrow r.set_size v) (sym (ref_size_same r.set_size r.pushed v) ∙ e)
  where
    go : (b : Bool) → cond b None (Some (width r.set_size r.pushed v)) ≡ Some n → width r.set_size r.pushed v ≡ n
    go true q = let z : ◌≡◌ {A = ℕ} 0 1 = cc in absurd (omega arith)
    go false q = cc

module _ (build : Build) (bs : List ℕ) where
  -- a section that a walk to the end passed
  record Passed (s : AsmSection) (rs : List AsmSection) (i current : ℕ) (w w' : Walk) : Type 0 where
    next : Walk
    marked : walk_mark s current w ≡ done next
    width : ℕ
    sized : compiled_size build next.table s ≡ done (Some width)
    sum : ℕ
    added : add_u32 build current width ≡ done sum
    later : walk_from build rs (suc i) sum next ≡ done (walked w')

  passed : (s : AsmSection) (rs : List AsmSection) (i current : ℕ) (w w' : Walk) → walk_from build (s ∷ rs) i current w ≡ done (walked w') → Passed s rs i current w w'
  unfolding walk_from
  passed s rs i current w w' r =
      let a = and_then_done (walk_mark s current w) _ (walked w') r in
      let b = and_then_done (compiled_size build a.0.table s) _ (walked w') a.2 in
      go a.0 a.1 b.0 b.1 b.2
    where
      go : (next : Walk) → walk_mark s current w ≡ done next → (o : Option ℕ) → compiled_size build next.table s ≡ done o
          → or_too_small i o (λ n. and_then (add_u32 build current n) (λ current'. walk_from build rs (suc i) current' next)) ≡ done (walked w') → Passed s rs i current w w'
      go next m None e q = let z : ◌≡◌ {A = ℕ} 0 1 = cc in absurd (omega arith)
      go next m (Some n) e q =
          let c = and_then_done (add_u32 build current n) _ (walked w') q in
          record { next = next; marked = m; width = n; sized = e; sum = c.0; added = c.1; later = c.2 }

  -- no mark was moved from here on: it stood so before, and each placing is at its mark's entry
  abbrev Calm : List Section → ℕ → Walk → Type 0
  Calm ss current w = (w.converged ≡ true) × ((e : ℕ) × Still at_least ss current (entry w.table) e)

  -- a mark that wasn't moved
  calm_mark : (id current : ℕ) (w next : Walk) → walk_mark (Mark id) current w ≡ done next → next.converged ≡ true → (entry w.table id ≡ current) × (next ≡ w)
  unfolding index
  calm_mark id current w next r c =
      let a = and_then_done (index w.table id) (move_mark id current w) next r in
      let at : entry w.table id ≡ a.0 = done_inj (cond_done (ltb id (length w.table)) (done (get_or w.table id 0)) a.0 a.1).1 in
      go a.0 at (eqb a.0 current) refl a.2
    where
      go : (prev : ℕ) → entry w.table id ≡ prev → (b : Bool) → eqb prev current ≡ b
          → cond b (done w) (and_then (index_mut w.table id current) (λ table'. done (record { converged = false; table = table' }))) ≡ done next
          → (entry w.table id ≡ current) × (next ≡ w)
      go prev at true e q = (at ∙ eqb-true prev current e, sym (done_inj q))
      go prev at false e q =
          let b = and_then_done (index_mut w.table id current) _ next q in
          absurd (false≢true (ap (λ (x : Walk). x.converged) (done_inj b.2) ∙ c))

  -- the sum behind a section that was passed, and what is calm from there on is calm from the section's walk on
  module _ (s : AsmSection) (rs : List AsmSection) (i current : ℕ) (w w' : Walk) (p : Passed s rs i current w w') (small : current + p.width < 4294967296) where
    sum_is : p.sum ≡ current + p.width
    sum_is = done_inj (sym p.added ∙ add_done build current p.width small)

    calm_back : (ss : List Section) → p.next ≡ w → Calm ss p.sum p.next → Calm ss (current + p.width) w
    calm_back ss same h = subst (Calm ss (current + p.width)) same (subst (λ (n : ℕ). Calm ss n p.next) sum_is h)

  -- the width of a reference that was passed
  passed_ref : (r : AsmReference) (t : List ℕ) (n : ℕ) → compiled_size build t (MarkRef r) ≡ done (Some n) → (least_size r ≤ n) × (n ≤ 5)
  passed_ref r t n e =
      let a = and_then_done (walk_value t r.mark_ref) _ (Some n) e in
      let is : size r a.0 ≡ n = ref_some r a.0 n (done_inj a.2) in
      (omega (arith, width_rule.at_least r a.0), omega (arith, size_small r a.0))

  -- and of a span
  passed_span : (span : Span ℕ) (n : ℕ) → SpanIn bs span → and_then (sub_u32 build span.end span.start) (λ k. done (Some k)) ≡ done (Some n)
      → length (slice span.start span.end bs) ≡ n
  passed_span span n h e =
      let q : done (Some (length (slice span.start span.end bs))) ≡ done (Some n) =
      sym (ap (λ (x : Run ℕ). and_then x (λ k. done (Some k))) (span_done build bs span h)) ∙ e in
      cc

  walk_calm : (rs : List AsmSection) (i current : ℕ) (w w' : Walk) → EveryIn bs rs → current + need (seen_all bs rs) < 4294967296
      → walk_from build rs i current w ≡ done (walked w') → w'.converged ≡ true → Calm (seen_all bs rs) current w
  unfolding walk_from sum_of
  walk_calm [] i current w w' j h r c =
      let same : w ≡ w' = cc in
      (ap (λ (x : Walk). x.converged) same ∙ c, (current, refl))
  walk_calm (Mark id ∷ rs) i current w w' j h r c =
      let p = passed (Mark id) rs i current w w' r in
      let no_width : p.width ≡ 0 = let e = p.sized in cc in
      let sum : p.sum ≡ current = omega (arith, sum_is (Mark id) rs i current w w' p (omega arith)) in
      let after = walk_calm rs (suc i) p.sum p.next w' j.1 (omega arith) p.later c in
      let k = calm_mark id current w p.next p.marked after.0 in
      let calm : Calm (seen_all bs rs) current w = subst (Calm (seen_all bs rs) current) k.1 (subst (λ (n : ℕ). Calm (seen_all bs rs) n p.next) sum after) in
      (calm.0, (calm.1.0, (k.0, calm.1.1)))
  walk_calm (Ops span ∷ rs) i current w w' j h r c =
      let p = passed (Ops span) rs i current w w' r in
      let long = passed_span span p.width j.0 p.sized in
      let sum = sum_is (Ops span) rs i current w w' p (omega arith) in
      let after = walk_calm rs (suc i) p.sum p.next w' j.1 (omega arith) p.later c in
      rw long (calm_back (Ops span) rs i current w w' p (omega arith) (seen_all bs rs) (sym (done_inj p.marked)) after)
  walk_calm (Data span ∷ rs) i current w w' j h r c =
      let p = passed (Data span) rs i current w w' r in
      let long = passed_span span p.width j.0 p.sized in
      let sum = sum_is (Data span) rs i current w w' p (omega arith) in
      let after = walk_calm rs (suc i) p.sum p.next w' j.1 (omega arith) p.later c in
      rw long (calm_back (Data span) rs i current w w' p (omega arith) (seen_all bs rs) (sym (done_inj p.marked)) after)
  walk_calm (MarkRef x ∷ rs) i current w w' j h r c =
      let p = passed (MarkRef x) rs i current w w' r in
      let wide = passed_ref x p.next.table p.width p.sized in
      let sum = sum_is (MarkRef x) rs i current w w' p (omega arith) in
      let after = walk_calm rs (suc i) p.sum p.next w' j.1 (omega arith) p.later c in
      let calm = calm_back (MarkRef x) rs i current w w' p (omega arith) (seen_all bs rs) (sym (done_inj p.marked)) after in
      (calm.0, (calm.1.0, (p.width, wide.0, calm.1.1)))

  -- ---- the iterations

  -- some walk moved no mark
  record SomeCalm (rs : List AsmSection) : Type 0 where
    from : List ℕ
    to : Walk
    walks : walk_from build rs 0 0 (record { converged = true; table = from }) ≡ done (walked to)
    calm : to.converged ≡ true

  -- the last of them did
  iterate_calm : (left : ℕ) (rs : List AsmSection) (t table : List ℕ) → iterate build left rs t ≡ done (ok table) → SomeCalm rs
  unfolding iterate
  iterate_calm zero rs t table r = panic_done r
  iterate_calm (suc left) rs t table r =
      let a = and_then_done (walk_from build rs 0 0 (record { converged = true; table = t })) (after_walk (iterate build left rs)) (ok table) r in
      go a.0 a.1 a.2 (λ t' q. iterate_calm left rs t' table q)
    where
      go : (x : Walked) → walk_from build rs 0 0 (record { converged = true; table = t }) ≡ done x → after_walk (iterate build left rs) x ≡ done (ok table)
          → ((t' : List ℕ) → iterate build left rs t' ≡ done (ok table) → SomeCalm rs) → SomeCalm rs
      go (too_small i) e q later = let z : ◌≡◌ {A = ℕ} 0 1 = cc in absurd (omega arith)
      go (walked w) e q later = decided w.converged refl q
        where
          decided : (b : Bool) → w.converged ≡ b → decide (iterate build left rs) b w.table ≡ done (ok table) → SomeCalm rs
          decided true c q' = record { from = t; to = w; walks = e; calm = c }
          decided false c q' = later w.table q'

-- ---- `assemble`

-- offsets that converged: no mark is apart
converged_together : (build : Build) (bs : List ℕ) (reserve : Reserve) (rs : List AsmSection) (t table : List ℕ) → EveryIn bs rs → need (seen_all bs rs) < 4294967296
    → converge build reserve rs t ≡ done (ok table) → Never (seen_all bs rs) (apart_at (seen_all bs rs))
unfolding converge
converged_together build bs reserve rs t table j h r =
    let a = and_then_done (start_from build reserve rs 0 t) (iterate build max_iterations rs) (ok table) r in
    let l = iterate_calm build bs max_iterations rs a.0 table a.2 in
    let calm = walk_calm build bs rs 0 0 (record { converged = true; table = l.from }) l.to j (omega arith) l.walks l.calm in
    still_together (seen_all bs rs) (entry l.from) calm.1.0 calm.1.1

pub code_together : (build : Build) (a : Assembler) → Spans a → need (sections_of a) < 4294967296 → CodeTogether build a
unfolding assemble
code_together build a j h reserve hint before table result r =
    let c = and_then_done (converge build reserve (iter_sections a) (replicate (mark_count hint) 0)) (emission a before) (assembled table result) r in
    go c.0 c.1 c.2
  where
    go : (x : Converged) → converge build reserve (iter_sections a) (replicate (mark_count hint) 0) ≡ done x → emission a before x ≡ done (assembled table result)
        → Never (sections_of a) (apart_at (sections_of a))
    go (ok t) e q = converged_together build a.bytes reserve (iter_sections a) (replicate (mark_count hint) 0) t j h e
    go (ref_has_too_small_set_size i) e q = let z : ◌≡◌ {A = ℕ} 0 1 = cc in absurd (omega arith)
