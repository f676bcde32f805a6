-- Op bytes and data pushed to the Rust's store: they join a last section of their kind, and else are a new one. Assumes nothing.
use Prim.Native.Nat.{ℕ, ◌≤◌}
use native.Mathlib.Omega.{arith}
use mathlib.Core.Path.{◌≡◌, refl, ap, ◌∙◌, subst}
use mathlib.Core.Bool.{Bool, true, false, cond}
use mathlib.Core.List.{List, [], ◌∷◌, ◌++◌, append_assoc}
use lib.ListN.{length}
use lib.Dec.{eqb}
use Rattle.records.specs.Sections.{Section, mark, ops, bytes, reference}
use Rattle.calls.specs.Lists.{added_after, added_to}
use Rattle.calls.proofs.OpBytesAnswers.{ops_next}
use Rattle.rust_model.specs.Run.{Run, done, panic, and_then, Build, len_idx, pushed}
use Rattle.units.specs.declared.Span.{Span}
use Rattle.rust_model.specs.Building.{StoredAsmSection, Ops, Data, Assembler, Last, extend_ops, new_ops, op_byte_after, op_byte, op_bytes, longer_data, extend_data, new_data, data_after, pushed_data}
use Rattle.rust_model.specs.Demand2.{sections_of}
use Rattle.rust_model.proofs.Runs.{done_inj, and_then_done, cond_done, len_idx_done, pushed_done}
use Rattle.rust_model.proofs.Adds.{Kept, Adds, as_ops, as_data, last_end, adds_new, adds_joined}
use Rattle.rust_model.proofs.Last.{LastIs, is_ops_lem, is_data, is_other, last_is, apart}

-- ---- one op byte

-- a byte pushed, and what is made of the bytes and of their length
grown_done : (bs : List ℕ) (b : ℕ) (f : List ℕ → ℕ → Assembler) (a' : Assembler) → and_then (pushed bs b) (λ bs'. and_then (len_idx bs') (λ end. done (f bs' end))) ≡ done a'
    → f (bs ++ (b ∷ [])) (length (bs ++ (b ∷ []))) ≡ a'
grown_done bs b f a' r =
    let r₁ = and_then_done (pushed bs b) (λ bs'. and_then (len_idx bs') (λ end. done (f bs' end))) a' r in
    let r₂ = and_then_done (len_idx r₁.0) (λ end. done (f r₁.0 end)) a' r₁.2 in
    ap (λ (x : List ℕ). f x (length x)) (pushed_done bs b r₁.0 r₁.1) ∙ ap (f r₁.0) (len_idx_done r₁.0 r₂.0 r₂.1) ∙ done_inj r₂.2

-- it joins a last Ops section
extend_ops_lem : (a a' : Assembler) (before : List StoredAsmSection) (span : Span ℕ) (b : ℕ) → a.sections ≡ before ++ (Ops span ∷ []) → Kept a
    → extend_ops before span a.bytes b ≡ done a' → Adds (ops (b ∷ [])) a a'
unfolding extend_ops
extend_ops_lem a a' before span b e k r =
    let new : List ℕ → ℕ → Assembler = λ bs' end. record { bytes = bs'; sections = before ++ (Ops (record { start = span.start; end = end }) ∷ []) } in
    let push : Run Assembler = and_then (pushed a.bytes b) (λ bs'. and_then (len_idx bs') (λ end. done (new bs' end))) in
    let r₁ = and_then_done (len_idx a.bytes) (λ len. cond (eqb span.end len) push panic) a' r in
    let r₂ = cond_done (eqb span.end r₁.0) push a' r₁.2 in
    let at : span.end ≡ length a.bytes = last_end as_ops a before span e k in
    subst (Adds (ops (b ∷ [])) a) (grown_done a.bytes b new a' r₂.1) (adds_joined as_ops a.bytes (b ∷ []) a.sections before span e at k)

-- or is a section of its own
new_ops_lem : (a a' : Assembler) (b : ℕ) → added_to (sections_of a) (ops (b ∷ [])) ≡ sections_of a ++ (ops (b ∷ []) ∷ []) → Kept a → new_ops a b ≡ done a' → Adds (ops (b ∷ [])) a a'
unfolding new_ops
new_ops_lem a a' b p k r =
    let new : ℕ → List ℕ → ℕ → Assembler = λ start bs' end. record { bytes = bs'; sections = a.sections ++ (Ops (record { start = start; end = end }) ∷ []) } in
    let r₁ = and_then_done (len_idx a.bytes) (λ start. and_then (pushed a.bytes b) (λ bs'. and_then (len_idx bs') (λ end. done (new start bs' end)))) a' r in
    let start : length a.bytes ≡ r₁.0 = len_idx_done a.bytes r₁.0 r₁.1 in
    let bs' : List ℕ = a.bytes ++ (b ∷ []) in
    subst (Adds (ops (b ∷ [])) a) (ap (λ (x : ℕ). new x bs' (length bs')) start ∙ grown_done a.bytes b (new r₁.0) a' r₁.2)
    (adds_new as_ops a.bytes (b ∷ []) a.sections p k)

op_byte_after_lem : (a a' : Assembler) (b : ℕ) {l : Last} → LastIs a.sections l → Kept a → op_byte_after l a b ≡ done a' → Adds (ops (b ∷ [])) a a'
op_byte_after_lem a a' b (is_ops_lem before span e) k r = extend_ops_lem a a' before span b e k r
op_byte_after_lem a a' b (is_data before span e) k r = new_ops_lem a a' b (apart a.bytes a.sections before (Data span) (ops (b ∷ [])) e refl) k r
op_byte_after_lem a a' b (is_other h) k r = new_ops_lem a a' b (h a.bytes (ops (b ∷ []))) k r

-- `push_op_byte`
pub op_byte_lem : (a a' : Assembler) (b : ℕ) → Kept a → op_byte a b ≡ done a' → Adds (ops (b ∷ [])) a a'
unfolding op_byte
op_byte_lem a a' b k r = op_byte_after_lem a a' b (last_is a.sections) k r

-- ---- op bytes after op bytes

-- a list with op bytes isn't shorter
pub ops_longer : (l : List Section) (bs : List ℕ) → length l ≤ length (added_to l (ops bs))
unfolding added_to added_after
ops_longer [] bs = omega arith
ops_longer (mark m ∷ []) bs = omega arith
ops_longer (ops new ∷ []) bs = omega arith
ops_longer (bytes new ∷ []) bs = omega arith
ops_longer (reference r ∷ []) bs = omega arith
ops_longer (x ∷ y ∷ ys) bs = omega (arith, ops_longer (y ∷ ys) bs)

adds_join : (a b c : Assembler) (bs cs : List ℕ) → Adds (ops bs) a b → Adds (ops cs) b c → Adds (ops (bs ++ cs)) a c
adds_join a b c bs cs p q =
    record {
      bytes_added = q.bytes_added ∙ ap (λ (l : List ℕ). l ++ cs) p.bytes_added ∙ append_assoc a.bytes bs cs;
      list = q.list ∙ ap (λ (l : List Section). added_to l (ops cs)) p.list ∙ ops_next (sections_of a) bs cs;
      kept = q.kept;
    }

-- one byte after another, at least one
pub op_bytes_lem : (a a' : Assembler) (b : ℕ) (bs : List ℕ) → Kept a → op_bytes a (b ∷ bs) ≡ done a' → Adds (ops (b ∷ bs)) a a'
unfolding op_bytes
op_bytes_lem a a' b [] k r =
    let s = and_then_done (op_byte a b) (λ x. op_bytes x []) a' r in
    subst (Adds (ops (b ∷ [])) a) (done_inj s.2) (op_byte_lem a s.0 b k s.1)
op_bytes_lem a a' b (c ∷ cs) k r =
    let s = and_then_done (op_byte a b) (λ x. op_bytes x (c ∷ cs)) a' r in
    let first : Adds (ops (b ∷ [])) a s.0 = op_byte_lem a s.0 b k s.1 in
    adds_join a s.0 a' (b ∷ []) (c ∷ cs) first (op_bytes_lem s.0 a' c cs first.kept s.2)

-- ---- data

-- they join a last Data section
longer_data_lem : (a a' : Assembler) (before : List StoredAsmSection) (span : Span ℕ) (more : List ℕ) → a.sections ≡ before ++ (Data span ∷ []) → Kept a
    → longer_data before span a.bytes more ≡ done a' → Adds (bytes more) a a'
unfolding longer_data
longer_data_lem a a' before span more e k r =
    let new : ℕ → Assembler = λ end. record { bytes = a.bytes ++ more; sections = before ++ (Data (record { start = span.start; end = end }) ∷ []) } in
    let r₁ = and_then_done (len_idx (a.bytes ++ more)) (λ end. done (new end)) a' r in
    let at : span.end ≡ length a.bytes = last_end as_data a before span e k in
    subst (Adds (bytes more) a) (ap new (len_idx_done (a.bytes ++ more) r₁.0 r₁.1) ∙ done_inj r₁.2) (adds_joined as_data a.bytes more a.sections before span e at k)

-- with debug assertions or without
extend_data_lem : (build : Build) (a a' : Assembler) (before : List StoredAsmSection) (span : Span ℕ) (more : List ℕ) → a.sections ≡ before ++ (Data span ∷ []) → Kept a
    → extend_data build before span a.bytes more ≡ done a' → Adds (bytes more) a a'
unfolding extend_data
extend_data_lem build a a' before span more e k r = longer_data_lem a a' before span more e k (asserted build.debug_assertions r)
  where
    asserted : (b : Bool) → cond b (cond (eqb span.end (length a.bytes)) (longer_data before span a.bytes more) panic) (longer_data before span a.bytes more) ≡ done a'
        → longer_data before span a.bytes more ≡ done a'
    asserted true q = (cond_done (eqb span.end (length a.bytes)) (longer_data before span a.bytes more) a' q).1
    asserted false q = q

-- or are a section of their own
new_data_lem : (a a' : Assembler) (more : List ℕ) → added_to (sections_of a) (bytes more) ≡ sections_of a ++ (bytes more ∷ []) → Kept a → new_data a more ≡ done a' → Adds (bytes more) a a'
unfolding new_data
new_data_lem a a' more p k r =
    let new : ℕ → ℕ → Assembler = λ start end. record { bytes = a.bytes ++ more; sections = a.sections ++ (Data (record { start = start; end = end }) ∷ []) } in
    let r₁ = and_then_done (len_idx a.bytes) (λ start. and_then (len_idx (a.bytes ++ more)) (λ end. done (new start end))) a' r in
    let r₂ = and_then_done (len_idx (a.bytes ++ more)) (λ end. done (new r₁.0 end)) a' r₁.2 in
    let start : length a.bytes ≡ r₁.0 = len_idx_done a.bytes r₁.0 r₁.1 in
    let end : length (a.bytes ++ more) ≡ r₂.0 = len_idx_done (a.bytes ++ more) r₂.0 r₂.1 in
    subst (Adds (bytes more) a) (ap (λ (x : ℕ). new x (length (a.bytes ++ more))) start ∙ ap (new r₁.0) end ∙ done_inj r₂.2)
    (adds_new as_data a.bytes more a.sections p k)

data_after_lem : (build : Build) (a a' : Assembler) (more : List ℕ) {l : Last} → LastIs a.sections l → Kept a → data_after build l a more ≡ done a' → Adds (bytes more) a a'
data_after_lem build a a' more (is_ops_lem before span e) k r = new_data_lem a a' more (apart a.bytes a.sections before (Ops span) (bytes more) e refl) k r
data_after_lem build a a' more (is_data before span e) k r = extend_data_lem build a a' before span more e k r
data_after_lem build a a' more (is_other h) k r = new_data_lem a a' more (h a.bytes (bytes more)) k r

-- `push_data`
pub push_data_lem : (build : Build) (a a' : Assembler) (more : List ℕ) → Kept a → pushed_data build a more ≡ done a' → Adds (bytes more) a a'
unfolding pushed_data
push_data_lem build a a' more k r = data_after_lem build a a' more (last_is a.sections) k r
