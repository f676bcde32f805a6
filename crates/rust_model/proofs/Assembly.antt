-- The Rust's `assemble` against ours: what each comes to, over an undamaged store that decodes to the Rust's list. Assumes nothing.
use Rattle.std.specs.Prelude.{Option}
use Prim.Native.Nat.{ℕ, zero, suc, ◌+◌, ◌≤◌, ◌<◌}
use native.Mathlib.Omega.{arith}
use mathlib.Core.Path.{◌≡◌, refl, sym, ap, ◌∙◌, subst}
use mathlib.Core.Bool.{Bool, true, false, not, ◌||◌}
use mathlib.Core.Logic.{◌⊎◌, inl, inr}
use mathlib.Core.List.{List, [], ◌∷◌, ◌++◌, map}
use lib.Dec.{leb}
use lib.ListN.{length}
use borrow.Author.Tests.{leb-false, lt-leb, not-false}
use Rattle.units.specs.Replies.{too_narrow}
use Rattle.units.specs.Reply.{refused, numbers_reply}
use Rattle.units.specs.declared.MarkReference.{MarkReference}
use Rattle.units.specs.declared.MarkReference.TheVariants.{Direct, Delta}
use Rattle.records.specs.Damage.{Sound}
use Rattle.records.specs.Store.{Store, words_per_section}
use Rattle.records.specs.Sections.{Section, mark, ops, bytes, reference, decode}
use Rattle.slices.specs.Over.{over}
use Rattle.undamaged.specs.View.{Undamaged}
use Rattle.undamaged.proofs.Soundness.{undamaged_iff}
use Rattle.layout.specs.Passes.{entry, Settling, settled, narrow_at, unsettled, settle}
use Rattle.layout.specs.Conditions.{section_at, IsFirst, Never, places_some, some_mark, names_some, refers, placed, short_at, unplaced_at, backward_by, backward_at}
use Rattle.layout.specs.Answer.{LayoutRefusal, laid_out, no_layout, layout_numbers, Answer, answer, Says}
use Rattle.layout.specs.Answer as layout
use Rattle.layout.proofs.Answers.{settle_law, answer_law}
use Rattle.layout.proofs.Least.{first_or_never}
use Rattle.layout.proofs.Moves.{Still}
use Rattle.slices.proofs.Tests.{or-false}
use Rattle.layout.proofs.Rule.{Sizes}
use Rattle.layout.proofs.WidthRule.{width_rule}
use Rattle.layout.proofs.Walks.{All}
use Rattle.layout.proofs.Premises.{all_at}
use Rattle.layout.proofs.Apart.{placed_law}
use Rattle.assembler.specs.Emission.{reference_bytes, section_bytes, in_a_row, code_of}
use Rattle.layout.proofs.Places.{settled_still}
use Rattle.settling.specs.Settle.{Settlement, settlement, settling}
use Rattle.assembler.specs.Assemble.{Outcome, written, assembly}
use Rattle.settling.proofs.Decoded.{stored_small}
use Rattle.settling.proofs.SettlingLaw.{sound_settles}
use Rattle.assembler.proofs.Laid.{laid}
use Rattle.assembler.proofs.Outcomes.{LaidBy, outcome_refused, outcome_written, fits_law}
use Rattle.rust_model.specs.Run.{Run, done, panic, and_then, Build}
use Rattle.rust_model.specs.Building.{Assembler}
use Rattle.rust_model.specs.Sections.{AsmSection, Mark, Ops, Data, MarkRef, iter_sections}
use Rattle.rust_model.specs.Assemble.{Reserve, Reserves, Converged, ok, ref_has_too_small_set_size, mark_count, Assembled, assembled, emit_from, emission, assemble}
use Rattle.rust_model.specs.Demand2.{seen, sections_of, Assembles, SameAssembly}
use Rattle.rust_model.proofs.Spans.{Spans}
use Rattle.rust_model.proofs.Steps.{index_done, MarksIn}
use Rattle.rust_model.proofs.Offsets.{EveryMap, need, rust_settling, converge_same}
use Rattle.rust_model.proofs.Lent.{Alike, Uses, value_alike, SameSettling, uses_placed, settle_alike}
use Rattle.rust_model.proofs.TableGrowth.{last_length, last_placed, converge_grown}
use Rattle.rust_model.proofs.Emission.{Ready, emit_same, emit_panic}

-- ---- marks within a table, from marks that are placed

-- a reference whose marks count, by a length above every one of them
marks_in : (P : ℕ → Bool) (n : ℕ) → ((m : ℕ) → P m ≡ true → m < n) → (r : MarkReference) → some_mark (λ m. not (P m)) r ≡ false → MarksIn n r
marks_in P n h (Direct m) k = h m.0 (not-false (P m.0) k)
marks_in P n h (Delta d) k =
    let q = or-false (not (P d.start.0)) (not (P d.end.0)) k in
    (h d.start.0 (not-false (P d.start.0) q.0), h d.end.0 (not-false (P d.end.0) q.1))

every_map : (P : ℕ → Bool) (n : ℕ) → ((m : ℕ) → P m ≡ true → m < n) → (bs : List ℕ) (rs : List AsmSection) → All (Uses P) (map (seen bs) rs) → EveryMap n rs
every_map P n h bs [] k = tt
every_map P n h bs (Mark id ∷ rs) k = (h id (not-false (P id) k.0.0), every_map P n h bs rs k.1)
every_map P n h bs (Ops span ∷ rs) k = (tt, every_map P n h bs rs k.1)
every_map P n h bs (Data span ∷ rs) k = (tt, every_map P n h bs rs k.1)
every_map P n h bs (MarkRef r ∷ rs) k = (marks_in P n h r.mark_ref k.0.1, every_map P n h bs rs k.1)

-- none of its marks is past the table
some_in : (n : ℕ) (r : MarkReference) → MarksIn n r → some_mark (leb n) r ≡ false
some_in n (Direct m) h = lt-leb n m.0 h
some_in n (Delta d) h = rw (lt-leb n d.start.0 h.0, lt-leb n d.end.0 h.1)

-- a table longer than every placed mark is longer than every mark, where no named one is unplaced
none_short : (n : ℕ) (ss : List Section) → Never ss (unplaced_at ss) → ((m : ℕ) → placed ss m ≡ true → m < n) → Never ss (short_at n ss)
unfolding short_at unplaced_at
none_short n ss u h i l = go (section_at ss i) refl (u i l)
  where
    go : (s : Section) → section_at ss i ≡ s → names_some (λ m. not (placed ss m)) s ≡ false → (places_some (leb n) s || names_some (leb n) s) ≡ false
    go (mark m) e k = rw (lt-leb n m (h m ((placed_law ss m).1 (i, l, e))))
    go (ops x) e k = refl
    go (bytes x) e k = refl
    go (reference r) e k = some_in n r.mark_ref (marks_in (placed ss) n h r.mark_ref k)

-- and a placed mark is below a table's length where 7 holds of no section
pub below_length : (n : ℕ) (ss : List Section) → Never ss (short_at n ss) → (m : ℕ) → placed ss m ≡ true → m < n
unfolding short_at
below_length n ss h m p =
    let q = (placed_law ss m).0 p in
    let s : (places_some (leb n) (mark m) || names_some (leb n) (mark m)) ≡ false = subst (λ (x : Section). (places_some (leb n) x || names_some (leb n) x) ≡ false) q.2 (h q.0 q.1) in
    leb-false n m (or-false (leb n m) false s).0

-- ---- by the Rust's table and by the lent one

-- a settled table gives every reference room
still_ready : (t : List ℕ) (ss : List Section) (s e : ℕ) → Still (Sizes width_rule) ss s (entry t) e → All (Ready t) ss
still_ready t [] s e h = tt
still_ready t (mark m ∷ ss) s e h = (tt, still_ready t ss s e h.1)
still_ready t (ops x ∷ ss) s e h = (tt, still_ready t ss (s + length x) e h)
still_ready t (bytes x ∷ ss) s e h = (tt, still_ready t ss (s + length x) e h)
still_ready t (reference r ∷ ss) s e h = (h.1.1, still_ready t ss (s + h.0) e h.2)

module _ (P : ℕ → Bool) (t u : List ℕ) (h : Alike P t u) where
  -- a delta is backward by both or by neither
  backward_same : (r : MarkReference) → some_mark (λ m. not (P m)) r ≡ false → backward_by t r ≡ backward_by u r
  backward_same (Direct m) k = refl
  backward_same (Delta d) k =
      let q = or-false (not (P d.start.0)) (not (P d.end.0)) k in
      rw ((h d.start.0 (not-false (P d.start.0) q.0)).same, (h d.end.0 (not-false (P d.end.0) q.1)).same)

  refers_same : (s : Section) → Uses P s → refers (backward_by t) s ≡ refers (backward_by u) s
  refers_same (mark m) k = refl
  refers_same (ops x) k = refl
  refers_same (bytes x) k = refl
  refers_same (reference r) k = backward_same r.mark_ref k.1

  -- the bytes of a section are the same
  bytes_same : (s : Section) → Uses P s → section_bytes (entry t) s ≡ section_bytes (entry u) s
  bytes_same (mark m) k = refl
  bytes_same (ops x) k = refl
  bytes_same (bytes x) k = refl
  bytes_same (reference r) k = ap (λ (v : ℕ). reference_bytes r v) (value_alike P t u r.mark_ref k.1 h)

  code_same : (ss : List Section) → All (Uses P) ss → code_of (entry t) ss ≡ code_of (entry u) ss
  unfolding in_a_row
  code_same [] k = refl
  code_same (s ∷ ss) k =
      ap (λ (x : List ℕ). x ++ code_of (entry t) ss) (bytes_same s k.0) ∙ ap (λ (x : List ℕ). section_bytes (entry u) s ++ x) (code_same ss k.1)

-- what holds of every section holds at every index
at_all : (Q : Section → Type 0) (ss : List Section) → All Q ss → (i : ℕ) → i < length ss → Q (section_at ss i)
at_all Q [] h i l = absurd (omega arith)
at_all Q (s ∷ ss) h zero l = h.0
at_all Q (s ∷ ss) h (suc i) l = at_all Q ss h.1 i (omega arith)

-- no sum of sizes overflows
pub sums_small : (a : Assembler) (st : Store) → Undamaged words_per_section st → decode words_per_section st ≡ sections_of a → need (sections_of a) < 4294967296
sums_small a st undamaged decoded =
    subst (λ (l : List Section). need l < 4294967296) decoded (stored_small words_per_section st ((undamaged_iff words_per_section st).0 undamaged))

-- ---- assembly

module _
    (build : Build) (a : Assembler) (st : Store) (spans : Spans a) (undamaged : Undamaged words_per_section st) (decoded : decode words_per_section st ≡ sections_of a)
    (lent : ℕ) (given : Assembles a lent) (reserve : Reserve) (promise : Reserves reserve) (hint : Option ℕ) (before result : List ℕ) (position : ℕ)
  where
    -- the sections
    abbrev ss : List Section
    ss = sections_of a

    -- the Rust's sections
    abbrev rs : List AsmSection
    rs = iter_sections a

    -- the length of the Rust's table in the end, which is longer than every placed mark
    abbrev own : ℕ
    own = last_length reserve rs (mark_count hint)

    grown : (m : ℕ) → placed ss m ≡ true → m < own
    grown = last_placed reserve promise a.bytes rs (mark_count hint)

    abbrev theirs : Run Assembled
    theirs = assemble build reserve hint a before

    abbrev ours : Outcome
    ours = assembly words_per_section st lent result position

    uses : All (Uses (placed ss)) ss
    uses = uses_placed ss given.marks_placed

    in-own : EveryMap own rs
    in-own = every_map (placed ss) own grown a.bytes rs uses

    -- no sum overflows
    small : need ss < 4294967296
    small = sums_small a st undamaged decoded

    -- 7, 8, 17, 18 and 9 don't hold
    sound : layout.Sound lent ss
    sound = (given.in_table, given.marks_placed, given.together)

    -- our settling answers for these sections
    answers : settling words_per_section lent st ≡ settlement lent Sound (answer lent ss)
    answers = sound_settles words_per_section lent st undamaged ∙ ap (λ (l : List Section). settlement lent Sound (answer lent l)) decoded

    -- by an answer whose condition holds
    answered : (x : Answer) → Says lent ss x → settling words_per_section lent st ≡ settlement lent Sound x
    answered x s = answers ∙ ap (settlement lent Sound) ((answer_law lent ss x).1 s)

    -- a refusal of ours
    refuses : (r : LayoutRefusal) → Says lent ss (no_layout r) → ours.reply ≡ numbers_reply (layout_numbers r)
    refuses r s =
        ap (λ (o : Outcome). o.reply)
        (outcome_refused words_per_section st lent result position _ _ _ (ap (λ (x : Settlement). x.reply) (answered (no_layout r) s)))

    -- the Rust after its offsets have converged
    converged : (c : Run Converged) → rust_settling (settle own ss) ≡ c → theirs ≡ and_then c (emission a before)
    unfolding assemble
    converged c e = ap (λ (x : Run Converged). and_then x (emission a before)) (converge_grown build reserve promise rs (mark_count hint) ∙ converge_same build a.bytes own rs spans in-own small ∙ e)

    -- ---- settled by both

    module _ (T t : List ℕ) (e e' k k' : ℕ) (byOwn : settle own ss ≡ settled T e k) (byLent : settle lent ss ≡ settled t e' k') (alike : Alike (placed ss) T t) where
      -- the Rust's table, and that each reference has room by it
      own-still : (length T ≡ own) × Still (Sizes width_rule) ss 0 (entry T) e
      own-still = settled_still own ss T e k (none_short own ss given.marks_placed grown) byOwn

      in_map : EveryMap (length T) rs
      in_map = subst (λ (n : ℕ). EveryMap n rs) (sym own-still.0) in-own

      -- a delta is backward by both tables or by neither
      backward-at : (i : ℕ) → i < length ss → refers (backward_by T) (section_at ss i) ≡ backward_at t ss i
      unfolding backward_at
      backward-at i l = refers_same (placed ss) T t alike (section_at ss i) (at_all (Uses (placed ss)) ss uses i l)

      -- the code
      abbrev code : List ℕ
      code = code_of (entry t) ss

      -- no delta is backward: the Rust appends the code, and ours is written where it fits
      forward : Never ss (backward_at t ss) → SameAssembly a before result position ours theirs
      forward never =
          let rust : emit_from a.bytes T rs before ≡ done (before ++ code_of (entry T) ss) =
          emit_same a.bytes T rs before spans in_map (still_ready T ss 0 e own-still.1)
          (all_at (λ s. refers (backward_by T) s ≡ false) ss (λ i l. backward-at i l ∙ never i l)) in
          let is : theirs ≡ done (assembled T (before ++ code_of (entry T) ss)) =
          converged (done (ok T)) (ap rust_settling byOwn) ∙ ap (λ (x : Run (List ℕ)). and_then x (λ result'. done (assembled T result'))) rust in
          let out : LaidBy words_per_section lent st t e' k' = answered (laid_out t e' k') (sound, (settle_law lent ss (settled t e' k')).0 byLent, never) in
          let long : length code ≡ e' = subst (λ (l : List Section). length (code_of (entry t) l) ≡ e') decoded (laid words_per_section lent st t e' k' out).code_long in
          let ours-is : position + length code ≤ length result → ours ≡ record { reply = written e' k'; table = t; result = over result position (code_of (entry t) (decode words_per_section st)) } =
          λ fits. outcome_written words_per_section st lent result position t e' k' out ((fits_law (length result) position e').1 (omega arith)) in
          subst (SameAssembly a before result position ours) (sym is)
          (record {
            code = code;
            appended = ap (λ (x : List ℕ). before ++ x) (code_same (placed ss) T t alike ss uses);
            passes = k';
            reply = λ fits. ap (λ (o : Outcome). o.reply) (ours-is fits) ∙ ap (λ (x : ℕ). written x k') (sym long);
            wrote = λ fits. ap (λ (o : Outcome). o.result) (ours-is fits) ∙ ap (λ (l : List Section). over result position (code_of (entry t) l)) decoded;
            offsets = λ fits m p. index_done T m (alike m p).first ∙ ap done ((alike m p).same ∙ sym (ap (λ (o : Outcome). entry o.table m) (ours-is fits)));
          })

      -- some delta is backward: the Rust panics, and ours is 12
      backward : (i : ℕ) → IsFirst ss (backward_at t ss) i → SameAssembly a before result position ours theirs
      backward i first =
          let is : theirs ≡ panic =
          converged (done (ok T)) (ap rust_settling byOwn)
          ∙ ap (λ (x : Run (List ℕ)). and_then x (λ result'. done (assembled T result'))) (emit_panic a.bytes T rs before i in_map first.0 (backward-at i first.0 ∙ first.1)) in
          let says : Says lent ss (no_layout (layout.backward i k')) = (t, e', sound, (settle_law lent ss (settled t e' k')).0 byLent, first) in
          subst (SameAssembly a before result position ours) (sym is) (i, k', inr (refuses (layout.backward i k') says))

      settled_same : SameAssembly a before result position ours theirs
      settled_same = go (first_or_never ss (backward_at t ss))
        where
          go : ((i : ℕ) × IsFirst ss (backward_at t ss) i) ⊎ Never ss (backward_at t ss) → SameAssembly a before result position ours theirs
          go (inl b) = backward b.0 b.1
          go (inr n) = forward n

    -- ---- what both come to

    pub assembly_same : SameAssembly a before result position ours theirs
    assembly_same = go (settle own ss) refl (settle lent ss) refl (settle_alike own lent ss given.marks_placed grown (below_length lent ss given.in_table))
      where
        go : (x : Settling) → settle own ss ≡ x → (y : Settling) → settle lent ss ≡ y → SameSettling (placed ss) x y → SameAssembly a before result position ours theirs
        go (settled T e k) p (settled t e' k') q s = settled_same T t e e' k k' p q s.2
        go (settled T e k) p (narrow_at j k') q s = absurd s
        go (settled T e k) p unsettled q s = absurd s
        go (narrow_at i k) p (settled t e' k') q s = absurd s
        go (narrow_at i k) p (narrow_at j k') q s =
            subst (SameAssembly a before result position ours) (sym (converged (done (ref_has_too_small_set_size i)) (ap rust_settling p)))
            (k', refuses (layout.too_narrow j k') (sound, (settle_law lent ss (narrow_at j k')).0 q) ∙ ap (λ (x : ℕ). refused too_narrow x k') (sym s.0))
        go (narrow_at i k) p unsettled q s = absurd s
        go unsettled p (settled t e' k') q s = absurd s
        go unsettled p (narrow_at j k') q s = absurd s
        go unsettled p unsettled q s =
            subst (SameAssembly a before result position ours) (sym (converged panic (ap rust_settling p)))
            (0, 1024, inl (refuses layout.unsettled (sound, (settle_law lent ss unsettled).0 q)))
