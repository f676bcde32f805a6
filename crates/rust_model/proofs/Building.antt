-- Demand 2, the building calls: on every list of them that the Rust accepts within 01's limits and the lent slices, ours are all stored,
-- and the store decodes to the Rust's list; and where ours are all stored, the Rust doesn't panic. Assumes nothing.
use Prim.Native.Nat.{ℕ, ◌+◌, ◌*◌, ◌≤◌, min}
use native.Mathlib.Omega.{arith}
use mathlib.Core.Path.{◌≡◌, refl, sym, ap, ◌∙◌, subst}
use mathlib.Core.Bool.{false, not}
use mathlib.Mathlib.Data.Bool.Basic.{or-eq-false-eq-eq-false-and-eq-false as or-false}
use mathlib.Core.List.{List, [], ◌∷◌, ◌++◌}
use lib.ListN.{length, length-append, length-map}
use lib.Dec.{ltb}
use borrow.Author.Tests.{not-true, le-ltb, ltb-false}
use Rattle.units.specs.Reply.{accepted, refused}
use Rattle.records.specs.declared.Assembler as records
use Rattle.records.specs.Store.{Store, words_per_section, counts_of, max_bytes, max_sections}
use Rattle.records.specs.Damage.{last_soundness}
use Rattle.records.specs.Sections.{Section, decode}
use Rattle.calls.specs.Calls.{BuiltReply, Push, push_op_byte, Call, push, push_op_bytes, clear, has_large_mark, added, bytes_of, joins, with_section, bytes_pass, no_section_left, section_passes, push_reply, push_after, all_reply, each_after, each_op_byte, call_reply, call_after, run_replies, run_after, emptied}
use Rattle.calls.specs.Lists.{added_to}
use Rattle.undamaged.specs.View.{Undamaged}
use Rattle.calls.specs.Answers.{IsStored, EveryStored}
use Rattle.undamaged.specs.View.{unsound}
use Rattle.slices.proofs.Tests.{false_and}
use Rattle.undamaged.proofs.Soundness.{undamaged_iff, undamaged_last_sound}
use Rattle.calls.proofs.Added.{BytesRoom, added_apart}
use Rattle.calls.proofs.OpBytes.{with_bytes}
use Rattle.calls.proofs.Refusals.{push_answers, accepted_added, all_next, all_first, all_each}
use Rattle.calls.proofs.Calls.{large_same, call_kept, call_accepted, emptied_undamaged, emptied_decode}
use Rattle.settling.proofs.Sections.{decode_count}
use Rattle.rust_model.specs.Run.{done, Build}
use Rattle.rust_model.specs.Building.{Assembler, empty, op_byte, op_bytes, push_call, call, calls}
use Rattle.rust_model.specs.Sections.{from_stored, iter_sections}
use Rattle.rust_model.specs.Demand2.{seen, sections_of, Fits, marks_within, AlwaysFits, Builds, opened, built, SameStore}
use Rattle.rust_model.proofs.Spans.{Spans}
use Rattle.rust_model.proofs.Runs.{done_inj, and_then_done}
use Rattle.rust_model.proofs.Adds.{Kept}
use Rattle.rust_model.proofs.Bytes.{op_bytes_lem, ops_longer}
use Rattle.rust_model.proofs.Pushes.{Pushed, push_same}
use Rattle.rust_model.proofs.Converse.{Comes, push_comes}

-- as many sections as the Rust's list has
list_count : (a : Assembler) → length (sections_of a) ≡ length a.sections
list_count a = length-map (iter_sections a) (seen a.bytes) ∙ length-map a.sections from_stored

-- our store and the Rust's are the same, on slices of the lengths lent
record Same (bs words : List ℕ) (st : Store) (a : Assembler) : Type 0 where
  undamaged : Undamaged words_per_section st
  decoded : decode words_per_section st ≡ sections_of a
  count : st.stored_bytes ≡ length a.bytes
  bytes_lent : length st.bytes ≡ length bs
  words_lent : length st.words ≡ length words
  kept : Kept a

same_count : (bs words : List ℕ) (st : Store) (a : Assembler) → Same bs words st a → st.sections ≡ length a.sections
same_count bs words st a s = sym (decode_count words_per_section st) ∙ ap length s.decoded ∙ list_count a

-- ---- one push

module _ (bs words : List ℕ) (st : Store) (a a' : Assembler) (p : Push) (same : Same bs words st a) (q : Pushed p a a') where
  -- the bytes afterwards
  bytes_after : st.stored_bytes + length (bytes_of (added p)) ≡ length a'.bytes
  bytes_after = ap (λ (n : ℕ). n + length (bytes_of (added p))) same.count ∙ sym (length-append a.bytes (bytes_of (added p))) ∙ sym (ap length q.adds.bytes_added)

  -- where ours is stored, the stores are the same afterwards
  same_after : (counts : records.Assembler) → push_reply words_per_section p st ≡ accepted counts → Same bs words (push_after words_per_section p st) a'
  same_after counts reply =
      let accepted = call_accepted words_per_section (push p) st counts (omega arith) same.undamaged reply in
      let slices = call_kept words_per_section (push p) st (omega arith) in
      record {
        undamaged = accepted.undamaged;
        decoded = accepted.list ∙ ap (λ (l : List Section). added_to l (added p)) same.decoded ∙ sym q.adds.list;
        count = ap (λ (x : Store). x.stored_bytes) (accepted_added words_per_section p st counts reply) ∙ (with_bytes words_per_section (added p) st).1 ∙ bytes_after;
        bytes_lent = slices.bytes_length ∙ same.bytes_lent;
        words_lent = slices.words_length ∙ same.words_lent;
        kept = q.adds.kept;
      }

  module _ (fits : Fits bs words a') (small : has_large_mark p ≡ false) where
    -- the bytes fit
    bytes_room : BytesRoom (added p) st
    bytes_room = record { fits = omega (arith, bytes_after, fits.bytes_fit, same.bytes_lent); limit = omega (arith, bytes_after, fits.bytes_limit) }

    not_bytes : bytes_pass (added p) st ≡ false
    unfolding bytes_pass
    not_bytes = le-ltb _ (st.stored_bytes + length (bytes_of (added p))) (omega (arith, bytes_room.fits, bytes_room.limit))

    -- a section that doesn't join is one more
    one_more : joins words_per_section (added p) st ≡ false → st.sections + 1 ≡ length a'.sections
    one_more e =
        let f = (undamaged_iff words_per_section st).0 same.undamaged in
        let apart : added_to (decode words_per_section st) (added p) ≡ decode words_per_section st ++ (added p ∷ []) = added_apart words_per_section (added p) st (omega arith) f (sym (large_same p) ∙ small) bytes_room e in
        let grown : sections_of a' ≡ decode words_per_section st ++ (added p ∷ []) = q.adds.list ∙ ap (λ (l : List Section). added_to l (added p)) (sym same.decoded) ∙ apart in
        omega (arith, decode_count words_per_section st, length-append (decode words_per_section st) (added p ∷ []), ap length grown, list_count a')

    -- it fits
    not_section : section_passes words_per_section (added p) st ≡ false
    unfolding section_passes no_section_left
    not_section =
        false_and (not (joins words_per_section (added p) st)) _ (λ t.
        let n : st.sections + 1 ≡ length a'.sections = one_more (not-true _ t) in
        (or-false (ltb max_sections (st.sections + 1)) (ltb (length st.words) (words_per_section * (st.sections + 1)))).1
        (le-ltb max_sections (st.sections + 1) (omega (arith, n, fits.sections_limit)), le-ltb (length st.words) (words_per_section * (st.sections + 1)) (omega (arith, n, fits.words_fit, same.words_lent))))

    -- so the call is stored
    reply : push_reply words_per_section p st ≡ accepted (counts_of (with_section words_per_section (added p) st))
    reply =
        let sound : unsound (last_soundness words_per_section st) ≡ false = ap unsound (undamaged_last_sound words_per_section st same.undamaged) in
        ((push_answers words_per_section p st).accepted_iff _).1 ((q.depth, (q.word, (small, (sound, (not_bytes, (not_section, tt)))))), refl)

-- ---- any call, and lists of them

module _ (build : Build) (bs words : List ℕ) where
  -- the empty store
  same_empty : (st : Store) → length st.bytes ≡ length bs → length st.words ≡ length words → Same bs words (emptied st) empty
  same_empty st b w =
      record {
        undamaged = emptied_undamaged words_per_section st;
        decoded = emptied_decode words_per_section st;
        count = refl;
        bytes_lent = b;
        words_lent = w;
        kept = record { spans = tt; last = tt };
      }

  -- a call that adds
  pushed_same : (p : Push) (st : Store) (a a' : Assembler) → Same bs words st a → has_large_mark p ≡ false → push_call build p a ≡ done a' → Fits bs words a'
      → (counts : records.Assembler) × (push_reply words_per_section p st ≡ accepted counts) × Same bs words (push_after words_per_section p st) a'
  pushed_same p st a a' s m r f =
      let q : Pushed p a a' = push_same build p a a' s.kept r in
      let stored = reply bs words st a a' p s q f m in
      (_, stored, same_after bs words st a a' p s q _ stored)

  -- what fits after op bytes fitted before them: neither bytes nor sections get fewer
  fits_before : (run : List ℕ) (a a' : Assembler) → Kept a → op_bytes a run ≡ done a' → Fits bs words a' → Fits bs words a
  unfolding op_bytes
  fits_before [] a a' k r f = subst (Fits bs words) (sym (done_inj r)) f
  fits_before (b ∷ run) a a' k r f =
      let q = op_bytes_lem a a' b run k r in
      let long : length a'.bytes ≡ length a.bytes + length (b ∷ run) = ap length q.bytes_added ∙ length-append a.bytes (b ∷ run) in
      let more : length a.sections ≤ length a'.sections = omega (arith, ops_longer (sections_of a) (b ∷ run), ap length q.list, list_count a, list_count a') in
      record {
        bytes_limit = omega (arith, f.bytes_limit);
        bytes_fit = omega (arith, f.bytes_fit);
        sections_limit = omega (arith, f.sections_limit);
        words_fit = omega (arith, f.words_fit);
      }

  -- a run of op bytes: each is stored
  bytes_same : (run : List ℕ) (st : Store) (a a' : Assembler) → Same bs words st a → op_bytes a run ≡ done a' → Fits bs words a'
      → (counts : records.Assembler) × (all_reply words_per_section (each_op_byte run) st ≡ accepted counts) × Same bs words (each_after words_per_section (each_op_byte run) st) a'
  unfolding op_bytes all_reply each_after
  bytes_same [] st a a' s r f = (counts_of st, refl, subst (Same bs words st) (done_inj r) s)
  bytes_same (b ∷ run) st a a' s r f =
      let r₁ = and_then_done (op_byte a b) (λ x. op_bytes x run) a' r in
      let k = (push_same build (push_op_byte b) a r₁.0 s.kept r₁.1).adds.kept in
      let one = pushed_same (push_op_byte b) st a r₁.0 s refl r₁.1 (fits_before run r₁.0 a' k r₁.2 f) in
      let rest = bytes_same run (push_after words_per_section (push_op_byte b) st) r₁.0 a' one.2 r₁.2 f in
      (rest.0, all_next words_per_section (push_op_byte b) (each_op_byte run) st one.0 one.1 ∙ rest.1, rest.2)

  call_same : (c : Call) (st : Store) (a a' : Assembler) → Same bs words st a → marks_within c → call build c a ≡ done a' → Fits bs words a'
      → IsStored (call_reply words_per_section c st) × Same bs words (call_after words_per_section c st) a'
  call_same (push p) st a a' s m r f =
      let one = pushed_same p st a a' s m r f in
      (subst IsStored (sym one.1) tt, one.2)
  call_same (push_op_bytes run) st a a' s m r f =
      let all = bytes_same run st a a' s r f in
      (subst IsStored (sym all.1) tt, rw (all_each words_per_section (each_op_byte run) st all.0 all.1) all.2)
  call_same clear st a a' s m r f = (tt, subst (Same bs words (emptied st)) (done_inj r) (same_empty st s.bytes_lent s.words_lent))

  run_same : (cs : List Call) (st : Store) (a a' : Assembler) → Same bs words st a → calls build cs a ≡ done a' → AlwaysFits build bs words cs a
      → EveryStored (run_replies words_per_section cs st) × Same bs words (run_after words_per_section cs st) a'
  unfolding calls AlwaysFits run_replies run_after
  run_same [] st a a' s r f = (tt, subst (Same bs words st) (done_inj r) s)
  run_same (c ∷ cs) st a a' s r f =
      let r₁ = and_then_done (call build c a) (calls build cs) a' r in
      let g = f.1 r₁.0 r₁.1 in
      let one = call_same c st a r₁.0 s f.0 r₁.1 g.0 in
      let rest = run_same cs (call_after words_per_section c st) r₁.0 a' one.1 r₁.2 g.1 in
      ((one.0, rest.0), rest.1)

  -- ---- the other way round

  -- what the Rust has is within the limits and the slices, as what ours has is
  same_fits : (st : Store) (a : Assembler) → Same bs words st a → Fits bs words a
  same_fits st a s =
      let f = (undamaged_iff words_per_section st).0 s.undamaged in
      let n : st.sections ≡ length a.sections = same_count bs words st a s in
      record {
        bytes_limit = omega (arith, f.bytes_limit, s.count);
        bytes_fit = omega (arith, f.bytes_fit, s.count, s.bytes_lent);
        sections_limit = omega (arith, f.sections_limit);
        words_fit = omega (arith, f.words_fit, s.words_lent);
      }

  -- the bytes of an accepted call are within the limit
  room : (p : Push) (st : Store) → bytes_pass (added p) st ≡ false → st.stored_bytes + length (bytes_of (added p)) ≤ max_bytes
  unfolding bytes_pass
  room p st e = omega (arith, ltb-false (min (length st.bytes) max_bytes) (st.stored_bytes + length (bytes_of (added p))) e)

  -- a call of the Rust, where ours is stored
  record CallComes (c : Call) (st : Store) (a : Assembler) : Type 0 where
    after : Assembler
    comes : call build c a ≡ done after
    within : marks_within c
    same : Same bs words (call_after words_per_section c st) after

  -- the counts of an accepted answer
  stored_counts : (r : BuiltReply) → IsStored r → (counts : records.Assembler) × (r ≡ accepted counts)
  stored_counts (accepted counts) t = (counts, refl)
  stored_counts (refused n i k) t = absurd t

  -- one that adds
  push_stored : (p : Push) (st : Store) (a : Assembler) → Same bs words st a → (counts : records.Assembler) → push_reply words_per_section p st ≡ accepted counts → CallComes (push p) st a
  push_stored p st a s counts e =
      let n = (((push_answers words_per_section p st).accepted_iff counts).0 e).0 in
      let marks = n.1.1 in
      let bytes = marks.1.1 in
      let fits = room p st bytes.0 in
      let run = push_comes build p a s.kept n.0 n.1.0 (omega (arith, s.count)) in
      let q : Pushed p a run.0 = push_same build p a run.0 s.kept run.1 in
      record { after = run.0; comes = run.1; within = marks.0; same = same_after bs words st a run.0 p s q counts e }

  -- a run of op bytes: each comes
  bytes_stored : (run : List ℕ) (st : Store) (a : Assembler) → Same bs words st a → (counts : records.Assembler) → all_reply words_per_section (each_op_byte run) st ≡ accepted counts
      → (a' : Assembler) × (op_bytes a run ≡ done a') × Same bs words (each_after words_per_section (each_op_byte run) st) a'
  unfolding op_bytes each_after
  bytes_stored [] st a s counts e = (a, refl, s)
  bytes_stored (b ∷ run) st a s counts e =
      let first = all_first words_per_section (push_op_byte b) (each_op_byte run) st counts e in
      let one = push_stored (push_op_byte b) st a s first.0 first.1 in
      let rest = bytes_stored run (push_after words_per_section (push_op_byte b) st) one.after one.same counts first.2 in
      (rest.0, rw one.comes rest.1, rest.2)

  call_stored : (c : Call) (st : Store) (a : Assembler) → Same bs words st a → IsStored (call_reply words_per_section c st) → CallComes c st a
  call_stored (push p) st a s t =
      let r = stored_counts (push_reply words_per_section p st) t in
      push_stored p st a s r.0 r.1
  call_stored (push_op_bytes run) st a s t =
      let r = stored_counts (all_reply words_per_section (each_op_byte run) st) t in
      let all = bytes_stored run st a s r.0 r.1 in
      record { after = all.0; comes = all.1; within = tt; same = rw (all_each words_per_section (each_op_byte run) st r.0 r.1) all.2 }
  call_stored clear st a s t = record { after = empty; comes = refl; within = tt; same = same_empty st s.bytes_lent s.words_lent }

  run_stored : (cs : List Call) (st : Store) (a : Assembler) → Same bs words st a → EveryStored (run_replies words_per_section cs st)
      → Comes (calls build cs a) × AlwaysFits build bs words cs a
  unfolding calls AlwaysFits run_replies
  run_stored [] st a s t = ((a, refl), tt)
  run_stored (c ∷ cs) st a s t =
      let one = call_stored c st a s t.0 in
      let rest = run_stored cs (call_after words_per_section c st) one.after one.same t.1 in
      let fits = same_fits (call_after words_per_section c st) one.after one.same in (
        rw one.comes rest.0,
        (one.within, λ a' e. subst (λ (x : Assembler). Fits bs words x × AlwaysFits build bs words cs x) (done_inj (sym one.comes ∙ e)) (fits, rest.1)),
      )

-- our calls are all stored and come to the Rust's list; its spans are within its bytes, and our store is undamaged
pub calls_same : (build : Build) (bs words : List ℕ) (cs : List Call) (a : Assembler) → Builds build bs words cs a → SameStore bs words cs a × Spans a × Undamaged words_per_section (built bs words cs)
calls_same build bs words cs a h =
    let r = run_same build bs words cs (opened bs words) empty a (same_empty build bs words (opened bs words) refl refl) h.no_panic h.fits in
    let s : Same bs words (built bs words cs) a = r.1 in
    (record { accepted = r.0; decoded = s.decoded; bytes_count = s.count; sections_count = same_count bs words (built bs words cs) a s }, s.kept.spans, s.undamaged)

-- where our calls are all stored, the Rust's don't panic, within the limits and the slices
pub calls_stored : (build : Build) (bs words : List ℕ) (cs : List Call) → EveryStored (run_replies words_per_section cs (opened bs words))
    → (a : Assembler) × Builds build bs words cs a
calls_stored build bs words cs t =
    let r = run_stored build bs words cs (opened bs words) empty (same_empty build bs words (opened bs words) refl refl) t in
    (r.0.0, record { no_panic = r.0.1; fits = r.1 })
