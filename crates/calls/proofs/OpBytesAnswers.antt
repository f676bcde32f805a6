-- A run of op bytes: when each answer is given, and what it does to the list of sections. For every store, damaged or not.
-- Assumes nothing.
use Prim.Native.Nat.{ℕ, ◌≤◌}
use mathlib.Core.Path.{◌≡◌, refl, sym, ap, ◌∙◌}
use mathlib.Core.Bool.{Bool, true, false, cond, not, ◌&&◌, ◌||◌}
use mathlib.Core.List.{List, [], ◌∷◌, ◌++◌, append_assoc}
use Rattle.units.specs.Replies.{bytes_full, sections_full, damaged}
use Rattle.units.specs.Reply.{accepted, refused}
use Rattle.records.specs.Store.{Store, counts_of}
use Rattle.records.specs.Damage.{last_soundness}
use Rattle.records.specs.Sections.{Section, mark, ops, bytes, reference}
use Rattle.undamaged.specs.View.{unsound}
use Rattle.undamaged.proofs.Soundness.{section_found}
use Rattle.calls.specs.Calls.{BuiltReply, push_op_bytes, with_section, bytes_pass, section_passes, all_reply, each_after, all_after, each_op_byte, call_reply, call_after}
use Rattle.calls.specs.AtOnce.{no_byte_left, at_once_reply}
use Rattle.calls.specs.Lists.{added_after, added_to, added_each}
use Rattle.calls.specs.Answers.{OpBytesAnswers}
use Rattle.calls.proofs.Refusals.{Test, test, first_of, given_number, refused_iff, none_iff, sound_chain, found_iff}
use Rattle.calls.proofs.OpBytes.{op_bytes_law}

-- an empty run: accepted with the counts as they are, on every store, which stays as it is
pub no_op_bytes : (w : ℕ) (st : Store) → (call_reply w (push_op_bytes []) st ≡ accepted (counts_of st)) × (call_after w (push_op_bytes []) st ≡ st)
unfolding all_reply each_after all_after
no_op_bytes w st = (refl, refl)

-- ---- the answers to any other

-- two tests with one answer, and one between them with another
merged : {A : Type 0} (one sec all : Bool) (x y r : A) → cond one x (cond sec y (cond all x r)) ≡ cond (one || not sec && all) x (cond sec y r)
merged true sec all x y r = refl
merged false true all x y r = refl
merged false false all x y r = refl

module _ (w b : ℕ) (bs : List ℕ) (st : Store) (h : 3 ≤ w) where
  -- the tests, by their numbers
  abbrev t₆ : Test
  t₆ = test damaged (section_found (last_soundness w st)) (unsound (last_soundness w st))

  abbrev one : Test
  one = test bytes_full 0 (no_byte_left st)

  abbrev t₅ : Test
  t₅ = test sections_full 0 (section_passes w (ops (b ∷ bs)) st)

  abbrev all : Test
  all = test bytes_full 0 (bytes_pass (ops (b ∷ bs)) st)

  abbrev t₄ : Test
  t₄ = test bytes_full 0 (no_byte_left st || not (section_passes w (ops (b ∷ bs)) st) && bytes_pass (ops (b ∷ bs)) st)

  abbrev stored : BuiltReply
  stored = accepted (counts_of (with_section w (ops (b ∷ bs)) st))

  -- of all, the first that applies
  run_chain : call_reply w (push_op_bytes (b ∷ bs)) st ≡ first_of (t₆ ∷ one ∷ t₅ ∷ all ∷ []) stored
  unfolding at_once_reply
  run_chain = (op_bytes_law w (b ∷ bs) st h).0 ∙ sound_chain (last_soundness w st) _

  -- with 4 as one test
  merged_chain : call_reply w (push_op_bytes (b ∷ bs)) st ≡ first_of (t₆ ∷ t₄ ∷ t₅ ∷ []) stored
  merged_chain =
      run_chain
      ∙ ap (cond (unsound (last_soundness w st)) (refused damaged (section_found (last_soundness w st)) 0))
      (merged (no_byte_left st) (section_passes w (ops (b ∷ bs)) st) (bytes_pass (ops (b ∷ bs)) st) (refused bytes_full 0 0) (refused sections_full 0 0) stored)

  pub op_bytes_answers : OpBytesAnswers w b bs st
  op_bytes_answers =
      record {
        damaged_iff = λ i k.
            let r = refused_iff [] damaged _ _ (one ∷ t₅ ∷ all ∷ []) _ i k refl refl in
            let f = found_iff (last_soundness w st) i in
            rw run_chain (λ e. let q = r.0 e in (f.0 (q.1, q.2), q.3), λ q. let g = f.1 q.0 in r.1 (tt, g.0, g.1, q.1));
        bytes_full_iff = λ i k. rw merged_chain (refused_iff (t₆ ∷ []) bytes_full 0 _ (t₅ ∷ []) _ i k refl refl);
        sections_full_iff = λ i k. rw run_chain (refused_iff (t₆ ∷ one ∷ []) sections_full 0 _ (all ∷ []) _ i k refl refl);
        accepted_iff = λ x. rw run_chain (none_iff (t₆ ∷ one ∷ t₅ ∷ all ∷ []) _ x);
        numbers = λ n i k e. given_number 4 6 (t₆ ∷ one ∷ t₅ ∷ all ∷ []) _ n i k refl (sym run_chain ∙ e);
      }

-- ---- the list of sections

-- a list that op bytes were added to has a last section of its own
behind : (x y : Section) (ys : List Section) (bs : List ℕ) (s : Section)
    → added_after x (added_after y ys (ops bs)) s ≡ x ∷ added_to (added_after y ys (ops bs)) s
unfolding added_to added_after
behind x (mark m) [] bs s = refl
behind x (ops cs) [] bs s = refl
behind x (bytes cs) [] bs s = refl
behind x (reference r) [] bs s = refl
behind x y (z ∷ zs) bs s = refl

-- op bytes after op bytes, in a list that begins with x
after_next : (x : Section) (xs : List Section) (bs cs : List ℕ) → added_to (added_after x xs (ops bs)) (ops cs) ≡ added_after x xs (ops (bs ++ cs))
unfolding added_to added_after
after_next (mark m) [] bs cs = refl
after_next (ops ds) [] bs cs = ap (λ (l : List ℕ). ops l ∷ []) (append_assoc ds bs cs)
after_next (bytes ds) [] bs cs = refl
after_next (reference r) [] bs cs = refl
after_next x (y ∷ ys) bs cs = behind x y ys bs (ops cs) ∙ ap (λ (l : List Section). x ∷ l) (after_next y ys bs cs)

-- op bytes after op bytes are both at once
pub ops_next : (l : List Section) (bs cs : List ℕ) → added_to (added_to l (ops bs)) (ops cs) ≡ added_to l (ops (bs ++ cs))
unfolding added_to added_after
ops_next [] bs cs = refl
ops_next (x ∷ xs) bs cs = after_next x xs bs cs

-- a run that isn't empty adds its bytes as one section, or joins a last Ops section
pub op_bytes_list : (b : ℕ) (bs : List ℕ) (l : List Section) → added_each l (each_op_byte (b ∷ bs)) ≡ added_to l (ops (b ∷ bs))
unfolding added_each
op_bytes_list b [] l = refl
op_bytes_list b (c ∷ cs) l = op_bytes_list c cs (added_to l (ops (b ∷ []))) ∙ ops_next l (b ∷ []) (c ∷ cs)
