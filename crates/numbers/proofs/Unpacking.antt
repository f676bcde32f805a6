-- The number determines the answer: number, mid and low come back out, and so a state's counts do. Assumes nothing.
use Prim.Native.Nat.{ℕ, ◌*◌, ◌/◌, ◌%◌, ◌^◌, ◌≤◌, ◌<◌}
use native.Mathlib.Omega.{arith}
use mathlib.Core.Path.{◌≡◌, refl}
use mathlib.Core.List.{List, ◌∷◌}
use mathlib.Core.Bool.{Bool, true, false, not, ◌&&◌}
use lib.ListN.{length}
use lib.Dec.{leb}
use borrow.Author.Tests.{ne_eqb, lt-leb}
use Rattle.units.specs.Reply.{Reply, accepted, refused}
use Rattle.records.specs.declared.Assembler.{Assembler}
use Rattle.records.specs.Store.{Store, max_bytes, max_sections, bad_counts}
use Rattle.records.specs.Damage.{bad_count, whole_soundness, bad_count_building, last_soundness}
use Rattle.records.specs.Damage.{Damaged}
use Rattle.calls.specs.Calls.{BuiltReply, Push, push_reply, all_reply}
use Rattle.calls.proofs.Refusals.{push_answers}
use Rattle.calls.proofs.Runs.{first_refused}
use Rattle.numbers.specs.Numbers.{packed, number_in, mid_in, low_in, counts_in, store_in, state_number, reply_number, reply_in, built_number, built_in}
use Rattle.numbers.specs.Packs.{Packs, ReplyPacks, CountsPack, BuiltPacks}
use Rattle.numbers.proofs.Bounds.{push_packs, some_packs}

-- number, mid and low come back out
module _ (number mid low : ℕ) (h : Packs number mid low) where
  pub number_back : number_in (packed number mid low) ≡ number
  number_back = omega (arith, h.0, h.1, h.2)

  pub mid_back : mid_in (packed number mid low) ≡ mid
  mid_back = omega (arith, h.0, h.1, h.2)

  pub low_back : low_in (packed number mid low) ≡ low
  low_back = omega (arith, h.0, h.1, h.2)

-- so a reply comes back out, where what is accepted does
pub reply_back : {A : Type 0} (number : A → ℕ) (given : ℕ → A) (fits : A → Type 0)
    → ((x : A) → fits x → (number_in (number x) ≡ 0) × (given (number x) ≡ x))
    → (r : Reply A) → ReplyPacks fits r → reply_in given (reply_number number r) ≡ r
reply_back number given fits back (accepted x) h = simp ((back x h).0, (back x h).1)
reply_back number given fits back (refused n i k) h =
    simp (number_back n k i h.1, mid_back n k i h.1, low_back n k i h.1, ne_eqb n 0 (omega (arith, h.0)))

-- a state's counts are those that it was made of
pub state_back : (counts : Assembler) → counts.bytes < 2 ^ 32 → counts_in (state_number counts) ≡ counts
state_back counts h =
    let low : state_number counts % 2 ^ 32 ≡ counts.bytes = omega (arith, h) in
    let high : state_number counts / 2 ^ 32 ≡ counts.sections = omega (arith, h) in
    rw (low, high)

-- the next state is the counts that the call leaves: an accepted answer is a state
pub stored_state : (counts : Assembler) → BuiltPacks (accepted counts) → counts_in (built_number (accepted counts)) ≡ counts
stored_state counts h = state_back counts h.2

-- an answer that packs comes back out: the number determines it
packed_back : (r : BuiltReply) → BuiltPacks r → built_in (built_number r) ≡ r
packed_back r h = reply_back state_number counts_in CountsPack (λ counts q. (number_back 0 counts.sections counts.bytes q, stored_state counts q)) r h

-- so does every answer to a call that adds to a store
pub built_back : (w : ℕ) (p : Push) (st : Store) → built_in (built_number (push_reply w p st)) ≡ push_reply w p st
built_back w p st = packed_back (push_reply w p st) (push_packs w p st)

-- and to such calls in turn, a run of op bytes that isn't empty among them. An empty run answers the state that it was given, whatever
-- number that has (`op_bytes_empty`, proofs/Adds).
pub all_back : (w : ℕ) (p : Push) (ps : List Push) (st : Store) → built_in (built_number (all_reply w (p ∷ ps) st)) ≡ all_reply w (p ∷ ps) st
all_back w p ps st = packed_back (all_reply w (p ∷ ps) st) (some_packs w p ps st)

-- no such answer has a number above 6: 255 is left to a form that names nothing
answer_below : (r : BuiltReply) → BuiltPacks r → ((n i k : ℕ) → r ≡ refused n i k → n ≤ 6) → number_in (built_number r) ≤ 6
answer_below (accepted a) h below = omega (arith, number_back 0 a.sections a.bytes h)
answer_below (refused n i k) h below = omega (arith, number_back n k i h.1, below n i k refl)

pub built_below : (w : ℕ) (p : Push) (st : Store) → number_in (built_number (push_reply w p st)) ≤ 6
built_below w p st = answer_below (push_reply w p st) (push_packs w p st) (λ n i k e. ((push_answers w p st).numbers n i k e).1)

pub all_below : (w : ℕ) (p : Push) (ps : List Push) (st : Store) → number_in (built_number (all_reply w (p ∷ ps) st)) ≤ 6
all_below w p ps st =
    answer_below (all_reply w (p ∷ ps) st) (some_packs w p ps st)
    (λ n i k e. let r = first_refused w (p ∷ ps) st n i k e in ((push_answers w r.call _).numbers n i k r.refusal).1)

-- ---- a refusal taken as a state

-- one test of four fails
third_fails : (a b c d : Bool) → c ≡ false → not (a && b && c && d) ≡ true
third_fails true true c d e = rw e
third_fails true false c d e = refl
third_fails false b c d e = refl

module _ (w answer : ℕ) (bytes words : List ℕ) (refused : 1 ≤ number_in answer) where
  -- it passes the limit of sections
  refused_counts : bad_counts w (store_in answer bytes words) ≡ true
  unfolding bad_counts
  refused_counts =
      third_fails (leb (answer % 2 ^ 32) (length bytes)) (leb (answer % 2 ^ 32) max_bytes) (leb (answer / 2 ^ 32) max_sections) (leb (w * (answer / 2 ^ 32)) (length words))
      (lt-leb (answer / 2 ^ 32) max_sections (omega arith))

  -- so every later call that tests the store finds 6 at section 0; 1, 2, 3 and 255 come before that test, and `clear` and an empty run have
  -- none
  pub refused_last : last_soundness w (store_in answer bytes words) ≡ Damaged 0
  unfolding last_soundness bad_count_building
  refused_last = rw refused_counts

  pub refused_whole : whole_soundness w (store_in answer bytes words) ≡ Damaged 0
  unfolding whole_soundness bad_count
  refused_whole = rw refused_counts
