-- A listing's length is within the buffer that it was put into, read off `write_asm`'s answer.
-- Assumes nothing.
use Prim.Native.Nat.{ℕ, ◌≤◌}
use native.Mathlib.Omega.{arith}
use mathlib.Core.Path.{◌≡◌, refl, sym, ap, ◌∙◌}
use mathlib.Core.Bool.{Bool, true, false, cond}
use mathlib.Core.List.{List}
use lib.ListN.{length}
use lib.Dec.{ltb}
use borrow.Author.Tests.{ltb-false}
use Rattle.std.specs.Prelude.{Result, Ok}
use Rattle.units.specs.declared.reply.Refusal.{Refusal}
use Rattle.units.specs.Replies.{listing_full}
use Rattle.units.specs.Reply.{Reply, accepted, refused}
use Rattle.records.specs.Store.{Store}
use Rattle.records.specs.Damage.{Soundness, Sound, Damaged, whole_soundness}
use Rattle.records.specs.Sections.{decode}
use Rattle.listing.specs.Listing.{listing}
use Rattle.listing.specs.Answer.{reply_for, listed_reply, listing_reply}

-- by the test for 14: k is the text's length and m the buffer's
by_test : (b : Bool) (m k n : ℕ) → ltb m k ≡ b → ◌≡◌ {A = Reply ℕ} (accepted n) (cond b (refused listing_full 0 0) (accepted k)) → n ≤ m
by_test true m k n t e = let z : ◌≡◌ {A = ℕ} 0 1 = cc in omega arith
by_test false m k n t e = let z : n ≡ k = cc in omega (arith, ltb-false m k t)

-- by the whole test
by_soundness : (s : Soundness) (text buffer : List ℕ) (n : ℕ) → accepted n ≡ reply_for s text buffer → n ≤ length buffer
by_soundness (Damaged i) text buffer n e = let z : ◌≡◌ {A = ℕ} 0 1 = cc in omega arith
by_soundness Sound text buffer n e = by_test (ltb (length buffer) (length text)) (length buffer) (length text) n refl e

-- the length that is answered is at most the buffer's
pub listed_fits : (w : ℕ) (st : Store) (buffer : List ℕ) (r : Result ℕ Refusal) (n : ℕ) → listed_reply r ≡ listing_reply w st buffer → r ≡ Ok n → n ≤ length buffer
unfolding listing_reply
listed_fits w st buffer r n e is =
    by_soundness (whole_soundness w st) (listing (decode w st)) buffer n (sym (ap listed_reply is) ∙ e)
