-- Document 01, 'Replies', for a listing: 6, then 14, else the text's length; and what the text buffer holds after the call.
-- For every store, damaged or not. Assumes nothing.
use Rattle.std.specs.Prelude.{ℕ, cond, List, ◌++◌, length, drop, ltb, Result, Ok, Err}
use Rattle.units.specs.Replies.{damaged, listing_full}
use Rattle.units.specs.Reply.{Reply, accepted, refused, refusal_reply}
use Rattle.units.specs.declared.reply.Refusal.{Refusal}
use Rattle.records.specs.Store.{Store}
use Rattle.records.specs.Damage.{Soundness, Sound, Damaged, whole_soundness}
use Rattle.records.specs.Sections.{decode}
use Rattle.listing.specs.Listing.{listing}

-- what each answer of the code stands for: the text's length, or a refusal
abbrev pub listed_reply : Result ℕ Refusal → Reply ℕ
listed_reply (Ok n) = accepted n
listed_reply (Err r) = refusal_reply r

-- the answer, from the whole test, the listing and the buffer
abbrev pub reply_for : Soundness → List ℕ → List ℕ → Reply ℕ
reply_for (Damaged i) text buffer = refused damaged i 0
reply_for Sound text buffer = cond (ltb (length buffer) (length text)) (refused listing_full 0 0) (accepted (length text))

-- the buffer after the call: unchanged if refused, else the text and then what stood there
abbrev pub buffer_for : Soundness → List ℕ → List ℕ → List ℕ
buffer_for (Damaged i) text buffer = buffer
buffer_for Sound text buffer = cond (ltb (length buffer) (length text)) buffer (text ++ drop (length text) buffer)

-- the reply of a listing call on a store whose sections have w words, with this buffer lent
unfoldable pub listing_reply : ℕ → Store → List ℕ → Reply ℕ
listing_reply w st buffer = reply_for (whole_soundness w st) (listing (decode w st)) buffer

-- the buffer after it
unfoldable pub listing_buffer : ℕ → Store → List ℕ → List ℕ
listing_buffer w st buffer = buffer_for (whole_soundness w st) (listing (decode w st)) buffer
