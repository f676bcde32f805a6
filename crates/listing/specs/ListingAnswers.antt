-- Document 01, 'Replies': the condition of each answer of a listing, 6 and 14, and what the text buffer holds after each. 'Each number
-- comes in its stated condition and in no other': that it is given exactly then is `listing_law` of proofs/ListingAnswers. Assumes nothing.
use Rattle.std.specs.Prelude.{ℕ, ◌≤◌, ◌<◌, ◌≡◌, List, ◌++◌, length, drop}
use Rattle.units.specs.Replies as number
use Rattle.units.specs.Reply.{Reply, accepted, refused}
use Rattle.records.specs.Store.{Store}
use Rattle.records.specs.Sections.{decode}
use Rattle.undamaged.specs.View.{Undamaged, DamagedAt}
use Rattle.listing.specs.Listing.{listing}

-- what a listing can answer
pub data ListingAnswer : Type 0 where
  -- the text's length
  written : ℕ → ListingAnswer
  -- 6: the section
  damaged : ℕ → ListingAnswer
  -- 14
  full : ListingAnswer

-- each as a reply
abbrev pub answer_reply : ListingAnswer → Reply ℕ
answer_reply (written n) = accepted n
answer_reply (damaged i) = refused number.damaged i 0
answer_reply full = refused number.listing_full 0 0

-- the condition of each answer, room being the text buffer's length
abbrev pub AnswerSays : ℕ → Store → ℕ → ListingAnswer → Type 0
AnswerSays w st room (written n) = Undamaged w st × (n ≡ length (listing (decode w st))) × (n ≤ room)
-- 6: a bad count, and the section is 0; or the first section that breaks a rule
AnswerSays w st room (damaged i) = DamagedAt w st i
-- 14: 'the listing passes the text buffer'
AnswerSays w st room full = Undamaged w st × (room < length (listing (decode w st)))

-- the buffer after it: unchanged if refused, else the text and then what stood there
abbrev pub buffer_after : ListingAnswer → List ℕ → List ℕ → List ℕ
buffer_after (written n) text buffer = text ++ drop n buffer
buffer_after (damaged i) text buffer = buffer
buffer_after full text buffer = buffer
