-- The Rust's listing is ours: the texts of its sections, one after the other, and what a listing call answers and writes. Assumes nothing.
use Prim.Native.Nat.{ℕ, ◌≤◌}
use mathlib.Core.Path.{◌≡◌, refl, ap}
use mathlib.Core.List.{List, [], ◌∷◌, ◌++◌, map}
use lib.ListN.{length, drop}
use lib.Seq.{slice}
use borrow.Author.Tests.{le-ltb}
use Rattle.records.specs.Store.{Store, words_per_section}
use Rattle.records.specs.Sections.{Section, decode}
use Rattle.undamaged.specs.View.{Undamaged}
use Rattle.listing.specs.Listing.{listing}
use Rattle.listing.specs.Listing as ours
use Rattle.units.specs.Reply.{accepted}
use Rattle.listing.specs.Answer.{listing_reply, listing_buffer}
use Rattle.rust_model.specs.Run.{done}
use Rattle.rust_model.specs.Building.{Assembler}
use Rattle.rust_model.specs.Sections.{AsmSection, Mark, Ops, Data, MarkRef, iter_sections}
use Rattle.rust_model.specs.Display.{section_text, text_from, write_asm}
use Rattle.rust_model.specs.Demand2.{seen, sections_of, SameListing}
use Rattle.rust_model.proofs.Spans.{SectionIn, EveryIn, Spans}
use Rattle.rust_model.proofs.Steps.{range_done}
use Rattle.rust_model.proofs.Text.{mark_same, data_same, reference_same}
use Rattle.rust_model.proofs.Ops.{ops_same}

-- ---- the text

-- a section's
section_same : (bs : List ℕ) (s : AsmSection) → SectionIn bs s → section_text bs s ≡ done (ours.section_text (seen bs s))
section_same bs (Mark id) h = ap done (mark_same id)
section_same bs (Ops span) h = rw (range_done bs span h, ops_same (slice span.start span.end bs))
section_same bs (Data span) h = rw (range_done bs span h, data_same (slice span.start span.end bs))
section_same bs (MarkRef r) h = ap done (reference_same r)

-- one after the other
text_same : (bs : List ℕ) (ss : List AsmSection) → EveryIn bs ss → text_from bs ss ≡ done (listing (map (seen bs) ss))
unfolding text_from listing
text_same bs [] h = refl
text_same bs (s ∷ ss) h = rw (section_same bs s h.0, text_same bs ss h.1)

-- the Rust's text of a list
pub write_same : (a : Assembler) → Spans a → write_asm a ≡ done (listing (sections_of a))
unfolding write_asm
write_same a h = text_same a.bytes (iter_sections a) h

-- ---- the call

-- an undamaged store that decodes to these sections
module _ (st : Store) (ss : List Section) (whole : Undamaged words_per_section st) (same : decode words_per_section st ≡ ss) where
  -- on a buffer that is long enough: the answer, and what it holds
  reply_text : (buffer : List ℕ) → length (listing ss) ≤ length buffer → listing_reply words_per_section st buffer ≡ accepted (length (listing ss))
  unfolding listing_reply
  reply_text buffer h = rw (whole, same, le-ltb (length buffer) (length (listing ss)) h)

  buffer_text : (buffer : List ℕ) → length (listing ss) ≤ length buffer
      → listing_buffer words_per_section st buffer ≡ listing ss ++ drop (length (listing ss)) buffer
  unfolding listing_buffer
  buffer_text buffer h = rw (whole, same, le-ltb (length buffer) (length (listing ss)) h)

-- our listing of a store that decodes to the Rust's list is the Rust's
pub listing_same : (a : Assembler) (st : Store) → Spans a → Undamaged words_per_section st → decode words_per_section st ≡ sections_of a → SameListing a st
listing_same a st spans whole same =
    record {
      text = listing (sections_of a);
      written = write_same a spans;
      reply = reply_text st (sections_of a) whole same;
      holds = buffer_text st (sections_of a) whole same;
    }
