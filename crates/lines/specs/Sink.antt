-- What the functions that add text to a sink promise: the lent text takes what fits into it. Bytes past its end are counted and not
-- stored, so that the same walk counts, on an empty text, and writes. Assumes nothing.
use Rattle.std.specs.Prelude.{ℕ, List, length}
use Rattle.std.proofs.lemmas.List.Edits.{sets}
use denote.Ref.{at_last}
use Rattle.lines.specs.Put.{place_after}
use Rattle.lines.specs.declared.text.TextSink.{TextSink}

-- the same lent text, with more bytes in it from the sink's place on, and the place after them
unfoldable pub added : TextSink → List ℕ → TextSink
added s bytes = record { text = at_last s.text (sets s.text.now s.place bytes); place = place_after s.place (length bytes) }
