-- Where there is room for a text, the place after it is the plain sum. Assumes nothing.
use Prim.Native.Nat.{ℕ, ◌+◌}
use native.Mathlib.Omega.{arith}
use mathlib.Core.Path.{◌≡◌, ap, ◌∙◌}
use mathlib.Core.List.{List}
use lib.ListN.{length}
use Rattle.lines.specs.Put.{Put}
use Rattle.lines.specs.Sink.{added}
use Rattle.lines.specs.declared.text.TextSink.{TextSink}
use Rattle.lines.proofs.Sinks.{added_put}
use Rattle.listing.specs.Room.{Room}

-- of a text that was put
pub put_count : {t m : List ℕ} {at r : ℕ} {x : List ℕ} → Room at x → Put t at x r m → r ≡ at + length x
put_count room p = omega (arith, room.fits, p.count)

-- of a text that was added to a sink
pub added_count : (s : TextSink) {t : TextSink} (x : List ℕ) → Room s.place x → t ≡ added s x → t.place ≡ s.place + length x
added_count s x room p = ap (λ (k : TextSink). k.place) p ∙ put_count room (added_put s x)
