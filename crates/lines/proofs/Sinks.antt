-- Laws of adding text to a sink: nothing added, two texts in a row, a text past the end; and a walk, at every turn of which adding what
-- is left gives the same sink. Assumes nothing.
use Prim.Native.Nat.{ℕ, ◌≤◌, ◌<◌, ◌^◌}
use native.Mathlib.Omega.{arith}
use mathlib.Core.Path.{◌≡◌, refl, sym, ap, ◌∙◌}
use mathlib.Core.List.{List, [], ◌++◌}
use lib.ListN.{length}
use lib.Seq.{length-sets}
use denote.Ref.{at_last}
use Rattle.lines.specs.Put.{place_after, Put}
use Rattle.lines.specs.Sink.{added}
use Rattle.lines.specs.declared.text.TextSink.{TextSink}
use Rattle.lines.proofs.Puts.{join, put_past}

-- a sink, by its two parts
sink_is : (s : TextSink) {t u : List ℕ} {m n : ℕ} → t ≡ u → m ≡ n → ◌≡◌ {A = TextSink} (record { text = at_last s.text t; place = m }) (record { text = at_last s.text u; place = n })
sink_is s e f = λ i. record { text = at_last s.text (e i); place = f i }

-- what is added, as the text and the place
pub added_put : (s : TextSink) (x : List ℕ) → Put s.text.now s.place x (added s x).place (added s x).text.now
unfolding added
added_put s x = record { count = refl; text = refl }

-- nothing added
pub added_none : (s : TextSink) → s.place < 2 ^ 64 → added s [] ≡ s
unfolding added
added_none s h = λ i. record { text = s.text; place = place i }
  where
    place : place_after s.place 0 ≡ s.place
    place = omega arith

-- two texts in a row are one, in a text that the machine can have
pub added_append : (s : TextSink) (x y : List ℕ) → length s.text.now < 2 ^ 64 → added (added s x) y ≡ added s (x ++ y)
unfolding added
added_append s x y short =
    let both = join short (added_put s x) (added_put (added s x) y) in
    sink_is s both.text both.count

-- so it is where the code adds them
pub then : (s : TextSink) {t u : TextSink} (x y : List ℕ) → length s.text.now < 2 ^ 64 → t ≡ added s x → u ≡ added t y → u ≡ added s (x ++ y)
then s x y short e f = f ∙ ap (λ (k : TextSink). added k y) e ∙ added_append s x y short

-- what was added, written otherwise
pub added_is : (s : TextSink) {t : TextSink} {x y : List ℕ} → x ≡ y → t ≡ added s x → t ≡ added s y
added_is s e p = p ∙ ap (added s) e

-- past the text's end what is added is counted alone
pub added_past : (s : TextSink) (x : List ℕ) {n : ℕ} → length s.text.now ≤ s.place → n ≡ place_after s.place (length x) → ◌≡◌ {A = TextSink} (record { text = s.text; place = n }) (added s x)
unfolding added
added_past s x h e =
    let past = put_past {r = place_after s.place (length x)} x h refl in
    sink_is s past.text e

-- the text keeps its length
pub added_length : (s : TextSink) (x : List ℕ) → length (added s x).text.now ≡ length s.text.now
unfolding added
added_length s x = length-sets s.text.now s.place x

-- and its place is a number of the machine
pub added_then : (s : TextSink) {t : TextSink} (x : List ℕ) → t ≡ added s x → t.place < 2 ^ 64
unfolding added
added_then s x p = omega (arith, ap (λ (k : TextSink). k.place) p)

-- a text that is added to an empty sink is counted
pub counted_small : (s : TextSink) {t : TextSink} (x : List ℕ) → length x < 2 ^ 64 → s.place ≡ 0 → t ≡ added s x → t.place ≡ length x
unfolding added
counted_small s x h start p = omega (arith, ap (λ (k : TextSink). k.place) p)

-- ---- a walk, begun at r with a whole text

module _ (r : TextSink) (whole : List ℕ) (s : TextSink) where
  -- the text is as long as it was
  pub walk_short : (left : List ℕ) → length r.text.now < 2 ^ 64 → added s left ≡ added r whole → length s.text.now < 2 ^ 64
  walk_short left short walk = omega (arith, added_length s left, added_length r whole, ap (λ (k : TextSink). length k.text.now) walk)

  -- a turn adds the first of what is left
  pub turn : {t : TextSink} (x rest : List ℕ) {left : List ℕ} → length r.text.now < 2 ^ 64 → left ≡ x ++ rest → added s left ≡ added r whole → t ≡ added s x → added t rest ≡ added r whole
  turn x rest {left} short split walk p =
      then s x rest (walk_short left short walk) p refl ∙ ap (added s) (sym split) ∙ walk

  -- it ends with nothing left
  pub done : {rest : List ℕ} → s.place < 2 ^ 64 → rest ≡ [] → added s rest ≡ added r whole → s ≡ added r whole
  done small none walk = sym (added_none s small) ∙ ap (added s) (sym none) ∙ walk
