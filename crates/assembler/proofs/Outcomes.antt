-- What assembly comes to, by what the settling answers and whether the result is full. Assumes nothing.
use Prim.Native.Nat.{ℕ, ◌+◌, ◌-◌, ◌≤◌, ◌<◌}
use native.Mathlib.Omega.{arith}
use mathlib.Core.Path.{◌≡◌, refl, sym, ap, ◌∙◌, subst}
use mathlib.Core.Bool.{Bool, true, false, ◌||◌}
use mathlib.Core.Logic.{◌↔◌, ◌⊎◌, inl, inr}
use mathlib.Core.List.{List}
use lib.Dec.{ltb}
use lib.ListN.{length}
use borrow.Author.Tests.{lt-ltb, le-ltb, ltb-true, ltb-false}
use Rattle.units.specs.Replies.{result_full}
use Rattle.units.specs.Reply.{Reply, accepted, refused}
use Rattle.records.specs.Store.{Store}
use Rattle.records.specs.Sections.{decode}
use Rattle.slices.specs.Over.{over}
use Rattle.layout.specs.Passes.{entry}
use Rattle.layout.specs.Answer.{Laid}
use Rattle.slices.proofs.Tests.{or-false}
use Rattle.settling.specs.Settle.{Settlement, settling}
use Rattle.assembler.specs.Emission.{code_of}
use Rattle.assembler.specs.Assemble.{written, Outcome, refusal, is_full, writing, assembly}

-- the settling laid the sections out
abbrev pub LaidBy : ℕ → ℕ → Store → List ℕ → ℕ → ℕ → Type 0
LaidBy w n st table size k = settling w n st ≡ record { reply = written size k; table = table }

-- an answer's length and passes
pub written_same : {size k size' k' : ℕ} → written size k ≡ written size' k' → (size ≡ size') × (k ≡ k')
written_same {size} {k} {size'} {k'} h =
    let same : ◌≡◌ {A = Laid} (record { length = size; passes = k }) (record { length = size'; passes = k' }) = cc in
    (ap (λ (x : Laid). x.length) same, ap (λ (x : Laid). x.passes) same)

-- what assembly comes to, by what the settling answers
module _ (w : ℕ) (st : Store) (n : ℕ) (result : List ℕ) (position : ℕ) where
  -- the code behind a table
  abbrev pub code_over : List ℕ → List ℕ
  code_over table = over result position (code_of (entry table) (decode w st))

  -- by the settling
  by_settling : (s : Settlement) → settling w n st ≡ s → assembly w st n result position ≡ writing n result position (decode w st) s.table s.reply
  unfolding assembly
  by_settling s e = ap (λ (x : Settlement). writing n result position (decode w st) x.table x.reply) e

  -- refused by the settling
  pub outcome_refused : (number i k : ℕ) → (settling w n st).reply ≡ refused number i k
      → assembly w st n result position ≡ refusal n result (refused number i k)
  unfolding assembly
  outcome_refused number i k e = ap (writing n result position (decode w st) (settling w n st).table) e

  -- accepted, the settling laid out
  pub laid_by : (l : Laid) → (settling w n st).reply ≡ accepted l → LaidBy w n st (settling w n st).table l.length l.passes
  laid_by l e = ap (λ (r : Reply Laid). record { reply = r; table = (settling w n st).table }) e

  module _ (table : List ℕ) (size k : ℕ) (e : LaidBy w n st table size k) where
    -- 13
    pub outcome_full : is_full (length result) position size ≡ true → assembly w st n result position ≡ refusal n result (refused result_full 0 k)
    outcome_full f = by_settling _ e ∙ rw f

    -- written
    pub outcome_written : is_full (length result) position size ≡ false
        → assembly w st n result position ≡ record { reply = written size k; table = table; result = code_over table }
    outcome_written f = by_settling _ e ∙ rw f

  -- what holds of every refusal and of the code that is written holds of assembly
  pub outcome_cases : (P : Outcome → Type 0) → ((number i k : ℕ) → P (refusal n result (refused number i k)))
      → ((table : List ℕ) (size k : ℕ) → LaidBy w n st table size k → is_full (length result) position size ≡ false
      → P (record { reply = written size k; table = table; result = code_over table }))
      → P (assembly w st n result position)
  outcome_cases P refuses writes = go (settling w n st).reply refl
    where
      full : (l : Laid) → (settling w n st).reply ≡ accepted l → (b : Bool) → is_full (length result) position l.length ≡ b → P (assembly w st n result position)
      full l e true f = subst P (sym (outcome_full (settling w n st).table l.length l.passes (laid_by l e) f)) (refuses result_full 0 l.passes)
      full l e false f =
          subst P (sym (outcome_written (settling w n st).table l.length l.passes (laid_by l e) f))
          (writes (settling w n st).table l.length l.passes (laid_by l e) f)

      go : (r : Reply Laid) → (settling w n st).reply ≡ r → P (assembly w st n result position)
      go (refused number i k) e = subst P (sym (outcome_refused number i k e)) (refuses number i k)
      go (accepted l) e = full l e (is_full (length result) position l.length) refl

-- the result isn't full exactly when the position and the length come to at most its length
pub fits_law : (room position size : ℕ) → (is_full room position size ≡ false) ↔ (position + size ≤ room)
fits_law room position size = (
  λ f.
      let q = or-false (ltb room position) (ltb (room - position) size) f in
      omega (arith, ltb-false room position q.0, ltb-false (room - position) size q.1),
  λ h. rw (le-ltb room position (omega arith), le-ltb (room - position) size (omega arith)),
)

-- and full exactly when they come to more
pub full_law : (room position size : ℕ) → (is_full room position size ≡ true) ↔ (room < position + size)
full_law room position size = (λ f. go (ltb room position) refl f, λ h. back (ltb room position) refl h)
  where
    go : (b : Bool) → ltb room position ≡ b → (b || ltb (room - position) size) ≡ true → room < position + size
    go true e f = omega (arith, ltb-true room position e)
    go false e f = omega (arith, ltb-false room position e, ltb-true (room - position) size f)

    back : (b : Bool) → ltb room position ≡ b → room < position + size → (b || ltb (room - position) size) ≡ true
    back true e h = refl
    back false e h = lt-ltb (room - position) size (omega (arith, ltb-false room position e))

-- the position passes the result, or the code does: either way they come to more
pub either_passes : (room position size : ℕ) → (room < position) ⊎ (room < position + size) → room < position + size
either_passes room position size (inl h) = omega arith
either_passes room position size (inr h) = h

-- as the code tests it: the position is past the result's end
pub full_position : (room position size : ℕ) → room < position → true ≡ is_full room position size
full_position room position size h = rw (lt-ltb room position h)

-- or the length is above what is left, or isn't
pub full_length : (room position size : ℕ) → position ≤ room → ltb (room - position) size ≡ is_full room position size
full_length room position size h = rw (le-ltb room position h)
