-- What stands in the buffer that was read into is what the reader's bytes begin with, as many of them as the buffer has room for.
-- Assumes nothing.
use Rattle.std.proofs.Common.{◌≡◌, ℕ, ◌≤◌, ◌<◌, List, [], ◌++◌, None, Some, IfSome, arith, length, take, sym, ap, ◌∙◌, subst, take_all, take_at, length-take-le}
use Rattle.std.proofs.lemmas.List.{append-nil, length-take}
use Rattle.std.proofs.lemmas.Bool.{cases_lt}
use mathlib.Core.Logic.{◌⊎◌, inl, inr}
use Rattle.std.specs.Io.KnownBytes.{Consumes, IsAtEnd}
use Rattle.std.specs.declared.option.Option.{Option}

-- n bytes of the buffer, and what the reader has left
by_room : (buffer rest all : List ℕ) (n : ℕ) → n ≤ length buffer → all ≡ take n buffer ++ rest → (n < length buffer → rest ≡ []) → (n < length buffer) ⊎ (length buffer ≤ n)
    → take (length buffer) all ≡ take n buffer
by_room buffer rest all n within split ended (inl short) =
    let whole : all ≡ take n buffer = split ∙ ap (λ l. take n buffer ++ l) (ended short) ∙ append-nil (take n buffer) in
    ap (take (length buffer)) whole ∙ take_all (length buffer) (take n buffer) (simp length-take (omega arith))
by_room buffer rest all n within split ended (inr full) =
    let long : length (take n buffer) ≡ length buffer = length-take-le n buffer within ∙ omega arith in
    ap (take (length buffer)) split ∙ take_at (take n buffer) rest (length buffer) long

-- a fact of the bytes in the buffer is one of all of the reader's, if it is one of them where it is one of their front
pub of_input : (a b : Option (List ℕ)) (buffer : List ℕ) (room n : ℕ) (P : List ℕ → Type 0) → room ≡ length buffer → n ≤ length buffer → Consumes a b (take n buffer)
    → (n < length buffer → IsAtEnd b) → ((bytes : List ℕ) → P (take room bytes) → P bytes) → P (take n buffer) → IfSome a P
of_input None b buffer room n P long within read ended whole fact = tt
of_input (Some x) None buffer room n P long within read ended whole fact = absurd read
of_input (Some x) (Some y) buffer room n P long within read ended whole fact =
    whole x (subst P (sym (ap (λ m. take m x) long ∙ by_room buffer y x n within read ended (cases_lt n (length buffer)))) fact)
