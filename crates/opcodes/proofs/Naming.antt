-- Laws of the opcodes' names: the arm of a named opcode, and the arm of those that have none. Assumes nothing.
use Prim.Native.Nat.{ℕ, ◌≤◌}
use native.Mathlib.Omega.{arith}
use Prim.Native.String.{String}
use mathlib.Core.Path.{◌≡◌, refl, ◌∙◌}
use mathlib.Core.Bool.{Bool, true, false, cond}
use mathlib.Core.List.{List, [], ◌∷◌}
use lib.ListN.{length}
use lib.Dec.{leb, eqb}
use borrow.Author.Tests.{leb-true, ne_eqb}
use Rattle.opcodes.specs.Text.{as_bytes}
use Rattle.opcodes.specs.Names.{longest_name, lookup, op_names, op_name}

-- the arm of one opcode
pub named : {op k : ℕ} {r : List ℕ} → op ≡ k → r ≡ op_name k → r ≡ op_name op
named e h = rw e h

-- a number is none of those in a list, said as the last arm says it: one after the other, behind what is known already
abbrev pub Missed : ℕ → Type 0 → List (ℕ × String) → Type 0
Missed op known [] = known
Missed op known (entry ∷ rest) = Missed op (known × (op ≡ entry.0 → ⊥)) rest

-- what is known already is among it
known_too : (op : ℕ) (known : Type 0) (names : List (ℕ × String)) → Missed op known names → known
known_too op known [] missed = missed
known_too op known (entry ∷ rest) missed = (known_too op (known × (op ≡ entry.0 → ⊥)) rest missed).0

-- then the list has no text for it
no_text : (op : ℕ) (known : Type 0) (names : List (ℕ × String)) (other : String) → Missed op known names → lookup op names other ≡ other
unfolding lookup
no_text op known [] other missed = refl
no_text op known (entry ∷ rest) other missed =
    let known_here = known × (op ≡ entry.0 → ⊥) in
    let differs : eqb op entry.0 ≡ false = ne_eqb op entry.0 (known_too op known_here rest missed).1 in
    rw differs (no_text op known_here rest other missed)

-- the arm of the bytes that have no name
pub unnamed : (op : ℕ) {r : List ℕ} → Missed op Unit op_names → r ≡ as_bytes "UNKNOWN" → r ≡ op_name op
unfolding op_name
unnamed op missed e = e ∙ rw (no_text op Unit op_names "UNKNOWN" missed) refl

-- ---- for callers

-- two tests in a row
both : (b r : Bool) → cond b r false ≡ true → (b ≡ true) × (r ≡ true)
both true r e = (refl, e)
both false r e = cc

-- no text of a list is longer than the longest name
abbrev all_fit : List (ℕ × String) → Bool
all_fit [] = true
all_fit (entry ∷ rest) = cond (leb (length (as_bytes entry.1)) longest_name) (all_fit rest) false

-- nor is the one that stands beside a number
lookup_fits : (n : ℕ) (names : List (ℕ × String)) → all_fit names ≡ true → length (as_bytes (lookup n names "UNKNOWN")) ≤ longest_name
unfolding lookup as_bytes
lookup_fits n [] e = omega arith
lookup_fits n (entry ∷ rest) e = go (eqb n entry.0) (lookup_fits n rest all.1)
  where
    all : (leb (length (as_bytes entry.1)) longest_name ≡ true) × (all_fit rest ≡ true)
    all = both (leb (length (as_bytes entry.1)) longest_name) (all_fit rest) e

    go : (b : Bool) → length (as_bytes (lookup n rest "UNKNOWN")) ≤ longest_name → length (as_bytes (cond b entry.1 (lookup n rest "UNKNOWN"))) ≤ longest_name
    go true h = leb-true (length (as_bytes entry.1)) longest_name all.0
    go false h = h

-- no name is longer than that
pub name_fits : (op : ℕ) → length (op_name op) ≤ longest_name
unfolding op_name op_names as_bytes
name_fits op = lookup_fits op op_names refl
