-- How long a text is, and a text at the start of a buffer. Assumes nothing.
use Prim.Native.Nat.{ℕ, ◌+◌, ◌*◌, ◌≤◌, ◌<◌, ◌^◌}
use native.Mathlib.Omega.{arith}
use mathlib.Core.Path.{◌≡◌, ◌∙◌}
use mathlib.Core.List.{List, ◌++◌}
use lib.ListN.{length, length-append}
use Rattle.std.proofs.lemmas.List.Edits.{sets}
use Rattle.opcodes.specs.Text.{as_bytes}
use Rattle.slices.specs.Over.{over}
use Rattle.slices.proofs.Over.{has_room}
use Rattle.lines.specs.Decimal.{decimal}
use Rattle.lines.specs.Lines.{hex}
use Rattle.lines.proofs.Puts.{over_sets}
use Rattle.lines.proofs.Turns.{hex_length}
use Rattle.lines.proofs.Digits.{decimal_most}
use Rattle.jobs.specs.JobText.{code_text, refused_text}

pub code_length : (code : List ℕ) → length (code_text code) ≡ 6 + 2 * length code
unfolding code_text as_bytes
code_length code = omega (arith, length-append (hex code) (as_bytes "\n"), hex_length code)

-- two digits for the number and ten for the section at most
pub refused_most : (n i : ℕ) → n < 100 → i < 2 ^ 32 → length (refused_text n i) ≤ 25
unfolding refused_text as_bytes
refused_most n i small word =
    let after = decimal i ++ as_bytes "\n" in
    omega (
      arith,
      length-append (decimal n) (as_bytes " at " ++ after),
      length-append (decimal i) (as_bytes "\n"),
      decimal_most 2 n (omega arith) (omega (arith, small)),
      decimal_most 10 i (omega arith) (omega (arith, word)),
    )

-- a text put at the start of a buffer that has room for it
pub over_put : (start now x : List ℕ) → length x ≤ length start → now ≡ sets start 0 x → now ≡ over start 0 x
over_put start now x h put = over_sets start now 0 x (omega (arith, h)) put ∙ has_room start 0 x (omega (arith, h))
