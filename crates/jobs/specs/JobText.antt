-- Document 02, request 2: the text that is printed for a job. Assumes nothing.
use Rattle.std.specs.Prelude.{ℕ, ◌+◌, ◌*◌, max, List, ◌++◌, take}
use Rattle.units.specs.Reply.{Reply, accepted, refused}
use Rattle.layout.specs.Answer.{Laid}
use Rattle.opcodes.specs.Text.{as_bytes}
use Rattle.lines.specs.Decimal.{decimal}
use Rattle.lines.specs.Lines.{hex}

-- '`code `, lower-case hex and a line feed'
unfoldable pub code_text : List ℕ → List ℕ
code_text code = as_bytes "code " ++ (hex code ++ as_bytes "\n")

-- '`refused N at I` and a line feed, the number and index returned being in decimal'
unfoldable pub refused_text : ℕ → ℕ → List ℕ
refused_text n i = as_bytes "refused " ++ (decimal n ++ (as_bytes " at " ++ (decimal i ++ as_bytes "\n")))

-- the text for an answer; the code is the first bytes of the result, as many as its length. Passes aren't printed
abbrev pub text_for : Reply Laid → List ℕ → List ℕ
text_for (accepted laid) result = code_text (take laid.length result)
text_for (refused n i k) result = refused_text n i

-- no text is longer, with a result of n bytes: `code `, two digits for each byte, a line feed; or `refused 15 at 4294967295`, a line feed
abbrev pub longest_text : ℕ → ℕ
longest_text n = max (6 + 2 * n) 25
