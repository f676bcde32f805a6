-- Document 01, module 6: whether a jump may land at an offset of a code. Assumes nothing.
use Rattle.std.specs.Prelude.{ℕ, cond, ◌&&◌, List, length, ltb, eqb}
use Rattle.evm.specs.YellowPaper.{code_byte}
use Rattle.evm.specs.declared.landing.Landing.{Landing}
use Rattle.evm.specs.declared.landing.Landing.TheVariants.{Yes, No}

-- JUMPDEST
abbrev pub jumpdest : ℕ
jumpdest = 0x5b

-- 'yes exactly if the offset is inside the code and the byte there is 5b'
unfoldable pub landing_at : List ℕ → ℕ → Landing
landing_at code offset = cond (ltb offset (length code) && eqb (code_byte code offset) jumpdest) Yes No
