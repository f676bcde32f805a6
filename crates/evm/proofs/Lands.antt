-- Laws of landing: one for each way that the code goes. Assumes nothing.
use Prim.Native.Nat.{ℕ, ◌≤◌, ◌<◌}
use mathlib.Core.Path.{◌≡◌}
use mathlib.Core.Bool.{true, false}
use mathlib.Core.List.{List}
use lib.ListN.{length}
use lib.Dec.{ltb, eqb}
use borrow.Author.Tests.{lt-ltb, le-ltb, eq-eqb, ne_eqb}
use Rattle.evm.specs.YellowPaper.{code_byte}
use Rattle.evm.specs.Landing.{jumpdest, landing_at}
use Rattle.evm.specs.declared.landing.Landing.TheVariants.{Yes, No}

module _ (code : List ℕ) (offset : ℕ) where
  pub outside : length code ≤ offset → No ≡ landing_at code offset
  unfolding landing_at
  outside h =
      let t : ltb offset (length code) ≡ false = le-ltb offset (length code) h in
      rw t

  pub at_jumpdest : offset < length code → code_byte code offset ≡ jumpdest → Yes ≡ landing_at code offset
  unfolding landing_at
  at_jumpdest h e =
      let t : ltb offset (length code) ≡ true = lt-ltb offset (length code) h in
      let u : eqb (code_byte code offset) jumpdest ≡ true = eq-eqb (code_byte code offset) jumpdest e in
      rw (t, u)

  pub at_other : offset < length code → (code_byte code offset ≡ jumpdest → ⊥) → No ≡ landing_at code offset
  unfolding landing_at
  at_other h e =
      let t : ltb offset (length code) ≡ true = lt-ltb offset (length code) h in
      let u : eqb (code_byte code offset) jumpdest ≡ false = ne_eqb (code_byte code offset) jumpdest e in
      rw (t, u)
