-- In no bytes nothing is written.
-- Assumes nothing.
use native.Mathlib.Omega.{arith}
use mathlib.Core.Path.{◌≡◌, sym, ap, ◌∙◌}
use Rattle.units.specs.Numbers.{big_endian}
use Rattle.assembler.specs.Writing.{wrote}
use Rattle.assembler.proofs.Writes.{wrote_none}
use Rattle.assembler.proofs.emission.CodeWriter.write_value.Goals as goal

pub returns-in_default : goal.returns-in_default
unfolding big_endian
returns-in_default c =
    let none : c.args.count ≡ 0 = omega (arith, c.in_default, c.requires.0) in
    sym (wrote_none c.args.self.now) ∙ ap (λ n. wrote c.args.self.now (big_endian n c.args.value)) (sym none)
