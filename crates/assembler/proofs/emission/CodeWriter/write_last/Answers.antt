-- `write_last` writes the last of the value's four bytes.
-- Assumes nothing.
use mathlib.Core.Path.{sym, ap, ◌∙◌, subst}
use Rattle.assembler.specs.Writing.{Fits, wrote}
use Rattle.assembler.proofs.Writes.{last_bytes}
use Rattle.assembler.proofs.emission.CodeWriter.write_last.Goals as goal

pub write_bytes-requires : goal.write_bytes-requires
write_bytes-requires g c =
    rw c.to_be_bytes-bytes.ensures (subst (Fits c.args.self.now) (sym (last_bytes g.row.COUNT c.args.value c.requires.0)) c.requires.1)

pub returns : goal.returns
returns g c =
    c.write_bytes.ensures ∙ rw c.to_be_bytes-bytes.ensures (ap (wrote c.args.self.now) (last_bytes g.row.COUNT c.args.value c.requires.0))
