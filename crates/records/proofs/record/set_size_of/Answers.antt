-- `set_size_of` is the definition's tests as a match.
-- Assumes nothing.
use Rattle.records.specs.Record.{set_size_of}
use Rattle.records.proofs.Reading.{size_other}
use Rattle.records.proofs.record.set_size_of.Goals as goal

pub returns-in-0 : goal.returns-in-0
unfolding set_size_of
returns-in-0 c = rw c.in-0.is

pub returns-in-1 : goal.returns-in-1
unfolding set_size_of
returns-in-1 c = rw c.in-1.is

pub returns-in-2 : goal.returns-in-2
unfolding set_size_of
returns-in-2 c = rw c.in-2.is

pub returns-in-3 : goal.returns-in-3
unfolding set_size_of
returns-in-3 c = rw c.in-3.is

pub returns-in_default : goal.returns-in_default
returns-in_default c =
    let r = c.in_default.in_default-own.rest in
    size_other _ r.0.0.0.1 r.0.0.1 r.0.1 r.1
