-- `reference_words` gives the words of a reference: each return is one case of the definition.
-- Assumes nothing.
use native.Mathlib.Omega.{arith}
use Rattle.records.proofs.Reading.{direct_words_pushed, direct_words_raw, delta_words_pushed, delta_words_raw}
use Rattle.records.proofs.record.reference_words.Goals as goal
use Rattle.records.proofs.record.reference_words.Goals.{In-Delta, In-Direct}

pub overflow_add-result : goal.overflow_add-result
overflow_add-result c = omega (arith, c.set_size_number-size.ensures.1)

pub overflow_add-result-then-r-2 : goal.overflow_add-result-then-r-2
overflow_add-result-then-r-2 c = omega (arith, c.set_size_number-size.ensures.1)

pub overflow_add-result-else-r-2 : goal.overflow_add-result-else-r-2
overflow_add-result-else-r-2 c = omega (arith, c.set_size_number-size.ensures.1)

pub returns-then-r : goal.returns-then-r
returns-then-r c =
    let told = (goal.at.returns-then-r c).In-Direct in
    direct_words_pushed _ _ told.set_size_number-size.ensures.0 _ told.in-Direct.is c.if-r.true

pub returns-else-r : goal.returns-else-r
returns-else-r c =
    let told = (goal.at.returns-else-r c).In-Direct in
    direct_words_raw _ _ told.set_size_number-size.ensures.0 _ told.in-Direct.is c.if-r.false

pub returns-then-r-2 : goal.returns-then-r-2
returns-then-r-2 c =
    let told = (goal.at.returns-then-r-2 c).In-Delta in
    delta_words_pushed _ _ told.set_size_number-size.ensures.0 _ told.in-Delta.is c.if-r-2.true

pub returns-else-r-2 : goal.returns-else-r-2
returns-else-r-2 c =
    let told = (goal.at.returns-else-r-2 c).In-Delta in
    delta_words_raw _ _ told.set_size_number-size.ensures.0 _ told.in-Delta.is c.if-r-2.false
