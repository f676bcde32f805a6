-- What adding the push of the number's eight bytes gives.
-- Assumes nothing.
use native.Mathlib.Omega.{arith}
use Prim.Native.Nat.{ℕ}
use mathlib.Core.Path.{ap, ◌∙◌}
use Rattle.units.specs.Numbers.{number}
use Rattle.units.proofs.BigEndian.{number_big_endian}
use Rattle.records.specs.Store.{words_per_section}
use Rattle.records.specs.Sections.{ops}
use Rattle.calls.specs.Calls.{minimal_push}
use Rattle.numbers.specs.Numbers.{store_in}
use Rattle.numbers.proofs.Adds.{add_same}
use Rattle.minimal.proofs.Digits.{eight_bytes}
use Rattle.minimal.proofs.add_number.Goals as goal

pub returns : goal.returns
returns c =
    let a = c.args in
    let v = a.value in
    let same = ap number (c.to_be_bytes-digits.ensures ∙ eight_bytes v) ∙ number_big_endian 8 v (omega arith) in
    let all = add_same words_per_section _ (ops (minimal_push v)) (store_in a.state a.bytes.now a.words.now) _ _ _
    (ap (λ (n : ℕ). ops (minimal_push n)) same) (c.add_scanned.ensures.reply, (c.add_scanned.ensures.bytes, c.add_scanned.ensures.words)) in
    record { reply = all.0; bytes = all.1.0; words = all.1.1 }
