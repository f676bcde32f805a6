-- The last Ops or Data section is found, or the section before is asked; the measure of the walk is the range's.
-- Assumes nothing.
use Prim.Native.Nat.{◌+◌, ◌-◌, ◌<◌}
use mathlib.Core.Path.{◌≡◌, sym, ap, ◌∙◌, refl}
use native.Mathlib.Omega.{arith}
use Rattle.records.specs.Damage.{is_span, spans_end}
use Rattle.records.specs.Store.{store_of, words_per_section}
use Rattle.records.specs.declared.record.StoredSection.{StoredSection}
use Rattle.records.proofs.Damages.{spans_hit, spans_miss, spans_none}
use Rattle.records.proofs.damage.spans_end.Goals as goal

pub returns-then-is_span : goal.returns-then-is_span
returns-then-is_span c =
    let st = store_of c.args.store c.args.bytes.now c.args.words.now in
    let n = c.loop-i.i in
    let l : 0 < n = c.loop-i-test.true in
    let same : n - 1 + 1 ≡ n = omega arith in
    same
    ∙ sym (spans_hit words_per_section st n (n - 1) l refl (ap (λ (r : StoredSection). is_span r.kind) (sym c.section_words.ensures) ∙ sym c.is_span.ensures ∙ c.if-is_span.true))
    ∙ c.loop-i.invariant

pub loop-i-preserved : goal.loop-i-preserved
loop-i-preserved c =
    let st = store_of c.args.store c.args.bytes.now c.args.words.now in
    let n = c.loop-i.i in
    sym (spans_miss words_per_section st n (n - 1) c.loop-i-test.true refl (ap (λ (r : StoredSection). is_span r.kind) (sym c.section_words.ensures) ∙ sym c.is_span.ensures ∙ c.if-is_span.false))
    ∙ c.loop-i.invariant

pub returns : goal.returns
returns c =
    let st = store_of c.args.store c.args.bytes.now c.args.words.now in
    let none : c.loop-i.i ≡ 0 = omega arith in
    sym (spans_none words_per_section st) ∙ ap (spans_end words_per_section st) (sym none) ∙ c.loop-i.invariant
