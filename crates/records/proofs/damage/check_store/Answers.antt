-- `check_store` is the definition: counts, then bytes that nothing holds, then the sections.
-- Assumes nothing.
use mathlib.Core.Path.{sym, ◌∙◌}
use mathlib.Core.Path.{ap}
use mathlib.Core.Bool.{◌&&◌}
use Prim.Native.Nat.{ℕ}
use lib.Dec.{ltb, eqb}
use Rattle.records.proofs.Damages.{good_words, whole_counts, whole_unheld, whole_sections}
use Rattle.records.specs.Store.{store_of, words_per_section}
use Rattle.records.proofs.damage.check_store.Goals as goal
use Rattle.records.proofs.damage.check_store.Goals.{After-counts_are_bad, After-spans_end-spans}

pub returns-then-counts_are_bad : goal.returns-then-counts_are_bad
returns-then-counts_are_bad c =
    let bad = (goal.at.returns-then-counts_are_bad c).After-counts_are_bad in
    let a = bad.args in
    let st = store_of a.store a.bytes.now a.words.now in
    whole_counts words_per_section st (sym bad.counts_are_bad.ensures ∙ c.if-counts_are_bad.true)

pub spans_end-spans-requires : goal.spans_end-spans-requires
spans_end-spans-requires c =
    let bad = (goal.at.spans_end-spans-requires c).After-counts_are_bad in
    let a = bad.args in
    let st = store_of a.store a.bytes.now a.words.now in
    good_words words_per_section st (sym bad.counts_are_bad.ensures ∙ c.if-counts_are_bad.false)

pub returns-then-bytes_unheld : goal.returns-then-bytes_unheld
returns-then-bytes_unheld c =
    let bad = (goal.at.returns-then-bytes_unheld c).After-counts_are_bad in
    let a = bad.args in
    let st = store_of a.store a.bytes.now a.words.now in
    let spans = (goal.at.returns-then-bytes_unheld c).After-spans_end-spans in
    whole_unheld words_per_section st (sym bad.counts_are_bad.ensures ∙ spans.if-counts_are_bad.false)
    (ap (λ (n : ℕ). ltb 0 a.store.bytes && eqb n 0) (sym spans.spans_end-spans.ensures) ∙ sym c.bytes_unheld.ensures ∙ c.if-bytes_unheld.true)

pub check_sections-requires : goal.check_sections-requires
check_sections-requires c =
    let bad = (goal.at.check_sections-requires c).After-counts_are_bad in
    let a = bad.args in
    let st = store_of a.store a.bytes.now a.words.now in
    record {
      sections_in_bounds = good_words words_per_section st (sym bad.counts_are_bad.ensures ∙ c.if-counts_are_bad.false);
      spans_value = c.spans_end-spans.ensures;
    }

pub returns : goal.returns
returns c =
    let bad = (goal.at.returns c).After-counts_are_bad in
    let a = bad.args in
    let st = store_of a.store a.bytes.now a.words.now in
    let spans = (goal.at.returns c).After-spans_end-spans in
    c.check_sections.ensures
    ∙ whole_sections words_per_section st (sym bad.counts_are_bad.ensures ∙ spans.if-counts_are_bad.false)
    (ap (λ (n : ℕ). ltb 0 a.store.bytes && eqb n 0) (sym spans.spans_end-spans.ensures) ∙ sym c.bytes_unheld.ensures ∙ c.if-bytes_unheld.false)
