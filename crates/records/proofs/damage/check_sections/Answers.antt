-- The walk goes on while no section is broken, and leaves at the first that is.
-- Assumes nothing.
use mathlib.Core.Path.{sym, ap, ◌∙◌}
use mathlib.Core.Bool.{cond}
use Rattle.records.specs.Damage.{is_span}
use Rattle.records.specs.Store.{store_of, words_per_section}
use Rattle.records.specs.declared.record.StoredSection.{StoredSection}
use Rattle.records.proofs.Damages.{walk_start, walk_test, walk_next, walk_broken, walk_done}
use Rattle.records.proofs.Helds.{held_damaged, damaged_broken, held_broken, held_end}
use Rattle.records.proofs.damage.check_sections.Goals as goal

pub loop-i-init : goal.loop-i-init
loop-i-init c = walk_start _ _

pub returns-then-is_unreadable : goal.returns-then-is_unreadable
returns-then-is_unreadable c =
    let st = store_of c.args.store c.args.bytes.now c.args.words.now in
    let tested = walk_test words_per_section st c.loop-i.i c.loop-i.end _ _ c.section_words-section.ensures c.loop-i.invariant.1 c.requires.spans_value in
    walk_broken words_per_section st c.loop-i.i c.loop-i.end c.loop-i.invariant c.loop-i-test.true
    (sym tested ∙ damaged_broken c.section_words-section.result c.loop-i.end _ _ (held_damaged _ (sym c.is_unreadable.ensures ∙ c.if-is_unreadable.true)))

pub held_in-held-requires : goal.held_in-held-requires
held_in-held-requires c = sym c.is_unreadable.ensures ∙ c.if-is_unreadable.false

pub returns-then-is_misplaced : goal.returns-then-is_misplaced
returns-then-is_misplaced c =
    let st = store_of c.args.store c.args.bytes.now c.args.words.now in
    let tested = walk_test words_per_section st c.loop-i.i c.loop-i.end _ _ c.section_words-section.ensures c.loop-i.invariant.1 c.requires.spans_value in
    walk_broken words_per_section st c.loop-i.i c.loop-i.end c.loop-i.invariant c.loop-i-test.true
    (sym tested ∙ held_broken c.section_words-section.result c.held_in-held.result c.held_in-held.ensures _ _ _ ∙ sym c.is_misplaced.ensures ∙ c.if-is_misplaced.true)

pub loop-i-preserved : goal.loop-i-preserved
loop-i-preserved c =
    let st = store_of c.args.store c.args.bytes.now c.args.words.now in
    let tested = walk_test words_per_section st c.loop-i.i c.loop-i.end _ _ c.section_words-section.ensures c.loop-i.invariant.1 c.requires.spans_value in
    let was = c.held_in-held.ensures in
    walk_next words_per_section st c.loop-i.i c.loop-i.end _ c.loop-i.invariant c.loop-i-test.true
    (sym tested ∙ held_broken c.section_words-section.result c.held_in-held.result was _ _ _ ∙ sym c.is_misplaced.ensures ∙ c.if-is_misplaced.false)
    (c.end_after-end.ensures ∙ held_end c.section_words-section.result c.held_in-held.result was c.loop-i.end ∙ ap (λ (r : StoredSection). cond (is_span r.kind) r.second c.loop-i.end) c.section_words-section.ensures)

pub returns : goal.returns
returns c =
    walk_done words_per_section (store_of c.args.store c.args.bytes.now c.args.words.now) c.loop-i.i c.loop-i.end c.loop-i.invariant c.loop-i-test.false
