-- Without a delta none is backward; else the search. Assumes nothing.
use mathlib.Core.Path.{◌≡◌, refl, sym, ◌∙◌}
use lib.ListN.{length}
use Rattle.std.proofs.Common.{rules}
use Rattle.records.specs.Store.{words_per_section, words_at}
use Rattle.layout.proofs.Premises.{never_backward}
use Rattle.layout.specs.Conditions.{backward_at}
use Rattle.settling.specs.SectionWalk.{sections_in, MarksIn, backward_words}
use Rattle.settling.proofs.Sections.{turn_at, marks_fit, backward_test}
use Rattle.settling.proofs.search.first_backward.Goals as goal

pub returns-then-not-has_delta : goal.returns-then-not-has_delta
returns-then-not-has_delta c = never_backward _ _ (c.requires.never c.if-not-has_delta.true)

pub first_section-requires : goal.first_section-requires
first_section-requires c =
    λ i l.
    let m : MarksIn (length c.args.table.now) (words_at words_per_section c.args.store.words.now i) =
    marks_fit _ _ _ _ c.requires.in_table (turn_at c.args.store i _ l (λ k. refl)) in
    search rules

pub returns : goal.returns
returns c =
    let s = c.args.store in
    let table = c.args.table.now in
    c.first_section.ensures (backward_at table (sections_in s))
    (λ i b l p.
    let is : b ≡ backward_words table (words_at words_per_section s.words.now i) = search rules in
    sym (is ∙ backward_test _ _ _ _ (turn_at s i _ l (λ k. refl))))
