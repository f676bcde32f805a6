-- Where all marks are placed, no reference is to an unplaced one; else the search. Assumes nothing.
use mathlib.Core.Path.{◌≡◌, refl, sym, ◌∙◌}
use lib.ListN.{length}
use Rattle.std.proofs.Common.{rules}
use Rattle.records.specs.Store.{words_per_section, words_at}
use Rattle.layout.specs.Conditions.{unplaced_at}
use Rattle.settling.specs.SectionWalk.{sections_in, MarksIn, unplaced_words}
use Rattle.settling.proofs.Sections.{turn_at, marks_fit}
use Rattle.settling.proofs.FirstPlacings.{unplaced_test, all_placed_lem}
use Rattle.settling.proofs.search.first_unplaced.Goals as goal

pub returns-then-all_placed : goal.returns-then-all_placed
returns-then-all_placed c =
    all_placed_lem _ _ _ c.requires.table_value c.requires.in_table refl (sym c.all_placed.ensures ∙ c.if-all_placed.true)

pub first_section-requires : goal.first_section-requires
first_section-requires c = λ i l.
    let m : MarksIn (length c.args.table.now) (words_at words_per_section c.args.store.words.now i) =
    marks_fit _ _ _ _ c.requires.in_table (turn_at c.args.store i _ l (λ k. refl)) in
    search rules

pub returns : goal.returns
returns c =
    let s = c.args.store in
    let table = c.args.table.now in
    c.first_section.ensures (unplaced_at (sections_in s))
    (λ i b l p.
    let is : b ≡ unplaced_words table (words_at words_per_section s.words.now i) = search rules in
    sym (is ∙ unplaced_test _ _ _ c.requires.table_value c.requires.in_table i _ (turn_at s i _ l (λ k. refl))))
