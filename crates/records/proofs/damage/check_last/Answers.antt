-- `check_last` is the definition: counts, then bytes without sections, then the last section.
-- Assumes nothing.
-- ---- the store and its last section
use Prim.Native.Nat.{◌-◌}
use native.Mathlib.Omega.{arith}
use mathlib.Core.Path.{◌≡◌, sym, ap, ◌∙◌}
use mathlib.Core.Bool.{Bool, true, false}
use Rattle.records.specs.Damage.{broken_last, last_soundness}
use Rattle.records.specs.Held.{Held, held_by, held_read, ends_elsewhere}
use Rattle.records.specs.Store.{Store, store_of, section_words, words_per_section}
use Rattle.records.specs.declared.record.StoredSection.{StoredSection}
use Rattle.records.specs.Damage.{Sound, Damaged}
use Rattle.records.proofs.Damages.{good_words, last_counts, last_unheld, last_none, last_damaged, last_sound}
use Rattle.records.proofs.Helds.{damaged_last, held_last}
use Rattle.records.proofs.damage.check_last.Goals as goal
use Rattle.records.proofs.damage.check_last.Goals.{After-bytes_unheld, After-counts_are_bad, After-ends_elsewhere, After-read_section, After-section_words, Else-counts_are_bad, Else-sections-eq0, In-Some}

abbrev store_at : goal.After-counts_are_bad → Store
store_at c =
    let a = c.args in
    store_of a.store a.bytes.now a.words.now

-- the test of the counts, seen from where there is a section
abbrev counted : goal.Else-sections-eq0 → goal.After-counts_are_bad
counted c = (goal.at.Else-sections-eq0 c).After-counts_are_bad

-- what the definition asks of the last section
abbrev last-broken : goal.After-counts_are_bad → Bool
last-broken c = broken_last (section_words words_per_section (store_at c) ((store_at c).sections - 1)) (store_at c).stored_bytes

is_damaged_lem : (c : goal.Else-sections-eq0) → last-broken (counted c) ≡ true → Damaged ((store_at (counted c)).sections - 1) ≡ last_soundness words_per_section (store_at (counted c))
is_damaged_lem c b =
    let held = (goal.at.Else-sections-eq0 c).After-bytes_unheld in
    last_damaged words_per_section (store_at (counted c)) (sym (counted c).counts_are_bad.ensures ∙ held.if-counts_are_bad.false) (sym held.bytes_unheld.ensures ∙ c.if-bytes_unheld.false) c.if-sections-eq0.false b

is-sound : (c : goal.Else-sections-eq0) → last-broken (counted c) ≡ false → Sound ≡ last_soundness words_per_section (store_at (counted c))
is-sound c b =
    let held = (goal.at.Else-sections-eq0 c).After-bytes_unheld in
    last_sound words_per_section (store_at (counted c)) (sym (counted c).counts_are_bad.ensures ∙ held.if-counts_are_bad.false) (sym held.bytes_unheld.ensures ∙ c.if-bytes_unheld.false) c.if-sections-eq0.false b

-- of the words that the code has
of_words : (c : goal.After-section_words) → last-broken (counted (goal.at.After-section_words c).Else-sections-eq0) ≡ broken_last c.section_words.result (store_at (counted (goal.at.After-section_words c).Else-sections-eq0)).stored_bytes
of_words c = ap (λ (r : StoredSection). broken_last r (store_at (counted (goal.at.After-section_words c).Else-sections-eq0)).stored_bytes) (sym c.section_words.ensures)

-- where it was read, seen from where it was found to be readable
abbrev reading : goal.In-Some → goal.After-read_section
reading c = (goal.at.In-Some c).After-read_section

-- what the code tests of it then
of-held : (c : goal.In-Some) → last-broken (counted (goal.at.After-read_section (reading c)).Else-sections-eq0) ≡ ends_elsewhere (held_by c.in-Some.section) (store_at (counted (goal.at.After-read_section (reading c)).Else-sections-eq0)).stored_bytes
of-held c =
    let words = (goal.at.After-read_section (reading c)).After-section_words in
    of_words words
    ∙ held_last words.section_words.result (held_by c.in-Some.section) (ap held_read (sym c.in-Some.is ∙ (reading c).read_section.ensures)) _

-- and it was tested so
of_test : (c : goal.After-ends_elsewhere) → ends_elsewhere (held_by c.in-Some.section) (store_at (counted (goal.at.After-read_section (reading (goal.at.After-ends_elsewhere c).In-Some)).Else-sections-eq0)).stored_bytes ≡ c.ends_elsewhere.result
of_test c =
    let stored = (store_at (counted (goal.at.After-read_section (reading (goal.at.After-ends_elsewhere c).In-Some)).Else-sections-eq0)).stored_bytes in
    sym (c.ends_elsewhere.ensures ∙ ap (λ (h : Held). ends_elsewhere h stored) c.held_by.ensures)

pub returns-then-counts_are_bad : goal.returns-then-counts_are_bad
returns-then-counts_are_bad c =
    let bad = (goal.at.returns-then-counts_are_bad c).After-counts_are_bad in
    last_counts words_per_section (store_at bad) (sym bad.counts_are_bad.ensures ∙ c.if-counts_are_bad.true)

pub returns-then-bytes_unheld : goal.returns-then-bytes_unheld
returns-then-bytes_unheld c =
    let held = (goal.at.returns-then-bytes_unheld c).After-bytes_unheld in
    let bad = (goal.at.After-bytes_unheld held).After-counts_are_bad in
    last_unheld words_per_section (store_at bad) (sym bad.counts_are_bad.ensures ∙ held.if-counts_are_bad.false) (sym held.bytes_unheld.ensures ∙ c.if-bytes_unheld.true)

pub returns-then-sections-eq0 : goal.returns-then-sections-eq0
returns-then-sections-eq0 c =
    let held = (goal.at.returns-then-sections-eq0 c).After-bytes_unheld in
    let bad = (goal.at.After-bytes_unheld held).After-counts_are_bad in
    last_none words_per_section (store_at bad) (sym bad.counts_are_bad.ensures ∙ held.if-counts_are_bad.false) (sym held.bytes_unheld.ensures ∙ c.if-bytes_unheld.false) c.if-sections-eq0.true

pub section_words-requires : goal.section_words-requires
section_words-requires c =
    let good = (goal.at.section_words-requires c).Else-counts_are_bad in
    omega (arith, good_words words_per_section (store_at (counted c)) (sym (counted c).counts_are_bad.ensures ∙ good.if-counts_are_bad.false))

pub returns-in_default : goal.returns-in_default
returns-in_default c =
    let read = (goal.at.returns-in_default c).After-read_section in
    let words = (goal.at.After-read_section read).After-section_words in
    is_damaged_lem (goal.at.After-section_words words).Else-sections-eq0 (of_words words ∙ damaged_last words.section_words.result _ (ap held_read (sym c.in_default.is ∙ read.read_section.ensures)))

pub returns-then-ends_elsewhere : goal.returns-then-ends_elsewhere
returns-then-ends_elsewhere c =
    let tested = (goal.at.returns-then-ends_elsewhere c).After-ends_elsewhere in
    let was = (goal.at.After-ends_elsewhere tested).In-Some in
    is_damaged_lem (goal.at.After-read_section (reading was)).Else-sections-eq0 (of-held was ∙ of_test tested ∙ c.if-ends_elsewhere.true)

pub returns-else-ends_elsewhere : goal.returns-else-ends_elsewhere
returns-else-ends_elsewhere c =
    let tested = (goal.at.returns-else-ends_elsewhere c).After-ends_elsewhere in
    let was = (goal.at.After-ends_elsewhere tested).In-Some in
    is-sound (goal.at.After-read_section (reading was)).Else-sections-eq0 (of-held was ∙ of_test tested ∙ c.if-ends_elsewhere.false)
