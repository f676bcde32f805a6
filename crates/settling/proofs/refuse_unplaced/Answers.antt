-- The section found is a reference to an unplaced mark; its kind and its start's entry tell which mark it misses. Assumes nothing.
-- ---- the entry, the sections and the one found
use Prim.Native.Nat.{ℕ, ◌<◌}
use native.Mathlib.Omega.{arith}
use mathlib.Core.Path.{◌≡◌, refl, ap, ◌∙◌}
use mathlib.Core.Bool.{not}
use mathlib.Core.List.{List}
use lib.Dec.{eqb}
use lib.ListN.{length}
use Rattle.std.specs.Prelude.{Err}
use Rattle.records.specs.Sections.{Section}
use Rattle.layout.specs.Conditions.{Missing, missing_at}
use Rattle.layout.specs.Answer.{unplaced}
use Rattle.settling.specs.SectionWalk.{sections_in, missing_words, missing_refusal}
use Rattle.settling.specs.Settle.{settled_reply}
use Rattle.settling.proofs.Sections.{sections_count, Turn, turn_at, marks_fit, unplaced_kind, missing_test}
use Rattle.settling.proofs.FirstPlacings.{entry_placed}
use Rattle.settling.proofs.SettleAnswers.{answers_said, missing_reply}
use Rattle.settling.proofs.refuse_unplaced.Goals as goal
use Rattle.settling.proofs.refuse_unplaced.Goals.{After-entry_of-start_placed, After-section-section, Start}

abbrev sections : goal.Start → List Section
sections s = sections_in s.args.store

-- it is one of the store's
below : (s : goal.Start) → s.args.at < s.args.store.counts.sections
below s = omega (arith, sections_count s.args.store, s.requires.first.0)

-- the entry, seen from where its words were read
abbrev entry : goal.After-section-section → goal.Start
entry c = (goal.at.After-section-section c).Start

here : (c : goal.After-section-section) → Turn (sections (entry c)) (entry c).args.at c.section-section.result
here c = let s = entry c in turn_at s.args.store _ _ (below s) c.section-section.ensures

-- its first mark is in the table
first-in : (c : goal.After-section-section) → c.section-section.result.first < length (entry c).args.table.now
first-in c =
    let s = entry c in
    (marks_fit _ _ _ _ s.requires.in_table (here c)).first (unplaced_kind _ _ _ (here c) s.requires.first.1)

-- which mark it misses
missed : (c : goal.After-entry_of-start_placed) → missing_words (not (eqb c.entry_of-start_placed.result 0)) c.section-section.result ≡ missing_at (sections (entry (goal.at.After-entry_of-start_placed c).After-section-section)) (entry (goal.at.After-entry_of-start_placed c).After-section-section).args.at
missed c =
    let read = (goal.at.After-entry_of-start_placed c).After-section-section in
    let s = entry read in
    let same = ap (λ (v : ℕ). not (eqb v 0)) c.entry_of-start_placed.ensures ∙ entry_placed _ _ _ s.requires.table_value s.requires.in_table _ (first-in read) in
    missing_test _ _ _ (here read) s.requires.first.1 _ same

pub returns : goal.returns
returns c =
    let refusing = c in
    let decided = refusing in
    let looked = (goal.at.returns decided).After-entry_of-start_placed in
    let s = entry (goal.at.After-entry_of-start_placed looked).After-section-section in
    let at = s.args.at in
    let is = decided.missing_refusal.ensures ∙ ap (λ (x : Missing). missing_refusal x at) (missed looked) in
    let said =
    answers_said (length s.args.table.now) (sections s) (unplaced (missing_at (sections s) at) at) _
    (s.requires.in_table, s.requires.first, refl) refusing.refuse.ensures.table in
    record {
      reply = ap settled_reply (refusing.refuse.ensures.reply ∙ ap Err is) ∙ missing_reply (missing_at (sections s) at) at ∙ said.0;
      table = said.1;
    }
