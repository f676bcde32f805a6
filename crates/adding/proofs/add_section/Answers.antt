-- 6, then 5, then the new section.
-- Assumes nothing.
use native.Mathlib.Omega.{arith}
use Prim.Native.Nat.{ℕ}
use mathlib.Core.Path.{◌≡◌, sym, ap, ◌∙◌}
use mathlib.Core.List.{List}
use Rattle.records.specs.Record.{stored_section}
use Rattle.records.specs.declared.Assembler.{Assembler}
use Rattle.records.specs.declared.record.StoredSection.{StoredSection}
use Rattle.records.specs.Store.{store_of, words_per_section}
use Rattle.records.proofs.Writing.{record_room}
use Rattle.calls.specs.Calls.{BuiltReply}
use Rattle.calls.proofs.Rooms.{left_fits}
use Rattle.calls.proofs.Alone.{AddsWords, words_damaged, words_full, words_appended}
use Rattle.numbers.specs.Numbers.{counts_in, store_in, built_number, refusal_number}
use Rattle.adding.proofs.add_section.Goals as goal

-- what adding the words answers, of the counts that a state is
abbrev Answers : StoredSection → ℕ → List ℕ → List ℕ → ℕ → List ℕ → Type 0
Answers x state bytes words answer ws = (r : BuiltReply) × ((answer ≡ built_number r) × AddsWords words_per_section x (store_in state bytes words) r ws)

words_at_state : (x : StoredSection) (state : ℕ) (counts : Assembler) (bytes words : List ℕ) → counts ≡ counts_in state → {reply : BuiltReply} {answer : ℕ} {ws : List ℕ}
    → answer ≡ built_number reply → AddsWords words_per_section x (store_of counts bytes words) reply ws → Answers x state bytes words answer ws
words_at_state x state counts bytes words e {reply = reply} is all = (reply, (is, rw e at all))

pub returns-in-Err : goal.returns-in-Err
returns-in-Err c =
    let a = c.args in
    let x = stored_section a.kind a.first a.second in
    let all = words_damaged words_per_section x (store_of c.counts_in-store.result a.bytes.now a.words.now) _ (sym c.in-Err.ensures) in
    let all = words_at_state x a.state _ a.bytes.now a.words.now c.counts_in-store.ensures (c.refusal_number.ensures ∙ ap refusal_number c.from.ensures) all in
    record { reply = all.1.0 ∙ ap built_number all.1.1.0; words = all.1.1.1 }

pub returns-then-no_section_left : goal.returns-then-no_section_left
returns-then-no_section_left c =
    let a = c.args in
    let x = stored_section a.kind a.first a.second in
    let all = words_full words_per_section x (store_of c.counts_in-store.result a.bytes.now a.words.now) (sym c.in_default.ensures) (sym c.if-no_section_left.ensures) in
    let all = words_at_state x a.state _ a.bytes.now a.words.now c.counts_in-store.ensures c.refusal_number-then-no_section_left.ensures all in
    record { reply = all.1.0 ∙ ap built_number all.1.1.0; words = all.1.1.1 }

pub overflow_add-sections : goal.overflow_add-sections
overflow_add-sections c = omega (arith, (left_fits words_per_section _ _ (sym c.if-no_section_left.ensures)).0)

pub returns : goal.returns
returns c =
    let a = c.args in
    let x = stored_section a.kind a.first a.second in
    let left = sym c.if-no_section_left.ensures in
    let all = words_appended words_per_section x (store_of c.counts_in-store.result a.bytes.now a.words.now) (sym c.in_default.ensures) left in
    let room = record_room _ _ x (left_fits words_per_section _ _ left).1 in
    let all = words_at_state x a.state _ a.bytes.now a.words.now c.counts_in-store.ensures c.state_of.ensures all in
    record { reply = all.1.0 ∙ ap built_number all.1.1.0; words = c.write_words.ensures ∙ room ∙ all.1.1.1 }
