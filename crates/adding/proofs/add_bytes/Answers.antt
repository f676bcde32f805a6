-- 6, then 4, then the join or 5 and the new section.
-- Assumes nothing.
use borrow.Author.Tests.{ltb-false}
use native.Mathlib.Omega.{arith}
use Prim.Native.Nat.{ℕ, ◌+◌, ◌*◌}
use mathlib.Core.Path.{◌≡◌, sym, ap, ◌∙◌}
use mathlib.Core.Bool.{Bool}
use mathlib.Core.List.{List}
use lib.ListN.{length}
use Rattle.slices.specs.Over.{over}
use Rattle.slices.proofs.Over.{has_room}
use Rattle.records.specs.Record.{stored_section}
use Rattle.records.specs.Store.{Store, store_of, words_per_section, record_words}
use Rattle.records.proofs.Damages.{good_words}
use Rattle.records.proofs.Writing.{record_room}
use Rattle.calls.specs.Calls.{joins, bytes_over, bytes_pass}
use Rattle.calls.proofs.Rooms.{sound_counts, left_fits}
use Rattle.numbers.specs.Numbers.{refusal_number}
use Rattle.numbers.proofs.Adds.{add_damaged, add_bytes_full, add-sections-full}
use Rattle.adding.specs.Adding.{kind_number, last_kind_is, bytes_section}
use Rattle.adding.proofs.Parts.{kind_some}
use Rattle.adding.proofs.Bytes.{pass_is, joins_is, bytes_joined, bytes_appended, at_state}
use Rattle.adding.specs.declared.BytesKind.{BytesKind}
use Rattle.adding.proofs.add_bytes.Goals as goal

-- the tests as the definitions have them
room : (k : BytesKind) (bs : List ℕ) (st : Store) {t : Bool} → t ≡ bytes_over st.bytes st.stored_bytes (length bs) → bytes_pass (bytes_section k bs) st ≡ t
room k bs st e = sym (pass_is k bs st) ∙ sym e

joining : (k : BytesKind) (bs : List ℕ) (st : Store) {t : Bool} (number : ℕ) → number ≡ kind_number k
    → t ≡ last_kind_is words_per_section st.sections st.words number → joins words_per_section (bytes_section k bs) st ≡ t
joining k bs st number is e =
    sym (joins_is words_per_section k bs st) ∙ sym (ap (last_kind_is words_per_section st.sections st.words) is) ∙ sym e

pub returns-in-Err : goal.returns-in-Err
returns-in-Err c =
    let a = c.args in
    let all = add_damaged words_per_section (bytes_section a.kind a.added.now) (store_of c.counts_in-store.result a.bytes.now a.words.now) _ (sym c.in-Err.ensures) in
    let all = at_state words_per_section (bytes_section a.kind a.added.now) a.state c.counts_in-store.result a.bytes.now a.words.now c.counts_in-store.ensures (c.refusal_number.ensures ∙ ap refusal_number c.from.ensures ∙ all.0, all.1) in
    record { reply = all.0; bytes = all.1.0; words = all.1.1 }

pub returns-then-bytes_pass : goal.returns-then-bytes_pass
returns-then-bytes_pass c =
    let a = c.args in
    let st = store_of c.counts_in-store.result a.bytes.now a.words.now in
    let all = add_bytes_full words_per_section (bytes_section a.kind a.added.now) st (sym c.in_default.ensures) (room a.kind a.added.now st c.if-bytes_pass.ensures) in
    let all = at_state words_per_section (bytes_section a.kind a.added.now) a.state c.counts_in-store.result a.bytes.now a.words.now c.counts_in-store.ensures (c.refusal_number-then-bytes_pass.ensures ∙ all.0, all.1) in
    record { reply = all.0; bytes = all.1.0; words = all.1.1 }

pub overflow_cast-end : goal.overflow_cast-end
overflow_cast-end c = omega (arith, ltb-false _ _ (sym c.if-bytes_pass.ensures))

pub overflow_add-end : goal.overflow_add-end
overflow_add-end c = omega (arith, ltb-false _ _ (sym c.if-bytes_pass.ensures))

pub last_kind_is-requires : goal.last_kind_is-requires
last_kind_is-requires c =
    let a = c.args in
    let st = store_of c.counts_in-store.result a.bytes.now a.words.now in
    good_words words_per_section st (sound_counts words_per_section st (sym c.in_default.ensures))

pub set_end-requires : goal.set_end-requires
set_end-requires c =
    let a = c.args in
    let st = store_of c.counts_in-store.result a.bytes.now a.words.now in
    (kind_some words_per_section _ _ _ (sym c.if-last_kind_is.ensures), good_words words_per_section st (sound_counts words_per_section st (sym c.in_default.ensures)))

pub returns-then-last_kind_is : goal.returns-then-last_kind_is
returns-then-last_kind_is c =
    let a = c.args in
    let st = store_of c.counts_in-store.result a.bytes.now a.words.now in
    let whole = has_room a.bytes.now st.stored_bytes a.added.now (omega (arith, ltb-false _ _ (sym c.if-bytes_pass.ensures))) in
    let all = bytes_joined words_per_section a.kind a.added.now st (sym c.in_default.ensures) (room a.kind a.added.now st c.if-bytes_pass.ensures)
    (joining a.kind a.added.now st _ c.from-number.ensures c.if-last_kind_is.ensures) in
    let all = at_state words_per_section (bytes_section a.kind a.added.now) a.state c.counts_in-store.result a.bytes.now a.words.now c.counts_in-store.ensures
    (c.state_of.ensures ∙ all.0, (c.write_bytes.ensures ∙ whole ∙ all.1.0, c.set_end.ensures ∙ all.1.1)) in
    record { reply = all.0; bytes = all.1.0; words = all.1.1 }

pub returns-then-no_section_left : goal.returns-then-no_section_left
returns-then-no_section_left c =
    let a = c.args in
    let st = store_of c.counts_in-store.result a.bytes.now a.words.now in
    let all = add-sections-full words_per_section (bytes_section a.kind a.added.now) st (sym c.in_default.ensures) (room a.kind a.added.now st c.if-bytes_pass.ensures)
    (joining a.kind a.added.now st _ c.from-number.ensures c.if-last_kind_is.ensures) (sym c.if-no_section_left.ensures) in
    let all = at_state words_per_section (bytes_section a.kind a.added.now) a.state c.counts_in-store.result a.bytes.now a.words.now c.counts_in-store.ensures (c.refusal_number-then-no_section_left.ensures ∙ all.0, all.1) in
    record { reply = all.0; bytes = all.1.0; words = all.1.1 }

pub overflow_add-sections : goal.overflow_add-sections
overflow_add-sections c = omega (arith, (left_fits words_per_section _ _ (sym c.if-no_section_left.ensures)).0)

pub returns : goal.returns
returns c =
    let a = c.args in
    let st = store_of c.counts_in-store.result a.bytes.now a.words.now in
    let whole = has_room a.bytes.now st.stored_bytes a.added.now (omega (arith, ltb-false _ _ (sym c.if-bytes_pass.ensures))) in
    let left = sym c.if-no_section_left.ensures in
    let recorded = record_room st.words st.sections _ (left_fits words_per_section _ _ left).1 in
    let named = ap
    (λ (k : ℕ). over st.words (words_per_section * st.sections) (record_words words_per_section (stored_section k st.stored_bytes (st.stored_bytes + length a.added.now))))
    c.from-number.ensures in
    let all = bytes_appended words_per_section a.kind a.added.now st (sym c.in_default.ensures) (room a.kind a.added.now st c.if-bytes_pass.ensures)
    (joining a.kind a.added.now st _ c.from-number.ensures c.if-last_kind_is.ensures) left in
    let all = at_state words_per_section (bytes_section a.kind a.added.now) a.state c.counts_in-store.result a.bytes.now a.words.now c.counts_in-store.ensures
    (c.state_of-2.ensures ∙ all.0, (c.write_bytes-2.ensures ∙ whole ∙ all.1.0, c.write_words.ensures ∙ recorded ∙ named ∙ all.1.1)) in
    record { reply = all.0; bytes = all.1.0; words = all.1.1 }
