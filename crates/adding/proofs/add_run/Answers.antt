-- 6, then the first byte's 4 and 5; then what adding all of them gives.
-- Assumes nothing.
use Prim.Native.Nat.{ℕ}
use mathlib.Core.Path.{◌≡◌, sym, ap, ◌∙◌}
use mathlib.Core.List.{List}
use Rattle.records.specs.declared.Assembler.{Assembler}
use Rattle.records.specs.Store.{store_of, words_per_section}
use Rattle.records.proofs.Damages.{good_words}
use Rattle.calls.proofs.Rooms.{sound_counts}
use Rattle.numbers.specs.Numbers.{counts_in, store_in, refusal_number}
use Rattle.numbers.proofs.Adds.{AtOnce, once_damaged, once_byte_full, once_sections_full, once-adds}
use Rattle.adding.proofs.Bytes.{section_is}
use Rattle.adding.proofs.add_run.Goals as goal

-- of the counts that a state is
run_at_state : (run : List ℕ) (state : ℕ) (counts : Assembler) (bytes words : List ℕ) → counts ≡ counts_in state → {answer : ℕ} {bs ws : List ℕ}
    → AtOnce words_per_section run (store_of counts bytes words) answer bs ws → AtOnce words_per_section run (store_in state bytes words) answer bs ws
run_at_state run state counts bytes words e all = rw e at all

pub returns-in-Err : goal.returns-in-Err
returns-in-Err c =
    let a = c.args in
    let all = once_damaged words_per_section a.run.now (store_of c.counts_in-store.result a.bytes.now a.words.now) _ (sym c.in-Err.ensures) in
    let all = run_at_state a.run.now a.state _ a.bytes.now a.words.now c.counts_in-store.ensures (c.refusal_number.ensures ∙ ap refusal_number c.from.ensures ∙ all.0, all.1) in
    record { reply = all.0; bytes = all.1.0; words = all.1.1 }

pub returns-then-bytes_pass : goal.returns-then-bytes_pass
returns-then-bytes_pass c =
    let a = c.args in
    let all = once_byte_full words_per_section a.run.now (store_of c.counts_in-store.result a.bytes.now a.words.now) (sym c.in_default.ensures) (sym c.if-bytes_pass.ensures) in
    let all = run_at_state a.run.now a.state _ a.bytes.now a.words.now c.counts_in-store.ensures (c.refusal_number-then-bytes_pass.ensures ∙ all.0, all.1) in
    record { reply = all.0; bytes = all.1.0; words = all.1.1 }

pub ops_section_passes-requires : goal.ops_section_passes-requires
ops_section_passes-requires c =
    let a = c.args in
    let st = store_of c.counts_in-store.result a.bytes.now a.words.now in
    good_words words_per_section st (sound_counts words_per_section st (sym c.in_default.ensures))

pub returns-then-ops_section_passes : goal.returns-then-ops_section_passes
returns-then-ops_section_passes c =
    let a = c.args in
    let st = store_of c.counts_in-store.result a.bytes.now a.words.now in
    let all = once_sections_full words_per_section a.run.now st (sym c.in_default.ensures) (sym c.if-bytes_pass.ensures)
    (sym (section_is words_per_section a.run.now st) ∙ sym c.if-ops_section_passes.ensures) in
    let all = run_at_state a.run.now a.state _ a.bytes.now a.words.now c.counts_in-store.ensures (c.refusal_number-then-ops_section_passes.ensures ∙ all.0, all.1) in
    record { reply = all.0; bytes = all.1.0; words = all.1.1 }

pub returns : goal.returns
returns c =
    let a = c.args in
    let st = store_in a.state a.bytes.now a.words.now in
    let sound = rw c.counts_in-store.ensures at (sym c.in_default.ensures) in
    let room = rw c.counts_in-store.ensures at (sym c.if-bytes_pass.ensures) in
    let left = rw c.counts_in-store.ensures at (sym c.if-ops_section_passes.ensures) in
    let all = once-adds words_per_section a.run.now st sound room (sym (section_is words_per_section a.run.now st) ∙ left) _ _ _
    (c.add_bytes.ensures.reply, (c.add_bytes.ensures.bytes, c.add_bytes.ensures.words)) in
    record { reply = all.0; bytes = all.1.0; words = all.1.1 }
