-- 255 for a form that names nothing; 3; at once after a last section; else what adding the words gives.
-- Assumes nothing.
use Prim.Native.Nat.{ℕ, ◌%◌}
use mathlib.Core.Path.{refl, sym, ap, ◌∙◌}
use lib.Dec.{leb}
use Rattle.units.specs.declared.AsmReference.{AsmReference}
use Rattle.records.specs.Record.{set_size_of, stored_section}
use Rattle.records.specs.Store.{words_per_section}
use Rattle.calls.specs.Calls.{push_reference}
use Rattle.numbers.specs.Numbers.{store_in}
use Rattle.numbers.specs.Forms.{delta, formed}
use Rattle.numbers.proofs.Adds.{push_large_mark}
use Rattle.numbers.proofs.Forms.{unnamed, delta_formed}
use Rattle.short.proofs.Judged.{put_done, put_judged, by_form}
use Rattle.building.proofs.section.push_delta.Goals as goal

-- the reference
abbrev reference_of : ℕ → ℕ → ℕ → AsmReference
reference_of start end form = formed (delta start end) (set_size_of (form % 8)) (leb 8 form)

pub returns-then-not-is_form : goal.returns-then-not-is_form
returns-then-not-is_form c =
    let a = c.args in
    let all = unnamed a.form (sym c.is_form.ensures ∙ c.if-not-is_form.true) words_per_section _
    (store_in a.state a.bytes.now a.words.now) in
    record { reply = all.0; words = all.1 }

pub returns-then-is_large_delta : goal.returns-then-is_large_delta
returns-then-is_large_delta c =
    let a = c.args in
    let st = store_in a.state a.bytes.now a.words.now in
    let all = push_large_mark words_per_section (push_reference (reference_of a.start a.end a.form)) st refl refl (sym c.is_large_delta.ensures ∙ c.if-is_large_delta.true) in
    let all = by_form a.form (sym c.is_form.ensures ∙ c.if-not-is_form.false) (delta a.start a.end) st (c.refusal_number.ensures ∙ all.0, all.1.1) in
    record { reply = all.0; words = all.1 }

pub returns-in-Some : goal.returns-in-Some
returns-in-Some c =
    let a = c.args in
    let is = sym c.is_form.ensures ∙ c.if-not-is_form.false in
    let words = ap (λ (k : ℕ). stored_section k a.start a.end) c.delta_kind-kind.ensures ∙ delta_formed a.form is a.start a.end in
    let all = by_form a.form is (delta a.start a.end) (store_in a.state a.bytes.now a.words.now)
    (put_done a.state a.bytes.now a.words.now (push_reference (reference_of a.start a.end a.form)) (refl, (refl, sym c.is_large_delta.ensures ∙ c.if-is_large_delta.false)) tt words
    c.in-Some.ensures) in
    record { reply = all.0; words = all.1 }

pub returns : goal.returns
returns c =
    let a = c.args in
    let is = sym c.is_form.ensures ∙ c.if-not-is_form.false in
    let words = ap (λ (k : ℕ). stored_section k a.start a.end) c.delta_kind-kind.ensures ∙ delta_formed a.form is a.start a.end in
    let all = by_form a.form is (delta a.start a.end) (store_in a.state a.bytes.now a.words.now)
    (put_judged a.state a.bytes.now a.words.now (push_reference (reference_of a.start a.end a.form)) (refl, (refl, sym c.is_large_delta.ensures ∙ c.if-is_large_delta.false)) tt words
    c.in_default.ensures.1 (c.push_words.ensures.reply, c.push_words.ensures.words)) in
    record { reply = all.0; words = all.1 }
