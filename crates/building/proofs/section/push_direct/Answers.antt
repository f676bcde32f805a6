-- 255 for a form that names nothing; 3; at once after a last section; else what adding the words gives.
-- Assumes nothing.
use Prim.Native.Nat.{ℕ, ◌%◌}
use mathlib.Core.Path.{refl, sym, ◌∙◌}
use lib.Dec.{leb}
use Rattle.records.specs.Record.{set_size_of}
use Rattle.records.specs.Store.{words_per_section}
use Rattle.calls.specs.Calls.{Push, push_reference}
use Rattle.numbers.specs.Numbers.{store_in}
use Rattle.numbers.specs.Forms.{direct, formed}
use Rattle.numbers.proofs.Adds.{push_large_mark}
use Rattle.numbers.proofs.Forms.{unnamed, direct_formed}
use Rattle.short.proofs.Judged.{put_done, put_judged, by_form}
use Rattle.building.proofs.section.push_direct.Goals as goal

-- the reference
abbrev call : ℕ → ℕ → Push
call mark form = push_reference (formed (direct mark) (set_size_of (form % 8)) (leb 8 form))

pub returns-then-not-is_form : goal.returns-then-not-is_form
returns-then-not-is_form c =
    let a = c.args in
    let all = unnamed a.form (sym c.is_form.ensures ∙ c.if-not-is_form.true) words_per_section _
    (store_in a.state a.bytes.now a.words.now) in
    record { reply = all.0; words = all.1 }

pub returns-then-is_large : goal.returns-then-is_large
returns-then-is_large c =
    let a = c.args in
    let st = store_in a.state a.bytes.now a.words.now in
    let all = push_large_mark words_per_section (call a.mark a.form) st refl refl (sym c.is_large.ensures ∙ c.if-is_large.true) in
    let all = by_form a.form (sym c.is_form.ensures ∙ c.if-not-is_form.false) (direct a.mark) st (c.refusal_number.ensures ∙ all.0, all.1.1) in
    record { reply = all.0; words = all.1 }

pub returns-in-Some : goal.returns-in-Some
returns-in-Some c =
    let a = c.args in
    let is = sym c.is_form.ensures ∙ c.if-not-is_form.false in
    let all = by_form a.form is (direct a.mark) (store_in a.state a.bytes.now a.words.now)
    (put_done a.state a.bytes.now a.words.now (call a.mark a.form) (refl, (refl, sym c.is_large.ensures ∙ c.if-is_large.false)) tt (direct_formed a.form is a.mark)
    c.in-Some.ensures) in
    record { reply = all.0; words = all.1 }

pub returns : goal.returns
returns c =
    let a = c.args in
    let is = sym c.is_form.ensures ∙ c.if-not-is_form.false in
    let all = by_form a.form is (direct a.mark) (store_in a.state a.bytes.now a.words.now)
    (put_judged a.state a.bytes.now a.words.now (call a.mark a.form) (refl, (refl, sym c.is_large.ensures ∙ c.if-is_large.false)) tt (direct_formed a.form is a.mark)
    c.in_default.ensures.1 (c.push_words.ensures.reply, c.push_words.ensures.words)) in
    record { reply = all.0; words = all.1 }
