-- The form of a reference as one number, and what the calls with a form answer. Assumes nothing.
use Rattle.std.specs.Prelude.{ℕ, ◌+◌, ◌-◌, Bool, true, false, cond, ◌&&◌, ◌||◌, List, leb, ltb, None, Option, Some}
use Rattle.units.specs.declared.RefSize.{RefSize}
use Rattle.units.specs.declared.MarkReference.{MarkReference}
use Rattle.units.specs.declared.MarkReference.TheVariants.{Direct, Delta}
use Rattle.units.specs.declared.AsmReference.{AsmReference}
use Rattle.units.specs.Reference.{least_size, size_for}
use Rattle.units.specs.Replies.{too_narrow}
use Rattle.records.specs.Record.{set_size_of, pushed_delta_kind, raw_delta_kind}
use Rattle.records.specs.Store.{Store}
use Rattle.calls.specs.Calls.{push_reference, push_reply, push_after}
use Rattle.numbers.specs.declared.form.Form.{Form}
use Rattle.numbers.specs.Numbers.{packed, names_nothing, built_number}

-- a form that names a set size, and whether it is pushed
abbrev pub named : Option RefSize → Bool → Option Form
named s p = Some (record { set_size = s; pushed = p })

-- set size plus 8 if pushed: 0 to 4, 8 to 12
unfoldable pub form_of : ℕ → Option Form
form_of n = cond (leb n 4) (named (set_size_of n) false) (cond (leb 8 n && leb n 12) (named (set_size_of (n - 8)) true) None)

-- 'direct (one mark)'
abbrev pub direct : ℕ → MarkReference
direct mark = Direct (record { 0 = mark })

-- 'a delta (end mark's offset minus start mark's)'
abbrev pub delta : ℕ → ℕ → MarkReference
delta start end = Delta (record { start = record { 0 = start }; end = record { 0 = end } })

-- either in a form
abbrev pub formed : MarkReference → Option RefSize → Bool → AsmReference
formed m s p = record { mark_ref = m; set_size = s; pushed = p }

-- the answer to pushing a reference of a form
abbrev pub reference_number : ℕ → MarkReference → Option Form → Store → ℕ
reference_number w m (Some f) st = built_number (push_reply w (push_reference (formed m f.set_size f.pushed)) st)
reference_number w m None st = names_nothing

-- the words afterwards
abbrev pub reference_after : ℕ → MarkReference → Option Form → Store → List ℕ
reference_after w m (Some f) st = (push_after w (push_reference (formed m f.set_size f.pushed)) st).words
reference_after w m None st = st.words

-- a size as an answer
abbrev pub size_number : Option ℕ → ℕ
size_number (Some n) = packed 0 0 n
size_number None = packed too_narrow 0 0

-- the size of a form for a value; no size depends on the marks (`size_any_mark`, proofs/Forms)
abbrev pub size_for_number : Option Form → ℕ → ℕ
size_for_number (Some f) v = size_number (size_for (formed (direct 0) f.set_size f.pushed) v)
size_for_number None v = names_nothing

-- its least size
abbrev pub least_size_number : Option Form → ℕ
least_size_number (Some f) = packed 0 0 (least_size (formed (direct 0) f.set_size f.pushed))
least_size_number None = names_nothing

-- a form that names something: `form_of` answers `Some` exactly for these (`form_named`, `form_nothing`, proofs/Forms)
abbrev pub is_form : ℕ → Bool
is_form n = leb n 4 || leb 8 n && leb n 12

-- the kind word of a delta of such a form: that of the set size and pushed bit which `form_of` names (`delta_formed`, proofs/Forms)
abbrev pub form_kind : ℕ → ℕ
form_kind n = cond (ltb n 8) (n + raw_delta_kind) (n - 8 + pushed_delta_kind)
