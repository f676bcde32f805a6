-- Jobs on small slices, from their bytes to their text, computed by the definitions that the contracts cite. Assumes nothing.
use Prim.Native.Nat.{ℕ, ◌*◌}
use mathlib.Core.Path.{◌≡◌, refl}
use mathlib.Core.List.{List, [], ◌∷◌, ◌++◌}
use lib.ListN.{replicate}
use Rattle.units.specs.Numbers.{held_bytes, number_after, number, big_endian}
use Rattle.units.specs.Reference.{least_size, size, too_narrow}
use Rattle.slices.specs.First.{least_from}
use Rattle.opcodes.specs.Text.{as_bytes}
use Rattle.records.specs.Record.{set_size_of, read_mark, read_span, read_direct, read_delta, read_section, reference_words}
use Rattle.records.specs.Store.{words_per_section, bad_counts}
use Rattle.records.specs.Damage.{end_before, spans_end, breaks_rule, bad_count, broken_reply, whole_soundness, last_broken, bad_count_building, last_soundness}
use Rattle.records.specs.Sections.{decode_at, decode_from, decode}
use Rattle.calls.specs.Calls.{joins, with_section, bytes_pass, no_section_left, section_passes, room_reply, add_reply, push_reply, push_after, all_reply}
use Rattle.layout.specs.Passes.{start_from, start, walk_from, pass, passes, settle}
use Rattle.layout.specs.Conditions.{placed, short_at, first_short, unplaced_at, first_unplaced, missing_at, some_bytes, apart_at, first_apart, backward_at, first_backward}
use Rattle.layout.specs.Answer.{answer}
use Rattle.settling.specs.Settle.{settling}
use Rattle.assembler.specs.Emission.{reference_bytes, in_a_row}
use Rattle.assembler.specs.Assemble.{assembly}
use Rattle.lines.specs.Decimal.{last_digits, decimal}
use Rattle.lines.specs.Lines.{hex_digit, hex}
use Rattle.job_steps.specs.JobFormat.{steps_from, is_listed, all_listed, is_job}
use Rattle.job_steps.specs.JobCalls.{step_call, built_by}
use Rattle.jobs.specs.JobText.{code_text, refused_text, longest_text}
use Rattle.jobs.specs.JobOutcome.{LentSlices, lent_slices, job_result, job_text}

-- a number below 256 in four bytes
abbrev field : ℕ → List ℕ
field v = 0 ∷ 0 ∷ 0 ∷ v ∷ []

-- a step of such numbers
abbrev step : ℕ → ℕ → ℕ → List ℕ
step kind a b = kind ∷ (field a ++ field b)

-- so many store bytes, sections, marks and result bytes
abbrev small : ℕ → ℕ → ℕ → ℕ → LentSlices
small bytes sections marks result = lent_slices (replicate bytes 7) (replicate (3 * sections) 7) (replicate marks 7) (replicate result 7)

-- the steps of tools/job/example.txt
abbrev jump : List ℕ
jump =
    step 1 0 0 ++ step 2 0x5b 0 ++ step 4 1 8 ++ step 2 0x56 0 ++ step 1 1 0 ++ step 2 0x5b 0 ++ step 3 0 2 ++ step 34 0 1

-- its text
pub example_text :
    job_text words_per_section (field 2 ++ (0xaa ∷ 0xbb ∷ []) ++ field 8 ++ jump) (small 5 8 2 9) ≡ as_bytes "code 5b6004565baabb0004\n"
unfolding as_bytes number number_after steps_from is_listed all_listed is_job step_call built_by job_result code_text hex hex_digit all_reply push_reply push_after add_reply room_reply with_section joins bytes_pass section_passes no_section_left reference_words last_soundness bad_count_building last_broken assembly settling whole_soundness bad_count bad_counts broken_reply breaks_rule end_before spans_end least_from decode decode_from decode_at read_section read_mark read_span read_direct read_delta set_size_of answer settle passes pass walk_from start start_from first_short short_at first_unplaced unplaced_at first_apart apart_at first_backward backward_at placed some_bytes least_size size too_narrow held_bytes big_endian reference_bytes in_a_row
example_text = refl

-- two zero counts
pub nothing_text : job_text words_per_section (field 0 ++ field 0) (small 0 0 0 0) ≡ as_bytes "code \n"
unfolding as_bytes number number_after steps_from all_listed is_job built_by job_result code_text hex all_reply assembly settling whole_soundness bad_count bad_counts broken_reply breaks_rule end_before spans_end least_from decode decode_from answer settle passes pass walk_from start start_from first_short first_unplaced first_apart first_backward in_a_row
nothing_text = refl

-- a mark that is too large gets 3 from its call: 1,048,576
abbrev large : List ℕ
large = 1 ∷ 0 ∷ 16 ∷ 0 ∷ 0 ∷ field 0

pub three_text : job_text words_per_section (field 0 ++ field 1 ++ large) (small 0 1 1 0) ≡ as_bytes "refused 3 at 0\n"
unfolding as_bytes number number_after steps_from is_listed all_listed is_job step_call built_by job_result refused_text decimal last_digits all_reply push_reply
three_text = refl

-- a bad field after it is 15, before the first call: kind 37
pub late_field : job_text words_per_section (field 0 ++ field 2 ++ large ++ step 37 0 0) (small 0 2 1 0) ≡ as_bytes "refused 15 at 0\n"
unfolding as_bytes number number_after steps_from is_listed all_listed is_job job_result refused_text decimal last_digits
late_field = refl

-- the section and not the step: two op bytes are section 0, a reference to a mark that isn't placed is section 1
pub section_text_lem :
    job_text words_per_section (field 0 ++ field 3 ++ step 2 0x60 0 ++ step 2 1 0 ++ step 4 7 8) (small 2 3 8 4) ≡ as_bytes "refused 8 at 1\n"
unfolding as_bytes number number_after steps_from is_listed all_listed is_job step_call built_by job_result refused_text decimal last_digits all_reply push_reply push_after add_reply room_reply with_section joins bytes_pass section_passes no_section_left reference_words last_soundness bad_count_building last_broken assembly settling whole_soundness bad_count bad_counts broken_reply breaks_rule end_before spans_end least_from decode decode_from decode_at read_section read_mark read_span read_direct read_delta set_size_of answer first_short short_at first_unplaced unplaced_at missing_at placed
section_text_lem = refl

-- a delta whose end is placed and whose start isn't: 17 at its section; the other way round: 18
pub start_text : job_text words_per_section (field 0 ++ field 2 ++ step 1 0 0 ++ step 40 7 0) (small 0 2 8 4) ≡ as_bytes "refused 17 at 1\n"
unfolding as_bytes number number_after steps_from is_listed all_listed is_job step_call built_by job_result refused_text decimal last_digits all_reply push_reply push_after add_reply room_reply with_section joins bytes_pass section_passes no_section_left reference_words last_soundness bad_count_building last_broken assembly settling whole_soundness bad_count bad_counts broken_reply breaks_rule end_before spans_end least_from decode decode_from decode_at read_section read_mark read_span read_direct read_delta set_size_of answer first_short short_at first_unplaced unplaced_at missing_at placed
start_text = refl

pub end_text : job_text words_per_section (field 0 ++ field 2 ++ step 1 0 0 ++ step 40 0 7) (small 0 2 8 4) ≡ as_bytes "refused 18 at 1\n"
unfolding as_bytes number number_after steps_from is_listed all_listed is_job step_call built_by job_result refused_text decimal last_digits all_reply push_reply push_after add_reply room_reply with_section joins bytes_pass section_passes no_section_left reference_words last_soundness bad_count_building last_broken assembly settling whole_soundness bad_count bad_counts broken_reply breaks_rule end_before spans_end least_from decode decode_from decode_at read_section read_mark read_span read_direct read_delta set_size_of answer first_short short_at first_unplaced unplaced_at missing_at placed
end_text = refl

-- no input, and a count that ends early
pub empty_text : job_text words_per_section [] (small 0 0 0 0) ≡ as_bytes "refused 15 at 0\n"
unfolding as_bytes number number_after steps_from all_listed is_job job_result refused_text decimal last_digits
empty_text = refl

pub cut_text_lem : job_text words_per_section (field 0 ++ (0 ∷ 0 ∷ [])) (small 0 0 0 0) ≡ as_bytes "refused 15 at 0\n"
unfolding as_bytes number number_after steps_from all_listed is_job job_result refused_text decimal last_digits
cut_text_lem = refl

-- the longest text on the request's result
pub longest_text_lem : longest_text 65536 ≡ 131078
longest_text_lem = refl
