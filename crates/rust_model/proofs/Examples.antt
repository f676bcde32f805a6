-- Lines 7, 8 and 12 of 01's layouts tried by hand, and a list with runs of op bytes, carried through demand 2: the Rust's answer is
-- computed from its definition, and the theorem says that ours is the same. Assumes nothing.
use Rattle.std.specs.Prelude.{None, Option, Some}
use Prim.Native.Nat.{ℕ, ◌+◌, ◌*◌, ◌≤◌}
use native.Mathlib.Omega.{arith}
use mathlib.Core.Path.{◌≡◌, refl, sym, ap, ◌∙◌, subst}
use mathlib.Core.Bool.{Bool, true, false, not, ◌&&◌, and-eq-true_iff as and-true}
use mathlib.Core.List.{List, [], ◌∷◌, ◌++◌}
use lib.Dec.{leb}
use lib.ListN.{length, drop, replicate}
use borrow.Author.Tests.{leb-true, not-true}
use Rattle.units.specs.declared.RefSize.{RefSize}
use Rattle.units.specs.declared.RefSize.TheVariants.{S1, S2}
use Rattle.units.specs.declared.MarkReference.TheVariants.{Delta}
use Rattle.records.specs.Store.{max_bytes, max_sections, words_per_section}
use Rattle.slices.specs.First.{least_from}
use Rattle.calls.specs.Calls.{Call, push, push_op_bytes, clear, has_large_mark, push_reference}
use Rattle.slices.specs.Over.{over}
use Rattle.units.specs.Replies.{too_narrow}
use Rattle.units.specs.Reply.{accepted, refused}
use Rattle.layout.specs.Passes.{entry}
use Rattle.layout.specs.Conditions.{placed, some_bytes, short_at, first_short, unplaced_at, first_unplaced, apart_at, first_apart}
use Rattle.layout.proofs.Least.{never_law}
use Rattle.assembler.specs.Assemble.{Outcome, written, assembly}
use Rattle.listing.specs.Answer.{listing_reply, listing_buffer}
use Rattle.hand.proofs.Lines.{placing, op, «data», ref, far}
use Rattle.rust_model.specs.Run.{Run, done, panic, Build, index, len_idx, pushed}
use Rattle.rust_model.specs.Building.{Assembler, empty, last_of, last_mut, extend_ops, new_ops, op_byte, op_bytes, new_data, pushed_data, call, calls}
use Rattle.rust_model.specs.Assemble.{assembled, assemble}
use Rattle.rust_model.specs.Demand2.{sections_of, Fits, marks_within, AlwaysFits, Builds, built, Assembles, SameAssembly}
use Rattle.rust_model.proofs.AnswersComputed.{doubling, doubling_reserves, far_store, rust_7, rust_8, show_store, show_code, rust_12, show_text, rust_text_12, loop_store, loop_code, rust_loop}
use Rattle.rust_model.proofs.Demand2.{demand_2}
use Rattle.rust_model.proofs.Runs.{done_inj}

-- a profile of the four: the answers are the same by all
abbrev release : Build
release = record { overflow_checks = false; debug_assertions = false }

-- ---- premises by computing

-- the premise on limits and slices, as a test
unfoldable fits_now : List ℕ → List ℕ → Assembler → Bool
fits_now bs words a =
    leb (length a.bytes) max_bytes
    && (leb (length a.bytes) (length bs)
    && (leb (length a.sections) max_sections && leb (words_per_section * length a.sections) (length words)))

unfoldable is_within : Call → Bool
is_within (push p) = not (has_large_mark p)
is_within (push_op_bytes bs) = true
is_within clear = true

unfoldable fits_after : (Assembler → Bool) → Run Assembler → Bool
fits_after test (done a) = test a
fits_after test panic = true

unfoldable fits_from : Build → List ℕ → List ℕ → List Call → Assembler → Bool
fits_from build bs words [] a = true
fits_from build bs words (c ∷ cs) a = is_within c && fits_after (λ a'. fits_now bs words a' && fits_from build bs words cs a') (call build c a)

-- what the test tells of a store
now_law : (bs words : List ℕ) (a : Assembler) → fits_now bs words a ≡ true → Fits bs words a
unfolding fits_now
now_law bs words a e =
    let p = (and-true _ _).0 e in
    let q = (and-true _ _).0 p.1 in
    let r = (and-true _ _).0 q.1 in
    record { bytes_limit = leb-true _ _ p.0; bytes_fit = leb-true _ _ q.0; sections_limit = leb-true _ _ r.0; words_fit = leb-true _ _ r.1 }

within_law : (c : Call) → is_within c ≡ true → marks_within c
unfolding is_within
within_law (push p) e = not-true (has_large_mark p) e
within_law (push_op_bytes bs) e = tt
within_law clear e = tt

-- and of a list of calls
fits_law : (build : Build) (bs words : List ℕ) (cs : List Call) (a : Assembler) → fits_from build bs words cs a ≡ true → AlwaysFits build bs words cs a
unfolding fits_from fits_after AlwaysFits
fits_law build bs words [] a e = tt
fits_law build bs words (c ∷ cs) a e =
    let p = (and-true (is_within c) _).0 e in (
      within_law c p.0,
      λ a' q.
          let here : fits_after (λ x. fits_now bs words x && fits_from build bs words cs x) (done a') ≡ true =
          subst (λ (r : Run Assembler). fits_after (λ x. fits_now bs words x && fits_from build bs words cs x) r ≡ true) q p.1 in
          let both = (and-true (fits_now bs words a') (fits_from build bs words cs a')).0 here in
          (now_law bs words a' both.0, fits_law build bs words cs a' both.1),
    )

-- the list of sections has none of the conditions for 7, 8, 17, 18 and 9
assembles : (a : Assembler) (lent : ℕ) → first_unplaced (sections_of a) ≡ length (sections_of a) → first_apart (sections_of a) ≡ length (sections_of a)
    → first_short lent (sections_of a) ≡ length (sections_of a) → Assembles a lent
unfolding first_unplaced first_apart first_short
assembles a lent u p s =
    record {
      marks_placed = (never_law (sections_of a) (unplaced_at (sections_of a))).0 u;
      together = (never_law (sections_of a) (apart_at (sections_of a))).0 p;
      in_table = (never_law (sections_of a) (short_at lent (sections_of a))).0 s;
    }

-- ---- lines 7 and 8: a pushed reference, 254 bytes of data, the mark

-- lent slices that are just long enough
abbrev far_bytes : List ℕ
far_bytes = replicate 254 0

abbrev far_words : List ℕ
far_words = replicate 9 0

far_builds : (build : Build) (size : Option RefSize) → Builds build far_bytes far_words (far size 254) (far_store size)
unfolding calls pushed_data last_mut last_of new_data len_idx fits_from fits_after fits_now is_within
far_builds build size = record { no_panic = refl; fits = fits_law build far_bytes far_words (far size 254) empty refl }

-- by a lent table of one entry
far_assembles : (size : Option RefSize) → Assembles (far_store size) 1
unfolding first_short short_at first_unplaced unplaced_at first_apart apart_at least_from placed some_bytes
far_assembles size = assembles (far_store size) 1 refl refl refl

-- what ours comes to on the same calls, a result lent from position 0
abbrev far_ours : Option RefSize → List ℕ → Outcome
far_ours size result = assembly words_per_section (built far_bytes far_words (far size 254)) 1 result 0

far_same : (build : Build) (size : Option RefSize) (result : List ℕ) → SameAssembly (far_store size) [] result 0 (far_ours size result) (assemble build doubling None (far_store size) [])
far_same build size result = (demand_2 build far_bytes far_words (far size 254) (far_store size) (far_builds build size)).assembly 1 (far_assembles size) doubling doubling_reserves None [] result 0

-- the code that was appended to nothing, as ours wrote it
carried : (a : Assembler) (table code result : List ℕ) (ours : Outcome) → SameAssembly a [] result 0 ours (done (assembled table code)) → length code ≤ length result
    → (passes : ℕ) × (ours.reply ≡ written (length code) passes) × (ours.result ≡ over result 0 code)
    × ((m : ℕ) → placed (sections_of a) m ≡ true → index table m ≡ done (entry ours.table m))
carried a table code result ours same fits =
    let is : code ≡ same.code = same.appended in
    let room : 0 + length same.code ≤ length result = omega (arith, ap (λ (l : List ℕ). length l) is) in (
      same.passes,
      same.reply room ∙ ap (λ (l : List ℕ). written (length l) same.passes) (sym is),
      same.wrote room ∙ ap (over result 0) (sym is),
      same.offsets room,
    )

-- line 7: 'With 254: 61 01 01 and data, mark at 257'
pub line_7 : (result : List ℕ) → 257 ≤ length result
    → (passes : ℕ) × ((far_ours None result).reply ≡ written 257 passes) × ((far_ours None result).result ≡ over result 0 (0x61 ∷ 0x01 ∷ 0x01 ∷ replicate 254 0))
    × (entry (far_ours None result).table 0 ≡ 257)
unfolding placed index
line_7 result fits =
    let q = carried (far_store None) (257 ∷ replicate 127 0) (0x61 ∷ 0x01 ∷ 0x01 ∷ replicate 254 0) result (far_ours None result)
    (subst (SameAssembly (far_store None) [] result 0 (far_ours None result)) (rust_7 release) (far_same release None result)) fits in
    (q.0, q.1, q.2, sym (done_inj (q.3 0 refl)))

-- line 8: 'As 7, size 1: number 10, section 0'
pub line_8 : (result : List ℕ) → (passes : ℕ) × ((far_ours (Some S1) result).reply ≡ refused too_narrow 0 passes)
line_8 result = subst (SameAssembly (far_store (Some S1)) [] result 0 (far_ours (Some S1) result)) (rust_8 release) (far_same release (Some S1) result)

-- ---- line 12: the calls of the program `show`

abbrev show_calls : List Call
show_calls =
    placing 0
    ∷ op 0x5b
    ∷ ref true None 1
    ∷ op 0x56
    ∷ placing 1
    ∷ op 0x5b
    ∷ «data» (0xaa ∷ 0xbb ∷ [])
    ∷ push (push_reference (record { mark_ref = Delta (record { start = record { 0 = 0 }; end = record { 0 = 1 } }); set_size = Some S2; pushed = false }))
    ∷ []

abbrev show_bytes : List ℕ
show_bytes = replicate 5 0

abbrev show_words : List ℕ
show_words = replicate 24 0

show_builds : (build : Build) → Builds build show_bytes show_words show_calls show_store
unfolding calls op_byte pushed_data last_mut last_of new_ops new_data len_idx pushed fits_from fits_after fits_now is_within
show_builds build = record { no_panic = refl; fits = fits_law build show_bytes show_words show_calls empty refl }

show_assembles : Assembles show_store 2
unfolding first_short short_at first_unplaced unplaced_at first_apart apart_at least_from placed some_bytes
show_assembles = assembles show_store 2 refl refl refl

abbrev show_ours : List ℕ → Outcome
show_ours result = assembly words_per_section (built show_bytes show_words show_calls) 2 result 0

-- line 12, the code
pub line_12 : (result : List ℕ) → 9 ≤ length result
    → (passes : ℕ) × ((show_ours result).reply ≡ written 9 passes) × ((show_ours result).result ≡ over result 0 show_code)
    × (entry (show_ours result).table 0 ≡ 0) × (entry (show_ours result).table 1 ≡ 4)
unfolding placed index
line_12 result fits =
    let same = (demand_2 release show_bytes show_words show_calls show_store (show_builds release)).assembly 2 show_assembles doubling doubling_reserves None [] result 0 in
    let q = carried show_store (0 ∷ 4 ∷ replicate 126 0) show_code result (show_ours result) (subst (SameAssembly show_store [] result 0 (show_ours result)) (rust_12 release) same) fits in
    (q.0, q.1, q.2, sym (done_inj (q.3 0 refl)), sym (done_inj (q.3 1 refl)))

-- and the listing
pub line_12_text : (buffer : List ℕ) → length show_text ≤ length buffer
    → (listing_reply words_per_section (built show_bytes show_words show_calls) buffer ≡ accepted (length show_text))
    × (listing_buffer words_per_section (built show_bytes show_words show_calls) buffer ≡ show_text ++ drop (length show_text) buffer)
line_12_text buffer fits =
    let same = (demand_2 release show_bytes show_words show_calls show_store (show_builds release)).listing in
    let is : same.text ≡ show_text = done_inj (sym same.written ∙ rust_text_12) in (
      subst (λ (t : List ℕ). length t ≤ length buffer → listing_reply words_per_section (built show_bytes show_words show_calls) buffer ≡ accepted (length t)) is (same.reply buffer) fits,
      subst (λ (t : List ℕ). length t ≤ length buffer → listing_buffer words_per_section (built show_bytes show_words show_calls) buffer ≡ t ++ drop (length t) buffer) is (same.holds buffer) fits,
    )

-- ---- runs of op bytes

-- the second joins the first, the empty one adds nothing
abbrev loop_calls : List Call
loop_calls = placing 0 ∷ push_op_bytes (0x5b ∷ 0x5f ∷ []) ∷ push_op_bytes (0x50 ∷ []) ∷ ref true None 0 ∷ push_op_bytes [] ∷ push_op_bytes (0x56 ∷ []) ∷ []

-- lent slices that are just long enough
abbrev loop_bytes : List ℕ
loop_bytes = replicate 4 0

abbrev loop_words : List ℕ
loop_words = replicate 12 0

-- the calls come to the store
loop_builds : (build : Build) → Builds build loop_bytes loop_words loop_calls loop_store
unfolding calls op_bytes op_byte last_mut last_of extend_ops new_ops len_idx pushed fits_from fits_after fits_now is_within
loop_builds build = record { no_panic = refl; fits = fits_law build loop_bytes loop_words loop_calls empty refl }

-- by a lent table of one entry
loop_assembles : Assembles loop_store 1
unfolding first_short short_at first_unplaced unplaced_at first_apart apart_at least_from placed some_bytes
loop_assembles = assembles loop_store 1 refl refl refl

-- what ours comes to
abbrev loop_ours : List ℕ → Outcome
loop_ours result = assembly words_per_section (built loop_bytes loop_words loop_calls) 1 result 0

-- the code
pub loop_code_lem : (result : List ℕ) → 5 ≤ length result
    → (passes : ℕ) × ((loop_ours result).reply ≡ written 5 passes) × ((loop_ours result).result ≡ over result 0 loop_code)
loop_code_lem result fits =
    let same = (demand_2 release loop_bytes loop_words loop_calls loop_store (loop_builds release)).assembly 1 loop_assembles doubling doubling_reserves None [] result 0 in
    let q = carried loop_store (replicate 128 0) loop_code result (loop_ours result) (subst (SameAssembly loop_store [] result 0 (loop_ours result)) (rust_loop release) same) fits in
    (q.0, q.1, q.2)
