-- The Rust's `converge_mark_offsets` and `assemble`, written from lib.rs. Its offset table has as many zeros as the hint says, or 128. At
-- each mark it gets room for it and is made as long as its capacity, which the vector and its allocator choose: that choice is a
-- parameter. They always find the memory here, and a vector may have any length: the real one panics at a hint whose table passes half
-- the address space. Assumes nothing else.
use Rattle.std.specs.Prelude.{ℕ, zero, suc, ◌+◌, ◌-◌, ◌≤◌, Bool, true, false, cond, ◌&&◌, List, [], ◌∷◌, ◌++◌, reverse, ltb, eqb, length, replicate, take, None, Some, Option}
use Rattle.units.specs.declared.RefSize.{RefSize}
use Rattle.units.specs.declared.MarkReference.{MarkReference}
use Rattle.units.specs.declared.MarkReference.TheVariants.{Direct, Delta}
use Rattle.rust_model.specs.Run.{Run, done, panic, and_then, Build, add_u32, checked_sub, index, index_mut, range}
use Rattle.rust_model.specs.Building.{Assembler, le_bytes}
use Rattle.rust_model.specs.Sections.{AsmSection, Mark, Ops, Data, MarkRef, iter_sections}
use Rattle.rust_model.specs.Sections.{as_u32, bytes_to_hold, min_compiled_size, saturating_sub, compiled_size}

-- ---- the table's growth

-- `capacity()` after `reserve(additional)`, from the table's length and the additional entries. The length is then made the capacity, so
-- the same two numbers come again only where nothing more was asked for, and `reserve` then 'does nothing if capacity is already
-- sufficient': in one run a vector's answers are always such a function.
abbrev pub Reserve : Type 0
Reserve = ℕ → ℕ → ℕ

-- what `Vec::reserve` promises: 'capacity will be greater than or equal to `self.len() + additional`'
abbrev pub Reserves : Reserve → Type 0
Reserves reserve = (len additional : ℕ) → len + additional ≤ reserve len additional

-- `resize(cap, 0)`
unfoldable pub resize : List ℕ → ℕ → List ℕ
resize table cap = take cap table ++ replicate (cap - length table) 0

-- `additional_to_reserve`, `reserve`, `capacity` and `resize`: room for `id`, and 'maintain `length == capacity`'
unfoldable pub grow : Reserve → List ℕ → ℕ → List ℕ
grow reserve table id = resize table (reserve (length table) (saturating_sub (id + 1) (length table)))

-- ---- the start table

-- at a mark: the table grows, and `mark_to_offset[id] = min_size`
abbrev pub start_mark : Reserve → AsmSection → ℕ → List ℕ → Run (List ℕ)
start_mark reserve (Mark id) min table = index_mut (grow reserve table id) id min
start_mark reserve (Ops span) min table = done table
start_mark reserve (Data span) min table = done table
start_mark reserve (MarkRef r) min table = done table

-- the first loop, from `min_size` and the table so far
unfoldable pub start_from : Build → Reserve → List AsmSection → ℕ → List ℕ → Run (List ℕ)
start_from build reserve [] min table = done table
start_from build reserve (s ∷ ss) min table =
    and_then (start_mark reserve s min table) (λ table'.
    and_then (min_compiled_size build s) (λ size.
    and_then (add_u32 build min size) (λ min'.
    start_from build reserve ss min' table')))

-- ---- one iteration

-- what the walk carries: `converged` and the table
pub record Walk : Type 0 where
  pub converged : Bool
  pub table : List ℕ

-- how it ends: at the last section, or by `RefHasTooSmallSetSize(i)`
pub data Walked : Type 0 where
  walked : Walk → Walked
  too_small : ℕ → Walked

-- `if prev_offset != current_code_offset`
abbrev pub move_mark : ℕ → ℕ → Walk → ℕ → Run Walk
move_mark id current w prev =
    cond (eqb prev current) (done w)
    (and_then (index_mut w.table id current) (λ table'. done (record { converged = false; table = table' })))

-- `if let AsmSection::Mark(id) = section`
abbrev pub walk_mark : AsmSection → ℕ → Walk → Run Walk
walk_mark (Mark id) current w = and_then (index w.table id) (move_mark id current w)
walk_mark (Ops span) current w = done w
walk_mark (Data span) current w = done w
walk_mark (MarkRef r) current w = done w

-- `.ok_or(AssembleError::RefHasTooSmallSetSize(i))?`, then what follows
abbrev pub or_too_small : ℕ → Option ℕ → (ℕ → Run Walked) → Run Walked
or_too_small i None next = done (too_small i)
or_too_small i (Some size) next = next size

-- the walk over the sections from i on, from `current_code_offset`: a mark is moved where it is met,
-- so that the sections behind it are sized by its new offset;
-- a set size that is too small ends it there
unfoldable pub walk_from : Build → List AsmSection → ℕ → ℕ → Walk → Run Walked
walk_from build [] i current w = done (walked w)
walk_from build (s ∷ ss) i current w =
    and_then (walk_mark s current w) (λ w'.
    and_then (compiled_size build w'.table s) (λ size.
    or_too_small i size (λ n.
    and_then (add_u32 build current n) (λ current'.
    walk_from build ss (suc i) current' w'))))

-- ---- `converge_mark_offsets`

-- `Ok`, with the table as it is left, or `Err(AssembleError::RefHasTooSmallSetSize(i))`
pub data Converged : Type 0 where
  ok : List ℕ → Converged
  ref_has_too_small_set_size : ℕ → Converged

-- `if converged { return Ok(()) }`, else the iterations that are left
abbrev pub decide : (List ℕ → Run Converged) → Bool → List ℕ → Run Converged
decide next true table = done (ok table)
decide next false table = next table

-- what comes after a walk; `?` hands its error on
abbrev pub after_walk : (List ℕ → Run Converged) → Walked → Run Converged
after_walk next (walked w) = decide next w.converged w.table
after_walk next (too_small i) = done (ref_has_too_small_set_size i)

-- the second loop: after the iterations allowed comes `unreachable!`
unfoldable pub iterate : Build → ℕ → List AsmSection → List ℕ → Run Converged
iterate build zero ss table = panic
iterate build (suc left) ss table =
    and_then (walk_from build ss 0 0 (record { converged = true; table = table })) (after_walk (iterate build left ss))

-- `MAX_ASSEMBLER_CONVERGENCE_ITERS`
abbrev pub max_iterations : ℕ
max_iterations = 1024

-- `converge_mark_offsets`, of a table `mark_to_offset`
unfoldable pub converge : Build → Reserve → List AsmSection → List ℕ → Run Converged
converge build reserve ss table = and_then (start_from build reserve ss 0 table) (iterate build max_iterations ss)

-- ---- emission

-- a reference's value: `checked_sub`, and `expect`
abbrev pub emit_value : List ℕ → MarkReference → Run ℕ
emit_value table (Direct id) = index table id.0
emit_value table (Delta span) =
    and_then (index table span.end.0) (λ end. and_then (index table span.start.0) (λ start. checked_sub end start))

-- `mark_ref.set_size.unwrap_or(ref_size)`
abbrev pub unwrap_or : Option RefSize → RefSize → RefSize
unwrap_or None held = held
unwrap_or (Some s) held = s

-- `value == 0 && mark_ref.set_size.is_none() && mark_ref.pushed`
abbrev pub is_push0 : ℕ → Option RefSize → Bool → Bool
is_push0 v None pushed = eqb v 0 && pushed
is_push0 v (Some s) pushed = false

-- `set_size.is_none_or(|set_size| set_size >= ref_size)`, negated
abbrev pub is_invalid : Option RefSize → RefSize → Bool
is_invalid None held = false
is_invalid (Some s) held = ltb (as_u32 s) (as_u32 held)

-- `if mark_ref.pushed { result.push(op::PUSH1 + ref_size as u8 - 1) }`
abbrev pub emit_op : Bool → RefSize → List ℕ
emit_op true size = (0x60 + as_u32 size - 1) ∷ []
emit_op false size = []

-- the opcode if pushed, then the bytes of `value.to_le_bytes()` below the size, the last first
unfoldable pub emit_bytes : Bool → RefSize → ℕ → List ℕ
emit_bytes pushed size v = emit_op pushed size ++ reverse (take (as_u32 size) (le_bytes 4 v))

-- what is appended for a reference of value v
unfoldable pub emit_ref : Option RefSize → Bool → ℕ → Run (List ℕ)
emit_ref size pushed v =
    cond (is_push0 v size pushed) (done (0x5f ∷ []))
    (cond (is_invalid size (bytes_to_hold v)) panic
    (done (emit_bytes pushed (unwrap_or size (bytes_to_hold v)) v)))

-- what is appended for a section
abbrev pub emit_section : List ℕ → List ℕ → AsmSection → Run (List ℕ)
emit_section bytes table (Mark id) = done []
emit_section bytes table (Ops span) = range bytes span.start span.end
emit_section bytes table (Data span) = range bytes span.start span.end
emit_section bytes table (MarkRef r) = and_then (emit_value table r.mark_ref) (emit_ref r.set_size r.pushed)

-- the loop over the sections, appending to what `result` holds
unfoldable pub emit_from : List ℕ → List ℕ → List AsmSection → List ℕ → Run (List ℕ)
emit_from bytes table [] result = done result
emit_from bytes table (s ∷ ss) result =
    and_then (emit_section bytes table s) (λ more. emit_from bytes table ss (result ++ more))

-- ---- `assemble`

-- how it ends, where it doesn't panic
pub data Assembled : Type 0 where
  -- `Ok`: the offset table returned, and the result
  assembled : List ℕ → List ℕ → Assembled
  -- `Err(AssembleError::RefHasTooSmallSetSize(i))`
  too_small_set_size : ℕ → Assembled

-- what comes after `converge_mark_offsets`; `?` hands its error on
abbrev pub emission : Assembler → List ℕ → Converged → Run Assembled
emission a result (ok table) = and_then (emit_from a.bytes table (iter_sections a) result) (λ result'. done (assembled table result'))
emission a result (ref_has_too_small_set_size i) = done (too_small_set_size i)

-- `mark_id_count_hint.unwrap_or(ASSUMED_MARK_COUNT_WITHOUT_HINT)`
abbrev pub mark_count : Option ℕ → ℕ
mark_count None = 128
mark_count (Some hint) = hint

-- `assemble`, with a hint or without, appending to a result
unfoldable pub assemble : Build → Reserve → Option ℕ → Assembler → List ℕ → Run Assembled
assemble build reserve hint a result = and_then (converge build reserve (iter_sections a) (replicate (mark_count hint) 0)) (emission a result)
