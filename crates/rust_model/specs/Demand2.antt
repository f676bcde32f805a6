-- Demand 2: 'On every list of building calls from an empty store where the Rust doesn't panic, every named mark is placed, none has bytes
-- between its placings, 01's limits hold and no lent slice is too short, the code, placed marks' offsets, section of a too-small set size
-- and listing equal the Rust's.' The Rust is the definitions beside this one; ours are those that the contracts of the building calls,
-- `assemble` and `write_asm` cite, and lists of calls (`run_replies`, `run_after`). Its proof is in proofs/Demand2. Assumes nothing.
use Rattle.std.specs.Prelude.{ℕ, ◌+◌, ◌*◌, ◌≤◌, ◌≡◌, true, false, ◌⊎◌, ◌↔◌, List, [], ◌∷◌, ◌++◌, map, length, drop, Option}
use Rattle.std.proofs.Math.Seq.{slice}
use Rattle.units.specs.Replies.{too_narrow, unsettled, backward}
use Rattle.units.specs.Reply.{accepted, refused}
use Rattle.records.specs.Store.{Store, store_of, empty_counts, words_per_section, max_bytes, max_sections}
use Rattle.records.specs.Sections.{Section, mark, ops, bytes, reference, decode}
use Rattle.calls.specs.Calls.{Call, push, push_op_bytes, clear, has_large_mark, run_replies, run_after}
use Rattle.slices.specs.Over.{over}
use Rattle.calls.specs.Answers.{EveryStored}
use Rattle.layout.specs.Passes.{entry}
use Rattle.layout.specs.Conditions.{Never, placed, short_at, unplaced_at, apart_at}
use Rattle.assembler.specs.Assemble.{Outcome, written, assembly}
use Rattle.listing.specs.Answer.{listing_reply, listing_buffer}
use Rattle.rust_model.specs.Run.{Run, done, panic, Build, index}
use Rattle.rust_model.specs.Building.{Assembler, empty, call, calls}
use Rattle.rust_model.specs.Sections.{AsmSection, Mark, Ops, Data, MarkRef, iter_sections}
use Rattle.rust_model.specs.Assemble.{Reserve, Reserves, Assembled, assembled, too_small_set_size, assemble}
use Rattle.rust_model.specs.Display.{write_asm}

-- ---- the Rust's list as the list view has it

-- a section, with the bytes of Ops and Data in it
abbrev pub seen : List ℕ → AsmSection → Section
seen bs (Mark id) = mark id
seen bs (Ops span) = ops (slice span.start span.end bs)
seen bs (Data span) = bytes (slice span.start span.end bs)
seen bs (MarkRef r) = reference r

-- all of the Rust's sections
abbrev pub sections_of : Assembler → List Section
sections_of a = map (seen a.bytes) (iter_sections a)

-- ---- 01's limits, and the lent slices of bytes and words

-- what the Rust has after a call is within the limits and the slices
pub record Fits (bs words : List ℕ) (a : Assembler) : Type 0 where
  pub bytes_limit : length a.bytes ≤ max_bytes
  pub bytes_fit : length a.bytes ≤ length bs
  pub sections_limit : length a.sections ≤ max_sections
  pub words_fit : words_per_section * length a.sections ≤ length words

-- 'A mark number is 0 to 1,048,575'
abbrev pub marks_within : Call → Type 0
marks_within (push p) = has_large_mark p ≡ false
marks_within (push_op_bytes bs) = Unit {0}
marks_within clear = Unit {0}

-- so at each call of a list
unfoldable pub AlwaysFits : Build → List ℕ → List ℕ → List Call → Assembler → Type 0
AlwaysFits build bs words [] a = Unit {0}
AlwaysFits build bs words (c ∷ cs) a =
    marks_within c × ((a' : Assembler) → call build c a ≡ done a' → Fits bs words a' × AlwaysFits build bs words cs a')

-- the premise of all that follows: the building calls don't panic, and come to `a`; limits hold and the two slices are long enough
pub record Builds (build : Build) (bs words : List ℕ) (cs : List Call) (a : Assembler) : Type 0 where
  pub no_panic : calls build cs empty ≡ done a
  pub fits : AlwaysFits build bs words cs empty

-- ---- the store

-- an empty store on lent slices
abbrev pub opened : List ℕ → List ℕ → Store
opened bs words = store_of empty_counts bs words

-- and after our calls
abbrev pub built : List ℕ → List ℕ → List Call → Store
built bs words cs = run_after words_per_section cs (opened bs words)

-- our calls are all accepted, and the store decodes to the Rust's list
pub record SameStore (bs words : List ℕ) (cs : List Call) (a : Assembler) : Type 0 where
  pub accepted : EveryStored (run_replies words_per_section cs (opened bs words))
  pub decoded : decode words_per_section (built bs words cs) ≡ sections_of a
  pub bytes_count : (built bs words cs).stored_bytes ≡ length a.bytes
  pub sections_count : (built bs words cs).sections ≡ length a.sections

-- ---- assembly

-- the premises on the sections, and on the lent table's length
pub record Assembles (a : Assembler) (lent : ℕ) : Type 0 where
  -- 'every named mark is placed'
  pub marks_placed : Never (sections_of a) (unplaced_at (sections_of a))
  -- 'none has bytes between its placings': no mark, named or not, as in demand 3 and in number 9
  pub together : Never (sections_of a) (apart_at (sections_of a))
  -- 'no lent slice is too short': the table
  pub in_table : Never (sections_of a) (short_at lent (sections_of a))

-- the code that the Rust appended to `before` is the code that ours wrote, and placed marks are where they are there
pub record SameCode (a : Assembler) (before table result' : List ℕ) (result : List ℕ) (position : ℕ) (ours : Outcome) : Type 0 where
  pub code : List ℕ
  pub appended : result' ≡ before ++ code
  pub passes : ℕ
  -- where the lent result is long enough for it
  pub reply : position + length code ≤ length result → ours.reply ≡ written (length code) passes
  pub wrote : position + length code ≤ length result → ours.result ≡ over result position code
  pub offsets : position + length code ≤ length result
      → (m : ℕ) → placed (sections_of a) m ≡ true → index table m ≡ done (entry ours.table m)

-- the section of a too small set size
abbrev pub SameSection : ℕ → Outcome → Type 0
SameSection i ours = (passes : ℕ) × (ours.reply ≡ refused too_narrow i passes)

-- what the Rust comes to, and ours. Under the premises it panics only where ours refuses 11 or 12.
abbrev pub SameAssembly : Assembler → List ℕ → List ℕ → ℕ → Outcome → Run Assembled → Type 0
SameAssembly a before result position ours (done (assembled table result')) = SameCode a before table result' result position ours
SameAssembly a before result position ours (done (too_small_set_size i)) = SameSection i ours
SameAssembly a before result position ours panic =
    (i : ℕ) × (passes : ℕ) × ((ours.reply ≡ refused unsettled i passes) ⊎ (ours.reply ≡ refused backward i passes))

-- ---- listing

-- the Rust's text, and ours where the lent buffer is long enough for it
pub record SameListing (a : Assembler) (st : Store) : Type 0 where
  pub text : List ℕ
  pub written : write_asm a ≡ done text
  pub reply : (buffer : List ℕ) → length text ≤ length buffer → listing_reply words_per_section st buffer ≡ accepted (length text)
  pub holds : (buffer : List ℕ) → length text ≤ length buffer → listing_buffer words_per_section st buffer ≡ text ++ drop (length text) buffer

-- ---- the demand

-- of the Rust as it is built
pub record Demand2 (build : Build) (bs words : List ℕ) (cs : List Call) (a : Assembler) : Type 0 where
  pub store : SameStore bs words cs a
  -- however the Rust's table grows, from whatever hint, and whatever its result held before
  pub assembly : (lent : ℕ) → Assembles a lent → (reserve : Reserve) → Reserves reserve → (hint : Option ℕ)
      → (before result : List ℕ) (position : ℕ)
      → SameAssembly a before result position
      (assembly words_per_section (built bs words cs) lent result position) (assemble build reserve hint a before)
  pub listing : SameListing a (built bs words cs)

-- ---- beside the demand

-- our calls are all accepted exactly where the Rust's don't panic, limits hold and the two slices are long enough. So on a list that ours
-- accepts whole no building call of the Rust, as it is defined here, panics, and `Demand2` holds of every such list.
abbrev pub SameAcceptance : Build → List ℕ → List ℕ → List Call → Type 0
SameAcceptance build bs words cs =
    ((a : Assembler) × Builds build bs words cs a) ↔ EveryStored (run_replies words_per_section cs (opened bs words))

-- where the Rust answers code, no mark, named or not, has bytes between its placings. It holds of what `Builds` (without limits a sum of
-- sizes could wrap round to where it was). So the premise `together` of `Assembles` leaves out no code: only lists on which the Rust
-- panics (it never settles, or reads past its table) or reports a too small set size.
abbrev pub CodeTogether : Build → Assembler → Type 0
CodeTogether build a =
    (reserve : Reserve) (hint : Option ℕ) (before table result : List ℕ)
    → assemble build reserve hint a before ≡ done (assembled table result) → Never (sections_of a) (apart_at (sections_of a))
