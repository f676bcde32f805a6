-- The code against the Yellow Paper and EIP-3855: what is said of each reference in a result that holds the code from a position on.
-- The meaning of instructions is evm/specs/YellowPaper, which imports nothing of ours. Assumes nothing.
use Rattle.std.specs.Prelude.{ℕ, ◌+◌, ◌<◌, ◌≡◌, true, List, ◌∷◌, length, get_or, take}
use Rattle.std.proofs.Math.Option.{some}
use Rattle.units.specs.declared.MarkReference.{MarkReference}
use Rattle.units.specs.declared.MarkReference.TheVariants.{Direct, Delta}
use Rattle.units.specs.declared.AsmReference.{AsmReference}
use Rattle.evm.specs.YellowPaper.{max_stack, is_push, instruction_length, code_byte, step}
use Rattle.records.specs.Sections.{Section, mark, reference}
use Rattle.layout.specs.Layout.{total}
use Rattle.layout.specs.Passes.{entry, value_by}
use Rattle.layout.specs.Conditions.{section_at, placed}
use Rattle.assembler.specs.Emission.{written_layout}

-- the bytes written for section i
abbrev pub width_of : List ℕ → List Section → ℕ → ℕ
width_of table ss i = get_or (written_layout table ss).widths i 0

-- where they begin in the written code: the widths before it
abbrev pub place_of : List ℕ → List Section → ℕ → ℕ
place_of table ss i = total (take i (written_layout table ss).widths)

-- a mark is placed, and each of its placings is at v in the written code
abbrev pub IsPlace : List ℕ → List Section → ℕ → ℕ → Type 0
IsPlace table ss m v = (placed ss m ≡ true) × ((j : ℕ) → j < length ss → section_at ss j ≡ mark m → place_of table ss j ≡ v)

-- a direct reference's value is its mark's place in the written code, a delta's the difference of its marks' places
abbrev pub ValueHere : List ℕ → List Section → MarkReference → ℕ → Type 0
ValueHere table ss (Direct m) v = IsPlace table ss m.0 v
ValueHere table ss (Delta d) v = (a : ℕ) × (b : ℕ) × IsPlace table ss d.start.0 a × IsPlace table ss d.end.0 b × (v + a ≡ b)

-- at an offset of a code stands one push instruction, so many bytes long, that pushes v on any stack with room
pub record PushesAt (code : List ℕ) (at width v : ℕ) : Type 0 where
  pub push : is_push (code_byte code at) ≡ true
  pub long : instruction_length (code_byte code at) ≡ width
  pub pushes : (stack : List ℕ) → length stack < max_stack → step code at stack ≡ some (v ∷ stack)

-- so for each reference of a list, in a result that holds its code from a position on
pub record ReferencesHere (ss : List Section) (table result : List ℕ) (position : ℕ) : Type 0 where
  -- a pushed one is one push instruction of exactly its section's width, and pushes its value
  pub pushed : (i : ℕ) (r : AsmReference) → i < length ss → section_at ss i ≡ reference r → r.pushed ≡ true
      → PushesAt result (position + place_of table ss i) (width_of table ss i) (value_by (entry table) r.mark_ref)
  -- and the value of each, pushed or raw, is where its marks are
  pub values : (i : ℕ) (r : AsmReference) → i < length ss → section_at ss i ≡ reference r
      → ValueHere table ss r.mark_ref (value_by (entry table) r.mark_ref)
