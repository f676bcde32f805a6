-- The Rust's sections as they are read back, and their sizes, written from lib.rs: `AsmSection`, `min_compiled_size`, `compiled_size`,
-- `bytes_to_hold`. Assumes nothing.
use Rattle.std.specs.Prelude.{ℕ, ◌+◌, ◌-◌, Bool, true, false, cond, List, map, leb, ltb, eqb, None, Some, Option}
use Rattle.units.specs.declared.Span.{Span}
use Rattle.units.specs.declared.MarkId.{MarkId}
use Rattle.units.specs.declared.RefSize.{RefSize}
use Rattle.units.specs.declared.RefSize.TheVariants.{S1, S2, S3, S4}
use Rattle.units.specs.declared.MarkReference.{MarkReference}
use Rattle.units.specs.declared.MarkReference.TheVariants.{Direct, Delta}
use Rattle.units.specs.declared.AsmReference.{AsmReference}
use Rattle.rust_model.specs.Run.{Run, done, and_then, Build, sub_u32, index}
use Rattle.rust_model.specs.Building.{StoredAsmSection, Assembler}
use Rattle.rust_model.specs.Building as stored

-- `AsmSection`
pub data AsmSection : Type 0 where
  Mark : ℕ → AsmSection
  Ops : Span ℕ → AsmSection
  Data : Span ℕ → AsmSection
  MarkRef : AsmReference → AsmSection

-- `AsmSection::delta_ref`
abbrev pub delta_ref : Span MarkId → Bool → Option RefSize → AsmSection
delta_ref span pushed size = MarkRef (record { mark_ref = Delta span; set_size = size; pushed = pushed })

-- `AsmSection::from`
abbrev pub from_stored : StoredAsmSection → AsmSection
from_stored (stored.Mark id) = Mark id
from_stored (stored.Ops span) = Ops span
from_stored (stored.Data span) = Data span
from_stored (stored.DirectMarkRef id size pushed) =
    MarkRef (record { mark_ref = Direct (record { 0 = id }); set_size = size; pushed = pushed })
from_stored (stored.UnsizedPushedDeltaRef span) = delta_ref span true None
from_stored (stored.Size1PushedDeltaRef span) = delta_ref span true (Some S1)
from_stored (stored.Size2PushedDeltaRef span) = delta_ref span true (Some S2)
from_stored (stored.Size3PushedDeltaRef span) = delta_ref span true (Some S3)
from_stored (stored.Size4PushedDeltaRef span) = delta_ref span true (Some S4)
from_stored (stored.UnsizedRawDeltaRef span) = delta_ref span false None
from_stored (stored.Size1RawDeltaRef span) = delta_ref span false (Some S1)
from_stored (stored.Size2RawDeltaRef span) = delta_ref span false (Some S2)
from_stored (stored.Size3RawDeltaRef span) = delta_ref span false (Some S3)
from_stored (stored.Size4RawDeltaRef span) = delta_ref span false (Some S4)

-- `iter_sections`
abbrev pub iter_sections : Assembler → List AsmSection
iter_sections a = map from_stored a.sections

-- `RefSize as u32`
abbrev pub as_u32 : RefSize → ℕ
as_u32 S1 = 1
as_u32 S2 = 2
as_u32 S3 = 3
as_u32 S4 = 4

-- `bytes_to_hold`
unfoldable pub bytes_to_hold : ℕ → RefSize
bytes_to_hold v = cond (leb v 0xff) S1 (cond (leb v 0xffff) S2 (cond (leb v 0xffffff) S3 S4))

-- `min_compiled_size` of a reference: `match (mark_ref.set_size, mark_ref.pushed)`
abbrev pub min_ref_size : Option RefSize → Bool → ℕ
min_ref_size (Some s) true = as_u32 s + 1
min_ref_size (Some s) false = as_u32 s
min_ref_size None pushed = 1

-- `min_compiled_size`
abbrev pub min_compiled_size : Build → AsmSection → Run ℕ
min_compiled_size build (Mark id) = done 0
min_compiled_size build (Ops span) = sub_u32 build span.end span.start
min_compiled_size build (Data span) = sub_u32 build span.end span.start
min_compiled_size build (MarkRef r) = done (min_ref_size r.set_size r.pushed)

-- `a.saturating_sub(b)`
unfoldable pub saturating_sub : ℕ → ℕ → ℕ
saturating_sub a b = cond (ltb a b) 0 (a - b)

-- a reference's value while offsets converge
abbrev pub walk_value : List ℕ → MarkReference → Run ℕ
walk_value markMap (Direct id) = index markMap id.0
walk_value markMap (Delta span) =
    and_then (index markMap span.end.0) (λ end. and_then (index markMap span.start.0) (λ start. done (saturating_sub end start)))

-- `match (mark_ref.set_size, mark_ref.pushed)` of `compiled_size`; none is a set size that is too small
abbrev pub ref_size_for : Option RefSize → Bool → ℕ → RefSize → Option ℕ
ref_size_for (Some s) true v held = cond (ltb (as_u32 s) (as_u32 held)) None (Some (as_u32 s + 1))
ref_size_for (Some s) false v held = cond (ltb (as_u32 s) (as_u32 held)) None (Some (as_u32 s))
ref_size_for None true v held = cond (eqb v 0) (Some 1) (Some (1 + as_u32 held))
ref_size_for None false v held = Some (as_u32 held)

-- `compiled_size`
abbrev pub compiled_size : Build → List ℕ → AsmSection → Run (Option ℕ)
compiled_size build markMap (Mark id) = done (Some 0)
compiled_size build markMap (Ops span) = and_then (sub_u32 build span.end span.start) (λ n. done (Some n))
compiled_size build markMap (Data span) = and_then (sub_u32 build span.end span.start) (λ n. done (Some n))
compiled_size build markMap (MarkRef r) =
    and_then (walk_value markMap r.mark_ref) (λ v. done (ref_size_for r.set_size r.pushed v (bytes_to_hold v)))
