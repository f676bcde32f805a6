-- Answers that come back out of one number; every answer that is given does (proofs/Bounds), but an empty run's, which is its state,
-- whatever number that has. Assumes nothing.
use Rattle.std.specs.Prelude.{ℕ, ◌^◌, ◌≤◌, ◌<◌}
use Rattle.units.specs.Reply.{Reply, accepted, refused}
use Rattle.records.specs.declared.Assembler.{Assembler}
use Rattle.calls.specs.Calls.{BuiltReply}

-- three numbers that come back out
abbrev pub Packs : ℕ → ℕ → ℕ → Type 0
Packs number mid low = (number < 2 ^ 8) × (mid < 2 ^ 24) × (low < 2 ^ 32)

-- a reply that does, where what is accepted does
abbrev pub ReplyPacks : {A : Type 0} → (A → Type 0) → Reply A → Type 0
ReplyPacks fits (accepted x) = fits x
ReplyPacks fits (refused number section passes) = (1 ≤ number) × Packs number passes section

-- counts that come back out of their state
abbrev pub CountsPack : Assembler → Type 0
CountsPack counts = Packs 0 counts.sections counts.bytes

-- a reply to a building call that comes back out of its number
abbrev pub BuiltPacks : BuiltReply → Type 0
BuiltPacks r = ReplyPacks CountsPack r
