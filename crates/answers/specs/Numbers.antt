-- The answers of settling, of a write, of assembly and of a listing as one number each. Assumes nothing.
use Rattle.std.specs.Prelude.{ℕ, ◌^◌, ◌<◌}
use Rattle.units.specs.Reply.{Reply}
use Rattle.layout.specs.Answer.{Laid}
use Rattle.numbers.specs.Numbers.{packed, mid_in, low_in, reply_number, reply_in}
use Rattle.numbers.specs.Packs.{Packs, ReplyPacks}

-- accepted by settling, a write or assembly: passes and length
abbrev pub laid_number : Laid → ℕ
laid_number laid = packed 0 laid.passes laid.length

-- the answer to one of the three: that, or a refusal
abbrev pub assembled_number : Reply Laid → ℕ
assembled_number r = reply_number laid_number r

-- the answer to a listing: the text's length in mid and low, or a refusal
abbrev pub listed_number : Reply ℕ → ℕ
listed_number r = reply_number (λ size. size) r

-- ---- answers that come back out of their number; every answer that is given does (proofs/Bounds)

-- passes and length
abbrev pub LaidPacks : Laid → Type 0
LaidPacks laid = Packs 0 laid.passes laid.length

-- an answer to one of the three
abbrev pub AssembledPacks : Reply Laid → Type 0
AssembledPacks r = ReplyPacks LaidPacks r

-- a text's length
abbrev pub TextPacks : ℕ → Type 0
TextPacks size = size < 2 ^ 56

-- an answer to a listing
abbrev pub ListedPacks : Reply ℕ → Type 0
ListedPacks r = ReplyPacks TextPacks r

-- ---- the reply that a number is

-- the length and passes in it
abbrev pub laid_in : ℕ → Laid
laid_in answer = record { length = low_in answer; passes = mid_in answer }

-- the reply to one of the three
abbrev pub assembled_in : ℕ → Reply Laid
assembled_in answer = reply_in laid_in answer

-- the reply to a listing
abbrev pub listed_in : ℕ → Reply ℕ
listed_in answer = reply_in (λ size. size) answer
