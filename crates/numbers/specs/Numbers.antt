-- How a store's counts and the answers are one number each: number * 2^56 + mid * 2^32 + low. That the answers come back out is
-- proofs/Unpacking. Assumes nothing.
use Rattle.std.specs.Prelude.{ℕ, ◌+◌, ◌*◌, ◌/◌, ◌%◌, ◌^◌, List, cond, eqb}
use Rattle.units.specs.Reply.{Reply, accepted, refused}
use Rattle.units.specs.Replies.{refusal_numbers}
use Rattle.units.specs.declared.reply.Refusal.{Refusal}
use Rattle.records.specs.declared.Assembler.{Assembler}
use Rattle.records.specs.Store.{Store, store_of}
use Rattle.calls.specs.Calls.{BuiltReply}

-- three numbers as one
abbrev pub packed : ℕ → ℕ → ℕ → ℕ
packed number mid low = number * 2 ^ 56 + mid * 2 ^ 32 + low

-- its first part comes back out
abbrev pub number_in : ℕ → ℕ
number_in answer = answer / 2 ^ 56

-- its middle part
abbrev pub mid_in : ℕ → ℕ
mid_in answer = answer / 2 ^ 32 % 2 ^ 24

-- its last part
abbrev pub low_in : ℕ → ℕ
low_in answer = answer % 2 ^ 32

-- the counts that a state is: sections * 2^32 + stored bytes
abbrev pub counts_in : ℕ → Assembler
counts_in state = record { bytes = state % 2 ^ 32; sections = state / 2 ^ 32 }

-- the store of a state and the slices lent
abbrev pub store_in : ℕ → List ℕ → List ℕ → Store
store_in state bytes words = store_of (counts_in state) bytes words

-- an argument names nothing
abbrev pub names_nothing : ℕ
names_nothing = packed 255 0 0

-- an answer: what is accepted as a number; or number, passes and section of a refusal, in this order (in a `Reply` the section comes before
-- the passes)
abbrev pub reply_number : {A : Type 0} → (A → ℕ) → Reply A → ℕ
reply_number given (accepted x) = given x
reply_number given (refused number section passes) = packed number passes section

-- the counts of a store as its state
abbrev pub state_number : Assembler → ℕ
state_number counts = packed 0 counts.sections counts.bytes

-- the answer to a building call: the next state, or a refusal
abbrev pub built_number : BuiltReply → ℕ
built_number r = reply_number state_number r

-- a refusal as the code has it; passes count up to 2^24, of which no call makes so many
abbrev pub refusal_number : Refusal → ℕ
refusal_number r = packed (refusal_numbers r).number ((refusal_numbers r).passes % 2 ^ 24) (refusal_numbers r).section

-- the reply that a number is: accepted where its number is 0
abbrev pub reply_in : {A : Type 0} → (ℕ → A) → ℕ → Reply A
reply_in given answer =
    cond (eqb (number_in answer) 0) (accepted (given answer)) (refused (number_in answer) (low_in answer) (mid_in answer))

-- the reply to a building call that a number is
abbrev pub built_in : ℕ → BuiltReply
built_in answer = reply_in counts_in answer
