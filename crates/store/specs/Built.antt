-- What a building call answers stands for, and the reply that its number is. Assumes nothing.
use Rattle.std.specs.Prelude.{ℕ, cond, ltb, eqb, Result, Ok, Err}
use Rattle.units.specs.Replies.{damaged}
use Rattle.units.specs.Reply.{accepted, refused, refusal_reply}
use Rattle.calls.specs.Calls.{BuiltReply}
use Rattle.numbers.specs.Numbers.{number_in, low_in, counts_in}
use Rattle.units.specs.declared.reply.Refusal.{Refusal}
use Rattle.records.specs.declared.Assembler.{Assembler}

-- the counts, or the refusal in document 01's numbers
abbrev pub built_reply : Result Assembler Refusal → BuiltReply
built_reply (Ok counts) = accepted counts
built_reply (Err r) = refusal_reply r

-- the reply to a building call that a number is: accepted where the number is 0; 6 has a section, 1 to 5 have none, and none has passes.
-- Building answers stop at 6 (`built_below`, `all_below`, numbers Unpacking), so what is said of a number above 6 is of no answer that is
-- read so: an empty run, whose answer is its state, isn't.
unfoldable pub built_of : ℕ → BuiltReply
built_of answer =
    cond (eqb (number_in answer) 0) (accepted (counts_in answer))
    (cond (ltb (number_in answer) damaged) (refused (number_in answer) 0 0) (refused damaged (low_in answer) 0))
