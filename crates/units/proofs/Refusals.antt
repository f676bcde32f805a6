-- The numbers of the table of replies. Assumes nothing.
use Prim.Native.Nat.{◌^◌, ◌<◌}
use native.Mathlib.Omega.{arith}
use Rattle.units.specs.declared.reply.Refusal.{Refusal}
use Rattle.units.specs.declared.reply.Refusal.TheVariants as reply
use Rattle.units.specs.Replies.{refusal_numbers}

-- every number of the table of replies has at most two digits
pub two_digits : (r : Refusal) → (refusal_numbers r).number < 100
two_digits reply.BadDepth = omega arith
two_digits reply.BadWord = omega arith
two_digits reply.LargeMark = omega arith
two_digits reply.BytesFull = omega arith
two_digits reply.SectionsFull = omega arith
two_digits (reply.Damaged i) = omega arith
two_digits (reply.ShortTable i) = omega arith
two_digits (reply.Unplaced i) = omega arith
two_digits (reply.PlacedApart i) = omega arith
two_digits (reply.TooNarrow i k) = omega arith
two_digits reply.Unsettled = omega arith
two_digits (reply.Backward i k) = omega arith
two_digits (reply.ResultFull k) = omega arith
two_digits reply.ListingFull = omega arith
two_digits (reply.EntryDiffers i) = omega arith
two_digits (reply.StartUnplaced i) = omega arith
two_digits (reply.EndUnplaced i) = omega arith

-- so it is below 256
pub number_small : (r : Refusal) → (refusal_numbers r).number < 2 ^ 8
number_small r = omega (arith, two_digits r)
