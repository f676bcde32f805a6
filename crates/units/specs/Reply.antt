-- Document 01, 'Replies': what a call answers, over what it gives where it accepts. Assumes nothing.
use Rattle.std.specs.Prelude.{ℕ}
use Rattle.units.specs.Replies.{RefusalNumbers, refusal_numbers}
use Rattle.units.specs.declared.reply.Refusal.{Refusal}

-- accepted with what the call gives, or refused: 'A refusal gives its number, the first section concerned .. and passes made.' Here in
-- that order; as one number (numbers Numbers) in the order number, passes, section.
pub data Reply (A : Type 0) : Type 0 where
  accepted : A → Reply A
  -- number, section, passes made
  refused : ℕ → ℕ → ℕ → Reply A

-- a refusal's number, section and passes as a reply
abbrev pub numbers_reply : {A : Type 0} → RefusalNumbers → Reply A
numbers_reply n = refused n.number n.section n.passes

-- a refusal as a reply
abbrev pub refusal_reply : {A : Type 0} → Refusal → Reply A
refusal_reply r = numbers_reply (refusal_numbers r)
