-- Document 01, modules 3 and 4: settling over a store and a lent table. 6 first, then 7 to 12, 17 and 18 in 8's place, over
-- the decoded sections. Assumes nothing.
use Rattle.std.specs.Prelude.{ℕ, List, replicate, Result, Ok, Err}
use Rattle.units.specs.Replies.{damaged}
use Rattle.units.specs.declared.reply.LaidOut.{LaidOut}
use Rattle.units.specs.declared.reply.Refusal.{Refusal}
use Rattle.units.specs.Reply.{Reply, accepted, refused, refusal_reply}
use Rattle.records.specs.Damage.{Soundness}
use Rattle.records.specs.Damage.{Sound, Damaged}
use Rattle.records.specs.Store.{Store}
use Rattle.records.specs.Damage.{whole_soundness}
use Rattle.records.specs.Sections.{decode}
use Rattle.layout.specs.Answer.{Laid, Answer, answer, answer_reply, answer_table}

-- the answer, and the table afterwards
pub record Settlement : Type 0 where
  pub reply : Reply Laid
  pub table : List ℕ

-- 6 at the section that the test found, with the table of length n all 0; or what the sections answer
abbrev pub settlement : ℕ → Soundness → Answer → Settlement
settlement n (Damaged i) a = record { reply = refused damaged i 0; table = replicate n 0 }
settlement n Sound a = record { reply = answer_reply a; table = answer_table n a }

-- settling a store by a table of length n; w words a section
unfoldable pub settling : ℕ → ℕ → Store → Settlement
settling w n st = settlement n (whole_soundness w st) (answer n (decode w st))

-- the code's answer as a reply
abbrev pub settled_reply : Result LaidOut Refusal → Reply Laid
settled_reply (Ok laid) = accepted (record { length = laid.length; passes = laid.passes })
settled_reply (Err r) = refusal_reply r
