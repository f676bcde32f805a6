-- Document 02, request 3: settling and then writing the untouched store, beside assembly; demand 3 over the pair; and what holds of a write
-- from any table. The proofs are in proofs/Pair and proofs/WriteLaws. Assumes nothing.
use Rattle.std.specs.Prelude.{ℕ, ◌≡◌, ◌⊎◌, List, length, replicate}
use Rattle.units.specs.Replies.{result_full}
use Rattle.units.specs.Reply.{Reply, accepted, refused}
use Rattle.records.specs.Store.{Store}
use Rattle.records.specs.Sections.{decode}
use Rattle.layout.specs.Layout.{in_all, GivesEnough}
use Rattle.layout.specs.Answer.{Laid}
use Rattle.settling.specs.Settle.{settling}
use Rattle.assembler.specs.Emission.{written_layout}
use Rattle.assembler.specs.Assemble.{written, assembly}
use Rattle.assembler.specs.Demand3.{Demand3}
use Rattle.assembler.specs.Write.{write_by}

-- the write's answer with so many passes in place of its 0
abbrev pub with_passes : ℕ → Reply Laid → Reply Laid
with_passes k (accepted laid) = accepted (record { length = laid.length; passes = k })
with_passes k (refused number i own) = refused number i k

-- the answer of the two calls, settling's first: a refused settling's; else the write's 'with settling's .. pass count'
abbrev pub pair_reply : Reply Laid → Reply Laid → Reply Laid
pair_reply (refused number i k) wrote = refused number i k
pair_reply (accepted laid) wrote = with_passes laid.passes wrote

-- the table of the two calls as assembly leaves it: settling's, but all 0 where the write is refused (13, which leaves the lent table)
abbrev pub pair_table : ℕ → List ℕ → Reply Laid → List ℕ
pair_table n table (accepted laid) = table
pair_table n table (refused number i k) = replicate n 0

-- 'Settling and then writing an untouched store gives assembly's old bytes': for every store, table of length n, result and position
pub record PairIsAssembly (w : ℕ) (st : Store) (n : ℕ) (lent : List ℕ) (position : ℕ) : Type 0 where
  pub reply : (assembly w st n lent position).reply
      ≡ pair_reply (settling w n st).reply (write_by w st (settling w n st).table lent position).reply
  pub table : (assembly w st n lent position).table
      ≡ pair_table n (settling w n st).table (write_by w st (settling w n st).table lent position).reply
  pub result : (assembly w st n lent position).result ≡ (write_by w st (settling w n st).table lent position).result
  -- after a settling that is laid out, the write answers its length, or 13
  pub if_laid : (laid : Laid) → (settling w n st).reply ≡ accepted laid
      → ((write_by w st (settling w n st).table lent position).reply ≡ written laid.length 0)
      ⊎ ((write_by w st (settling w n st).table lent position).reply ≡ refused result_full 0 0)
  -- from the table of a refused settling, all 0, nothing is written
  pub if_refused : (number i k : ℕ) → (settling w n st).reply ≡ refused number i k
      → (number' : ℕ) × (i' : ℕ) × ((write_by w st (settling w n st).table lent position).reply ≡ refused number' i' 0)

-- 'the shortest-layout property (demand 3) now covers the pair, with settling's table and pass count, and no write from another table': of
-- the answer and the result that a write leaves. Where settling is refused the answer is settling's, and `if_refused` says that the write is
-- refused too.
abbrev pub WritesDemand3 : ℕ → Store → List ℕ → List ℕ → ℕ → Reply Laid → List ℕ → Type 0
WritesDemand3 w st table result position reply result' =
    table ≡ (settling w (length table) st).table
    → Demand3 w st (length table) result position (pair_reply (settling w (length table) st).reply reply) table result'

-- from whatever table: 'the layout of the written code .. is itself one that gives enough', 'the length answered is its length in all'
abbrev pub WritesEnough : ℕ → Store → List ℕ → Reply Laid → Type 0
WritesEnough w st table reply =
    (size passes : ℕ) → reply ≡ written size passes
    → GivesEnough (decode w st) (written_layout table (decode w st)) × (size ≡ in_all (written_layout table (decode w st)))
