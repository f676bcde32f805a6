-- The number determines the answer of settling, of a write, of assembly and of a listing. Assumes nothing.
use Prim.Native.Nat.{ℕ}
use native.Mathlib.Omega.{arith}
use mathlib.Core.Path.{◌≡◌, refl}
use mathlib.Core.List.{List}
use Rattle.records.specs.Store.{Store}
use Rattle.units.specs.Reply.{Reply}
use Rattle.layout.specs.Answer.{Laid}
use Rattle.settling.specs.Settle.{settling}
use Rattle.assembler.specs.Assemble.{assembly}
use Rattle.assembler.specs.Write.{write_by}
use Rattle.listing.specs.Answer.{listing_reply}
use Rattle.numbers.proofs.Unpacking.{number_back, mid_back, low_back, reply_back}
use Rattle.answers.specs.Numbers.{laid_number, assembled_number, listed_number, LaidPacks, AssembledPacks, TextPacks, laid_in, assembled_in, listed_in}
use Rattle.answers.proofs.Bounds.{settling_packs, assembly_packs, write_packs, listing_packs}

-- an answer that packs comes back
laid_back : (reply : Reply Laid) → AssembledPacks reply → assembled_in (assembled_number reply) ≡ reply
laid_back reply packs =
    reply_back laid_number laid_in LaidPacks
    (λ x h. (number_back 0 x.passes x.length h, rw (mid_back 0 x.passes x.length h, low_back 0 x.passes x.length h)))
    reply packs

pub assembled_back : (w : ℕ) (st : Store) (n : ℕ) (result : List ℕ) (position : ℕ)
    → assembled_in (assembled_number (assembly w st n result position).reply) ≡ (assembly w st n result position).reply
assembled_back w st n result position = laid_back (assembly w st n result position).reply (assembly_packs w st n result position)

pub settled_back : (w : ℕ) (st : Store) (n : ℕ) → assembled_in (assembled_number (settling w n st).reply) ≡ (settling w n st).reply
settled_back w st n = laid_back (settling w n st).reply (settling_packs w st n)

pub written_back : (w : ℕ) (st : Store) (table result : List ℕ) (position : ℕ)
    → assembled_in (assembled_number (write_by w st table result position).reply) ≡ (write_by w st table result position).reply
written_back w st table result position = laid_back (write_by w st table result position).reply (write_packs w st table result position)

pub listed_back : (w : ℕ) (st : Store) (text : List ℕ) → listed_in (listed_number (listing_reply w st text)) ≡ listing_reply w st text
listed_back w st text = reply_back (λ (size : ℕ). size) (λ size. size) TextPacks (λ x h. (omega arith, refl)) (listing_reply w st text) (listing_packs w st text)
