-- The clauses of `assemble`, `settle`, `write` and `write_asm` by a state's number, from those over its counts as the code has them. Assumes nothing.
use Prim.Native.Nat.{ℕ}
use mathlib.Core.Path.{◌≡◌, sym, ap, ◌∙◌, subst}
use mathlib.Core.List.{List}
use lib.ListN.{length}
use Rattle.units.specs.Reply.{Reply}
use Rattle.records.specs.declared.Assembler.{Assembler}
use Rattle.records.specs.Store.{store_of, words_per_section}
use Rattle.layout.specs.Answer.{Laid}
use Rattle.settling.specs.Settle.{Settlement, settling}
use Rattle.settling.specs.SettlingShortest.{SettlesDemand3}
use Rattle.settling.specs.TightSettling.{SettlesWithin, SettlesLeast}
use Rattle.assembler.specs.Assemble.{Outcome, assembly}
use Rattle.assembler.specs.Demand3.{Demand3}
use Rattle.assembler.specs.Instructions.{CodePushes}
use Rattle.assembler.specs.TightAssembly.{AssemblesWithin, AssemblesLeast, WritesWithin, WritesLeast}
use Rattle.assembler.specs.Write.{WriteOutcome, write_by}
use Rattle.assembler.specs.Pair.{WritesDemand3, WritesEnough}
use Rattle.listing.specs.Answer.{listing_reply, listing_buffer}
use Rattle.numbers.specs.Numbers.{counts_in, store_in}
use Rattle.answers.specs.Numbers.{assembled_number, listed_number, AssembledPacks, ListedPacks}
use Rattle.answers.proofs.Bounds.{settling_packs, assembly_packs, write_packs, listing_packs}

-- ---- assembly

module _ (bytes words table result : List ℕ) (position : ℕ) where
  abbrev of : Assembler → Outcome
  of c = assembly words_per_section (store_of c bytes words) (length table) result position

  -- the clauses of `assemble`
  abbrev Assembles : Assembler → Reply Laid → List ℕ → List ℕ → Type 0
  Assembles c reply table' result' =
      (reply ≡ (of c).reply)
      × ((table' ≡ (of c).table)
      × ((result' ≡ (of c).result)
      × (Demand3 words_per_section (store_of c bytes words) (length table) result position reply table' result'
      × (CodePushes words_per_section (store_of c bytes words) position reply table' result'
      × (AssemblesWithin words_per_section (store_of c bytes words) (length table) result position reply
      × AssemblesLeast words_per_section (store_of c bytes words) reply table')))))

  pub assembled_packs : (counts : Assembler) (reply : Reply Laid) → reply ≡ (of counts).reply → AssembledPacks reply
  assembled_packs counts reply made = subst AssembledPacks (sym made) (assembly_packs words_per_section (store_of counts bytes words) (length table) result position)

  pub assembled_all : (state : ℕ) (counts : Assembler) → counts ≡ counts_in state → (reply : Reply Laid) (table' result' : List ℕ)
      → Assembles counts reply table' result' → {r : ℕ} → r ≡ assembled_number reply
      → (r ≡ assembled_number (of (counts_in state)).reply)
      × ((table' ≡ (of (counts_in state)).table)
      × ((result' ≡ (of (counts_in state)).result)
      × (Demand3 words_per_section (store_in state bytes words) (length table) result position (of (counts_in state)).reply table' result'
      × (CodePushes words_per_section (store_in state bytes words) position (of (counts_in state)).reply table' result'
      × (AssemblesWithin words_per_section (store_in state bytes words) (length table) result position (of (counts_in state)).reply
      × AssemblesLeast words_per_section (store_in state bytes words) (of (counts_in state)).reply table')))))
  assembled_all state counts is reply table' result' made e =
      let all = subst (λ (c : Assembler). Assembles c reply table' result') is made in
      let named = subst (λ (x : Reply Laid). Assembles (counts_in state) x table' result') all.0 all in
      (e ∙ ap assembled_number all.0, named.1)

-- ---- settling

module _ (bytes words table : List ℕ) where
  abbrev settled_by : Assembler → Settlement
  settled_by c = settling words_per_section (length table) (store_of c bytes words)

  -- the clauses of `settle`
  abbrev Settles : Assembler → Reply Laid → List ℕ → Type 0
  Settles c reply table' =
      (reply ≡ (settled_by c).reply)
      × ((table' ≡ (settled_by c).table)
      × (SettlesDemand3 words_per_section (store_of c bytes words) (length table) reply table'
      × (SettlesWithin words_per_section (store_of c bytes words) (length table) reply
      × SettlesLeast words_per_section (store_of c bytes words) reply table')))

  pub settled_packs : (counts : Assembler) (reply : Reply Laid) → reply ≡ (settled_by counts).reply → AssembledPacks reply
  settled_packs counts reply made = subst AssembledPacks (sym made) (settling_packs words_per_section (store_of counts bytes words) (length table))

  pub settled_all : (state : ℕ) (counts : Assembler) → counts ≡ counts_in state → (reply : Reply Laid) (table' : List ℕ)
      → Settles counts reply table' → {r : ℕ} → r ≡ assembled_number reply
      → (r ≡ assembled_number (settled_by (counts_in state)).reply)
      × ((table' ≡ (settled_by (counts_in state)).table)
      × (SettlesDemand3 words_per_section (store_in state bytes words) (length table) (settled_by (counts_in state)).reply table'
      × (SettlesWithin words_per_section (store_in state bytes words) (length table) (settled_by (counts_in state)).reply
      × SettlesLeast words_per_section (store_in state bytes words) (settled_by (counts_in state)).reply table')))
  settled_all state counts is reply table' made e =
      let all = subst (λ (c : Assembler). Settles c reply table') is made in
      let named = subst (λ (x : Reply Laid). Settles (counts_in state) x table') all.0 all in
      (e ∙ ap assembled_number all.0, named.1)

-- ---- the write

module _ (bytes words table result : List ℕ) (position : ℕ) where
  abbrev written_by : Assembler → WriteOutcome
  written_by c = write_by words_per_section (store_of c bytes words) table result position

  -- the clauses of `write`
  abbrev Writes : Assembler → Reply Laid → List ℕ → Type 0
  Writes c reply result' =
      (reply ≡ (written_by c).reply)
      × ((result' ≡ (written_by c).result)
      × (WritesDemand3 words_per_section (store_of c bytes words) table result position reply result'
      × (WritesEnough words_per_section (store_of c bytes words) table reply
      × (CodePushes words_per_section (store_of c bytes words) position reply table result'
      × (WritesWithin words_per_section (store_of c bytes words) table result position reply
      × WritesLeast words_per_section (store_of c bytes words) table reply)))))

  pub wrote_packs : (counts : Assembler) (reply : Reply Laid) → reply ≡ (written_by counts).reply → AssembledPacks reply
  wrote_packs counts reply made = subst AssembledPacks (sym made) (write_packs words_per_section (store_of counts bytes words) table result position)

  pub wrote_all : (state : ℕ) (counts : Assembler) → counts ≡ counts_in state → (reply : Reply Laid) (result' : List ℕ)
      → Writes counts reply result' → {r : ℕ} → r ≡ assembled_number reply
      → (r ≡ assembled_number (written_by (counts_in state)).reply)
      × ((result' ≡ (written_by (counts_in state)).result)
      × (WritesDemand3 words_per_section (store_in state bytes words) table result position (written_by (counts_in state)).reply result'
      × (WritesEnough words_per_section (store_in state bytes words) table (written_by (counts_in state)).reply
      × (CodePushes words_per_section (store_in state bytes words) position (written_by (counts_in state)).reply table result'
      × (WritesWithin words_per_section (store_in state bytes words) table result position (written_by (counts_in state)).reply
      × WritesLeast words_per_section (store_in state bytes words) table (written_by (counts_in state)).reply)))))
  wrote_all state counts is reply result' made e =
      let all = subst (λ (c : Assembler). Writes c reply result') is made in
      let named = subst (λ (x : Reply Laid). Writes (counts_in state) x result') all.0 all in
      (e ∙ ap assembled_number all.0, named.1)

-- ---- listings

module _ (bytes words text : List ℕ) where
  pub listed_packs : (counts : Assembler) (reply : Reply ℕ) → reply ≡ listing_reply words_per_section (store_of counts bytes words) text → ListedPacks reply
  listed_packs counts reply made = subst ListedPacks (sym made) (listing_packs words_per_section (store_of counts bytes words) text)

  -- the clauses of `write_asm`
  abbrev Lists : Assembler → ℕ → List ℕ → Type 0
  Lists c r text' =
      (r ≡ listed_number (listing_reply words_per_section (store_of c bytes words) text)) × (text' ≡ listing_buffer words_per_section (store_of c bytes words) text)

  pub listed_all : (state : ℕ) (counts : Assembler) → counts ≡ counts_in state → (reply : Reply ℕ) (text' : List ℕ)
      → (reply ≡ listing_reply words_per_section (store_of counts bytes words) text) × (text' ≡ listing_buffer words_per_section (store_of counts bytes words) text)
      → {r : ℕ} → r ≡ listed_number reply → Lists (counts_in state) r text'
  listed_all state counts is reply text' made {r} e = subst (λ (c : Assembler). Lists c r text') is (e ∙ ap listed_number made.0, made.1)
