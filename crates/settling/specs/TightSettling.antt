-- Beyond document 01, said of a store and of what settling by a table of length n answers and leaves: up to 1,022 unsized references it
-- decides whether some layout gives enough, and whatever their count what it settles is the least. `Decides` and `SaysLeast` are in
-- layout/specs/Tight; the proofs are in proofs/TightSettling. Assumes nothing.
use Rattle.std.specs.Prelude.{ℕ, ◌≤◌, ◌≡◌, List}
use Rattle.units.specs.Reply.{Reply}
use Rattle.records.specs.Store.{Store}
use Rattle.records.specs.Damage.{whole_soundness}
use Rattle.records.specs.Sections.{decode}
use Rattle.records.specs.Damage.{Sound}
use Rattle.layout.specs.Conditions.{Never, delta_at}
use Rattle.layout.specs.Shortest.{settled_layout}
use Rattle.layout.specs.Answer.{Laid}
use Rattle.layout.specs.Tight.{unsized_count, most_unsized, PlainSections, Decides, SaysLeast}

-- demand 3's premises on the store, with A + B at most 1,022 for its bound on the counts
pub record FewUnsized (w : ℕ) (st : Store) (n : ℕ) : Type 0 where
  pub undamaged : whole_soundness w st ≡ Sound
  pub plain : PlainSections n (decode w st)
  pub few : unsized_count (decode w st) ≤ most_unsized

-- then: laid out or 10, within A + B + 2 passes
abbrev pub SettlesWithin : ℕ → Store → ℕ → Reply Laid → Type 0
SettlesWithin w st n reply = FewUnsized w st n → Decides (decode w st) reply

-- where every reference is direct: laid out, the table is the least layout; 10, there is none
abbrev pub SettlesLeast : ℕ → Store → Reply Laid → List ℕ → Type 0
SettlesLeast w st reply table' =
    Never (decode w st) (delta_at (decode w st)) → SaysLeast (decode w st) reply (settled_layout table' (decode w st))
