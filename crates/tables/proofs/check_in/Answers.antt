-- The walk, 7 from where it stopped, 8, 17 or 18 by the map of all marks placed, then what the walk found: a 16 or a 10 (or a 9 before it),
-- else 12. Assumes nothing.
use Prim.Native.Nat.{◌≤◌}
use mathlib.Core.Path.{◌≡◌, ap, ◌∙◌}
use borrow.Author.Rules.{rules}
use native.Mathlib.Nat.{le_refl}
use Rattle.std.proofs.Common.{unwrap_or, length}
use Rattle.std.specs.Result.{result_err}
use Rattle.layout.specs.Conditions.{short_at}
use Rattle.slices.proofs.First.{NoneBefore}
use Rattle.settling.specs.SectionWalk.{sections_in}
use Rattle.tables.specs.MarkMap.{Marked}
use Rattle.settling.proofs.Sections.{sections_count}
use Rattle.tables.proofs.Checks.{walked, none_wrong, is_short, is-backward, is-agreed}
use Rattle.tables.proofs.check_in.Given.{Over}
use Rattle.tables.proofs.check_in.Goals as goal
use Rattle.tables.proofs.check_in.Goals.{After-unwrap_or-stopped}

-- where the walk stopped
stop : (g : Over) (c : goal.After-unwrap_or-stopped g)
    → let ss = sections_in c.args.store in
    (c.unwrap_or-stopped.result ≤ c.args.store.counts.sections) × NoneBefore (short_at (length c.args.table.now) ss) c.unwrap_or-stopped.result
    × Marked ss c.unwrap_or-stopped.result c.compare-compared.new.map.bits
stop g c =
    let ss = sections_in c.args.store in
    let is : c.unwrap_or-stopped.result ≡ unwrap_or (result_err c.compare-compared.result) c.args.store.counts.sections =
    c.unwrap_or-stopped.ensures ∙ ap (λ o. unwrap_or o c.args.store.counts.sections) c.err.ensures.value in
    rw is (walked c.args.table.now ss c.compare-compared.new.map.bits c.compare-compared.result c.args.store.counts.sections (sections_count c.args.store) c.compare-compared.ensures)

pub first_short-requires : goal.first_short-requires
first_short-requires g c = (stop g (goal.at.first_short-requires g c).After-unwrap_or-stopped).1

pub returns-in-Some : goal.returns-in-Some
returns-in-Some g c = is_short c.args.table.now _ _ c.in-Some.ensures

pub put_marks-requires : goal.put_marks-requires
put_marks-requires g c =
    let at = stop g (goal.at.put_marks-requires g c).After-unwrap_or-stopped in
    (search rules, (search rules, ((at.0, le_refl _), at.2)))

pub returns-in-Some-backward : goal.returns-in-Some-backward
returns-in-Some-backward g c =
    let ss = sections_in c.args.store in
    let (stops, marked, sum, found) = c.in-Ok.ensures in
    is-backward c.args.table.now ss c.in_default.ensures c.in_default-first_unplaced.ensures (none_wrong _ _ stops) _ (rw c.in-Some-backward.is at found)

pub returns : goal.returns
returns g c =
    let ss = sections_in c.args.store in
    let (stops, marked, sum, found) = c.in-Ok.ensures in
    is-agreed c.args.table.now ss c.in_default.ensures c.in_default-first_unplaced.ensures (none_wrong _ _ stops) _ sum (rw c.in_default-backward.is at found)
