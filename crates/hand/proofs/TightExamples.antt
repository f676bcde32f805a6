-- Two lists that compute: the least that takes one pass more than A + B + 1, and one that is never settled, as its mark has a byte between
-- its placings. Assumes nothing.
use Prim.Native.Nat.{ℕ}
use mathlib.Core.Path.{◌≡◌, refl}
use mathlib.Core.List.{List, [], ◌∷◌}
use lib.ListN.{replicate}
use Rattle.units.specs.Numbers.{held_bytes}
use Rattle.units.specs.Reference.{unsized_pushed, least_size, size, too_narrow}
use Rattle.units.specs.declared.MarkReference.TheVariants.{Direct}
use Rattle.records.specs.Sections.{Section, mark, bytes, reference}
use Rattle.layout.specs.Passes.{start_from, start, walk_from, pass, settled, unsettled, passes, settle}

-- an unsized pushed reference to mark m
abbrev pushed_to : ℕ → Section
pushed_to m = reference (unsized_pushed (Direct (record { 0 = m })))

-- two references, four passes
abbrev two : List Section
two = pushed_to 0 ∷ pushed_to 1 ∷ bytes (replicate 251 0) ∷ mark 1 ∷ bytes (0 ∷ []) ∷ mark 0 ∷ []

pub two_take_four : settle 2 two ≡ settled (258 ∷ 257 ∷ []) 258 4
unfolding settle passes pass walk_from start start_from least_size size too_narrow held_bytes
two_take_four = refl

-- no reference at all, but a byte between two placings: 11
pub apart_unsettled : settle 1 (mark 0 ∷ bytes (0 ∷ []) ∷ mark 0 ∷ []) ≡ unsettled
unfolding settle passes pass walk_from start start_from
apart_unsettled = refl
