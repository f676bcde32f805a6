-- One part found again in what was written, bytes in a row. Assumes nothing.
use Prim.Native.Nat.{ℕ, zero, suc, ◌+◌, ◌<◌}
use native.Mathlib.Omega.{arith}
use mathlib.Core.Path.{◌≡◌, refl, sym, ◌∙◌, ap}
use mathlib.Core.List.{List, [], ◌∷◌, ◌++◌, map, append_assoc}
use lib.ListN.{length, get_or, take, length-append}
use Rattle.layout.specs.Layout.{total}
use Rattle.assembler.specs.Emission.{in_a_row}

-- part j of a row, where the parts before it end
pub row_split : (ps : List (List ℕ)) (j : ℕ) → j < length ps
    → (before : List ℕ) × (after : List ℕ) × (in_a_row ps ≡ before ++ (get_or ps j [] ++ after)) × (length before ≡ total (take j (map length ps)))
unfolding in_a_row total
row_split [] j h = absurd (omega arith)
row_split (p ∷ ps) zero h = ([], in_a_row ps, refl, refl)
row_split (p ∷ ps) (suc j) h =
    let q = row_split ps j (omega arith) in
    (p ++ q.0, q.1, ap (λ (r : List ℕ). p ++ r) q.2 ∙ sym (append_assoc p q.0 (get_or ps j [] ++ q.1)), length-append p q.0 ∙ ap (λ (k : ℕ). length p + k) q.3)
