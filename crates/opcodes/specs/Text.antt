-- Text as bytes: what a text's literal stands for in a byte slice. Assumes nothing.
use Rattle.std.specs.Prelude.{ℕ, List, [], ◌∷◌}
use Prim.Native.Char.{code}
use Prim.Native.String.{String, [] as []ˢ, ◌∷◌ as ◌∷ˢ◌}

-- the bytes of a text, its characters' codes (every text here is ASCII)
unfoldable pub as_bytes : String → List ℕ
as_bytes []ˢ = []
as_bytes (c ∷ˢ s) = code c ∷ as_bytes s
