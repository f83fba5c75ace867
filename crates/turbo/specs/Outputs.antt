-- What one encoder puts out for a row of inputs.
use Rattle.std.specs.Prelude.{Bool, List, [], ◌∷◌}
use Rattle.turbo.specs.Encoder.{Register, next}

-- y is y0 or y1
unfoldable pub outputs : (Register → Bool → Bool) → Register → List Bool → List Bool
outputs y r [] = []
outputs y r (x ∷ u) = y r x ∷ outputs y (next r x) u
