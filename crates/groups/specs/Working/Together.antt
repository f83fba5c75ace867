-- The clocks of a group taken together: what they put out, and what the pattern passes on of it.
use Rattle.std.specs.Prelude.{Bool, List, [], ◌∷◌, ◌++◌, ℕ, suc}
use Rattle.links.specs.Patterns.{flags_at}
use Rattle.turbo.specs.Encoder.{Register, next}
use Rattle.turbo.specs.Coded.{six, passed}

-- the six of each clock
unfoldable pub sixes : Register → Register → List Bool → List Bool → List (List Bool)
sixes a b [] v = []
sixes a b (x ∷ u) [] = []
sixes a b (x ∷ u) (y ∷ v) = six a b x y ∷ sixes (next a x) (next b y) u v

-- what the clocks from s on pass on of their sixes
unfoldable pub passed_from : {A : Type 0} → List (List ℕ) → ℕ → List (List A) → List A
passed_from pattern s [] = []
passed_from pattern s (xs ∷ rest) = passed (flags_at pattern s) xs ++ passed_from pattern (suc s) rest
