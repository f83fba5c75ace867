-- Taking parts one after another (document 02, K2).
use Rattle.std.specs.Prelude.{◌≡◌, List, [], ◌∷◌, ◌++◌, ℕ}
use Rattle.parts.specs.State.{State, taken}

-- what one call makes of a state: the contract of taking a part
abbrev pub TookPart : List ℕ → State → State → Type 0
TookPart part before after = after ≡ taken before part

-- all bytes of the parts, in order
unfoldable pub joined : List (List ℕ) → List ℕ
joined [] = []
joined (part ∷ parts) = part ++ joined parts

-- and what one call after another makes of it
unfoldable pub TookAll : List (List ℕ) → State → State → Type 0
TookAll [] before after = after ≡ before
TookAll (part ∷ parts) before after = (between : State) × TookPart part before between × TookAll parts between after
