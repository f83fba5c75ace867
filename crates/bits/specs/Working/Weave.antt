-- Rows of bits with others between them: how the bits of a block stand in its coded bits.
use Rattle.std.specs.Prelude.{Bool, List, [], ◌∷◌, ◌++◌}

-- clock by clock X and then the parity bits that the clock passes on, then the tail
unfoldable pub weave : List Bool → List (List Bool) → List Bool → List Bool
weave [] parity tail = tail
weave (x ∷ xs) [] tail = x ∷ weave xs [] tail
weave (x ∷ xs) (passed ∷ parity) tail = x ∷ passed ++ weave xs parity tail
