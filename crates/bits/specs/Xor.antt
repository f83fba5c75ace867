-- Exclusive or: of two numbers digit by digit, of two rows bit by bit.
use Rattle.std.specs.Prelude.{Bool, List, [], ◌∷◌, ℕ}
use Rattle.std.specs.Bool.{xor}
use Rattle.std.specs.Int.Bits.{bit_xor}

infixl 60 ◌⊕◌
-- of two numbers; shut, so that a literal operand does not unfold digit by digit in a goal
unfoldable pub ◌⊕◌ : ℕ → ℕ → ℕ
a ⊕ b = bit_xor a b

-- of two rows, as far as both go
unfoldable pub xor_rows : List Bool → List Bool → List Bool
xor_rows [] ys = []
xor_rows (x ∷ xs) [] = []
xor_rows (x ∷ xs) (y ∷ ys) = xor x y ∷ xor_rows xs ys
