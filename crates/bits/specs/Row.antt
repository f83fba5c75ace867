-- Rows of bits, as numbers and against each other.
use Rattle.std.specs.Prelude.{Bool, true, false, not, List, [], ◌∷◌, ℕ, zero, suc, ◌+◌, ◌*◌, ◌/◌, ◌%◌, ◌^◌, length}
use Rattle.bits.specs.Bits.{is_one, byte}

-- the n lowest binary digits of a number, the highest of them first
unfoldable pub high_first : ℕ → ℕ → List Bool
high_first zero w = []
high_first (suc n) w = is_one (w / 2 ^ n % 2) ∷ high_first n w

-- a number with a row of bits written behind its digits
unfoldable pub number_on : ℕ → List Bool → ℕ
number_on w [] = w
number_on w (b ∷ row) = number_on (w * 2 + byte b) row

-- the number that a row of bits makes, the first the highest
abbrev pub number : List Bool → ℕ
number row = number_on 0 row

-- 1 where two bits differ
abbrev pub differ : Bool → Bool → ℕ
differ true true = 0
differ true false = 1
differ false true = 1
differ false false = 0

-- in how many places two rows differ; places that only one of them has count too
unfoldable pub differences : List Bool → List Bool → ℕ
differences [] ys = length ys
differences (x ∷ xs) [] = suc (length xs)
differences (x ∷ xs) (y ∷ ys) = differ x y + differences xs ys

-- a row with the bit at one place inverted
unfoldable pub flip : ℕ → List Bool → List Bool
flip i [] = []
flip zero (b ∷ row) = not b ∷ row
flip (suc i) (b ∷ row) = b ∷ flip i row
