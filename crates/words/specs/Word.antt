-- Link words (M.2092-1, Annex 2, 1.2.3.4): the code word of a number, and how far two words are apart.
use Rattle.std.specs.Prelude.{Bool, cond, List, [], ◌∷◌, ℕ, ◌/◌, ◌%◌, ◌^◌, eqb, length}
use Rattle.std.specs.Int.Bits.{bit_xor}
use Rattle.std.specs.Int.Count.{ones}
use Rattle.bits.specs.Row.{high_first}

-- Table 2, the rows as printed, D0 first
unfoldable pub generator : List ℕ
generator =
    0b10_00_00_10_11_10_10_01_11_10_10_01_10_01_01_10
    ∷ 0b01_00_00_01_11_01_01_01_11_01_01_01_01_01_01_01
    ∷ 0b00_10_00_11_10_11_00_11_00_11_00_11_00_11_00_11
    ∷ 0b00_01_00_11_00_00_11_11_10_00_11_11_00_00_11_11
    ∷ 0b00_00_10_00_01_11_11_11_00_00_00_00_11_11_11_11
    ∷ 0b00_00_01_00_00_00_00_00_01_11_11_11_11_11_11_11
    ∷ []

-- the scrambling word, printed under Table 2
abbrev pub scrambling : ℕ
scrambling = 0b11000010111000101000111001001111

-- a word, and the rows of a number's set bits added to it bit by bit; the first row is that of the highest bit
unfoldable pub with_rows : ℕ → ℕ → List ℕ → ℕ
with_rows number word [] = word
with_rows number word (row ∷ rows) = with_rows number (cond (eqb (number / 2 ^ length rows % 2) 1) (bit_xor word row) word) rows

-- the code word of a number 0 to 63
unfoldable pub word_of : ℕ → ℕ
word_of number = with_rows number scrambling generator

-- its 32 bits in the order in which they are sent
abbrev pub word_bits : ℕ → List Bool
word_bits number = high_first 32 (word_of number)

-- in how many places two words differ
abbrev pub distance : ℕ → ℕ → ℕ
distance a b = ones (bit_xor a b)
