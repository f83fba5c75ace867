-- The line that the link word printer reads (document 01, "The link word printer").
use Rattle.std.specs.Prelude.{cond, List, [], ◌∷◌, ℕ, eqb}
use Prim.Native.Char.{code}

-- the characters before the newline, or before the end of the input
unfoldable pub line_of : List ℕ → List ℕ
line_of [] = []
line_of (c ∷ input) = cond (eqb c (code "\n")) [] (c ∷ line_of input)

-- the bit that a character stands for: only 0 and 1 are bits, so any other is the byte 2
unfoldable pub bit_of : ℕ → ℕ
bit_of c = cond (eqb c (code "0")) 0 (cond (eqb c (code "1")) 1 2)
