-- The line before the newline, character by character.
-- Assumes nothing.
use mathlib.Core.Path.{◌≡◌, refl}
use mathlib.Core.Bool.{Bool, not}
use mathlib.Core.List.{List, [], ◌∷◌}
use Prim.Native.Nat.{ℕ, ◌≤◌}
use native.Mathlib.Omega.{arith}
use lib.Dec.{eqb}
use lib.ListN.{length, take}
use Rattle.std.specs.List.{take_while}
use Rattle.std.proofs.lemmas.Bool.Decides.{nat_tests}
use Rattle.std.proofs.lemmas.List.Folds.{length-prefix_len}
use Rattle.std.proofs.lemmas.List.Sums.{take_while-cons, prefix_len-le-length}
use Rattle.printer_text.specs.Line.{line_of}

-- only the newline ends it
abbrev pub in_line : ℕ → Bool
in_line c = not (eqb c 10)

pub line-is : (input : List ℕ) → line_of input ≡ take_while in_line input
unfolding line_of
line-is [] = refl
line-is (c ∷ input) = grind (arith, nat_tests, take_while-cons in_line c input, line-is input)

-- the line is the front of the input
pub line-front : (input : List ℕ) → take (length (line_of input)) input ≡ line_of input
line-front input = simp (line-is, length-prefix_len)

pub line-within : (input : List ℕ) → length (line_of input) ≤ length input
line-within input = simp (line-is, length-prefix_len) (prefix_len-le-length in_line input)
