-- What demand 3 says of a link word: one of the 64 words is within seven places of what came.
use Rattle.std.specs.Prelude.{◌≡◌, Bool, List, ℕ, ◌<◌, ◌≤◌}
use Rattle.bits.specs.Row.{differences}
use Rattle.words.specs.Word.{word_bits}

-- the word of n is within seven places of a row, and differs from it in exactly `wrong`
pub record Near (row : List Bool) (n wrong : ℕ) : Type 0 where
  pub known : n < 64
  pub count : differences (word_bits n) row ≡ wrong
  pub within : wrong ≤ 7
