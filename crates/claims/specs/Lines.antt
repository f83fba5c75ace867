-- The lines of document 01's table of numbers, in the order in which a call tests them.
use Rattle.std.specs.Prelude.{◌≡◌, ◌⊎◌, ℕ}
use Rattle.answers.specs.Numbers.{done}

-- a line: its number, when it applies, and the lines behind it
pub data Lines : Type 1 where
  none : Lines
  line : ℕ → Type 0 → Lines → Lines

-- the number answered is that of the first line that applies, and 0 where none does
unfoldable pub Given : Lines → ℕ → Type 0
Given none answered = answered ≡ done
Given (line number applies behind) answered = (applies × (answered ≡ number)) ⊎ ((applies → ⊥) × Given behind answered)
