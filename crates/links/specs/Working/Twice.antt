-- How often the flags of a clock send a bit.
use Rattle.std.specs.Prelude.{List, [], ℕ, ◌≤◌, get_or}

-- no flag of a clock asks for more than two copies
abbrev pub AtMostTwice : List ℕ → Type 0
AtMostTwice flags = (x : ℕ) → get_or flags x 0 ≤ 2

abbrev pub AllAtMostTwice : List (List ℕ) → Type 0
AllAtMostTwice clocks = (c : ℕ) → AtMostTwice (get_or clocks c [])
