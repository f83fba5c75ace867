-- Patterns and tails as the code's table keeps them: in arrays of one length.
use Rattle.std.specs.Prelude.{List, ◌++◌, ℕ, ◌-◌, length, replicate}
use Rattle.links.specs.Patterns.{flags}

-- clocks in an array of n, with clocks that pass nothing behind them
unfoldable pub padded : ℕ → List (List ℕ) → List (List ℕ)
padded n clocks = clocks ++ replicate (n - length clocks) (flags 0 0 0 0 0 0)
