-- A list laid over another piece by piece: what a function that lays answers, and how far a loop is that does.
use Rattle.std.specs.Prelude.{◌≡◌, List, ℕ, ◌+◌, length}
use Rattle.lists.specs.Over.{over, Room}

-- what a function that lays p from at on does: it answers the place behind p
abbrev pub Lays : ℕ → List ℕ → List ℕ → List ℕ → ℕ → Type 0
Lays at p old new place = (place ≡ at + length p) × (new ≡ over at p old)

-- goal is being laid over old from `from` on: out is what stands there now, done up to `at`, and rest is what is left to lay
pub record Laying (old : List ℕ) (from : ℕ) (goal out : List ℕ) (at : ℕ) (rest : List ℕ) : Type 0 where
  pub finish : over at rest out ≡ over from goal old
  pub ends : at + length rest ≡ from + length goal
  pub long : length out ≡ length old
  pub room : Room from goal old
