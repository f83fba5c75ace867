-- One list laid over another from some place on: what a function that writes into a lent buffer does to it.
use Rattle.std.specs.Prelude.{List, ◌++◌, ℕ, ◌+◌, ◌≤◌, length, take, drop}

module _ {A : Type 0} where
  -- old with p in the places at, at + 1, ..
  unfoldable pub over : ℕ → List A → List A → List A
  over at p old = take at old ++ p ++ drop (at + length p) old

  -- there is room for p from at on
  abbrev pub Room : ℕ → List A → List A → Type 0
  Room at p old = at + length p ≤ length old
