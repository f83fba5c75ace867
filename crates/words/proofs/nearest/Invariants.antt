-- Number by number: the search from here on is the whole search. Assumes nothing.
use mathlib.Core.Path.{◌≡◌}
use Prim.Native.Nat.{◌-◌, ◌≤◌}
use Rattle.words.specs.Calls.{first_near}
use Rattle.words.proofs.nearest.Given as goal

abbrev pub invariant-loop-number : goal.invariant-loop-number
invariant-loop-number l = (l.number ≤ 64) × (first_near l.came l.number (64 - l.number) ≡ first_near l.came 0 64)
