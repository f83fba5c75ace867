-- Mark by mark: the search from here on is the whole search. Assumes nothing.
use mathlib.Core.Path.{◌≡◌}
use Prim.Native.Nat.{◌-◌, ◌≤◌}
use Rattle.check32.specs.Working.Marks.{mark, first_mark, bits_after}
use Rattle.check32.proofs.bits_after.Given as goal

abbrev pub invariant-loop-n : goal.invariant-loop-n
invariant-loop-n l = (l.n ≤ l.k) × (l.mark ≡ mark l.n) × (first_mark l.register l.n (l.k - l.n) ≡ bits_after l.register l.k)
