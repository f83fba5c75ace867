-- Eight clocks at a time, and the rest clock by clock: so many bytes are scrambled. Assumes nothing.
use mathlib.Core.Path.{◌≡◌}
use Prim.Native.Nat.{◌%◌, ◌≤◌}
use Rattle.scrambler.specs.Working.Scrambles.{Scrambles}
use Rattle.scrambler.proofs.Scrambler.scramble.Given as goal

abbrev pub invariant-loop-at : goal.invariant-loop-at
invariant-loop-at l = (l.at ≤ l.whole) × (l.at % 8 ≡ 0) × Scrambles l.fn.self.register l.at l.fn.out l.out l.self.register

abbrev pub invariant-loop-byte : goal.invariant-loop-byte
invariant-loop-byte l = Scrambles l.initial.self.register l.byte-index l.initial.byte-items l.byte-items l.self.register
