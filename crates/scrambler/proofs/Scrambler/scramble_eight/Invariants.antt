-- Byte by byte: so many bytes are scrambled, and the lowest digit of the sums is the next bit of the sequence. Assumes nothing.
use mathlib.Core.Path.{◌≡◌}
use Prim.Native.Nat.{◌/◌, ◌^◌}
use Rattle.scrambler.specs.Working.Scrambles.{Scrambles}
use Rattle.scrambler.proofs.Ahead.{sums, ahead}
use Rattle.scrambler.proofs.Scrambler.scramble_eight.Given as goal

abbrev pub invariant-loop-byte : goal.invariant-loop-byte
invariant-loop-byte l =
    let register = l.fn.self.register in
    (l.sums ≡ sums register / 2 ^ l.byte-index) × Scrambles register l.byte-index l.fn.group l.byte-items (ahead register l.byte-index)
