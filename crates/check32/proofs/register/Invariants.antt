-- Byte by byte, and the rest bit by bit: the register so far and the bits that are left give what the whole row gives. Assumes nothing.
use mathlib.Core.Path.{◌≡◌}
use mathlib.Core.List.{map}
use lib.ListN.{length, drop}
use Rattle.check32.specs.Check.{register_from}
use Rattle.check32.proofs.register.Given as goal

abbrev pub invariant-loop-byte : goal.invariant-loop-byte
invariant-loop-byte g l = register_from l.r (map g.B.Bit.value l.rest) ≡ register_from l.from (map g.B.Bit.value l.bits)

abbrev pub decreases-loop-byte : goal.decreases-loop-byte
decreases-loop-byte g l = length l.rest

abbrev pub invariant-loop-bit : goal.invariant-loop-bit
invariant-loop-bit g l = register_from l.r (drop l.bit-index (map g.B.Bit.value l.bit-items)) ≡ register_from l.from (map g.B.Bit.value l.bits)
