-- The bits so far, whole eights.
use Rattle.std.proofs.Common.{◌≡◌, ◌%◌, ◌≤◌, map, take, drop}
use Rattle.bits.specs.Datagram.{bits_of, filled}
use Rattle.datagrams.proofs.unpacking.unpack.Given as goal

abbrev pub invariant-loop-at : goal.invariant-loop-at
invariant-loop-at g l = (l.at ≤ l.whole) × (l.at % 8 ≡ 0) × (take l.at l.row ≡ map g.B.Bit.holding (filled l.at (drop l.from (bits_of l.datagram))))
