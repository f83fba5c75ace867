-- What is still to lay, laid over what stands there now, gives the whole.
use Rattle.std.proofs.Common.{◌≡◌, ◌-◌, ◌*◌, ◌≤◌, map, length}
use Rattle.datagrams.specs.Working.Packed.{packed_over}
use Rattle.datagrams.proofs.packing.pack_from.Given as goal

abbrev pub invariant-loop-byte : goal.invariant-loop-byte
invariant-loop-byte g l =
    let value = g.B.Bit.value in
    (length l.rest ≤ length l.out * 8 - l.at * 8) × (packed_over (l.at * 8) (map value l.rest) l.out ≡ packed_over (l.j * 8) (map value l.row) l.initial.out)

abbrev pub decreases-loop-byte : goal.decreases-loop-byte
decreases-loop-byte g l = length l.rest
