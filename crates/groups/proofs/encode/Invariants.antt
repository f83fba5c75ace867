-- Group by group: what the clocks that are left put out is left to lay, and the pattern begins again at each group. Assumes nothing.
use Rattle.std.proofs.Common.{map, length}
use Rattle.lists.specs.Working.Laying.{Laying}
use Rattle.bits.specs.Bits.{byte}
use Rattle.links.specs.Working.Clocks.{clocks_of}
use Rattle.turbo.specs.Encoder.{start}
use Rattle.turbo.specs.Coded.{coded_from}
use Rattle.groups.proofs.encode.Given as goal

abbrev pub invariant-loop-places : goal.invariant-loop-places
invariant-loop-places l =
    let pattern = clocks_of l.fn.flags in
    let tail = l.fn.flags.tail in
    Laying l.initial.out 0 (map byte (coded_from pattern tail 0 start start l.inputs.u.now l.inputs.v.now)) l.out l.at (map byte (coded_from pattern tail 0 l.registers.a l.registers.b l.rest.u.now l.rest.v.now))

abbrev pub decreases-loop-places : goal.decreases-loop-places
decreases-loop-places l = length l.rest.u.now
