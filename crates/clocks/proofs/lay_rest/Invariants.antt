-- Clock by clock: from this clock on, with these registers and what is left of the inputs, is left to lay. Assumes nothing.
use mathlib.Core.Path.{◌≡◌}
use mathlib.Core.List.{map}
use Prim.Native.Nat.{◌%◌}
use lib.ListN.{length}
use Rattle.std.specs.Iterator.Adapters.{zip_first, zip_second}
use Rattle.std.specs.Slice.Iter.{iter_rest}
use Rattle.lists.specs.Working.Laying.{Laying}
use Rattle.bits.specs.Bits.{byte}
use Rattle.links.specs.Working.Clocks.{clocks_of}
use Rattle.turbo.specs.Coded.{coded_from}
use Rattle.clocks.proofs.lay_rest.Given as goal

abbrev pub invariant-loop-u : goal.invariant-loop-u
invariant-loop-u l =
    (l.clock ≡ length l.yielded % length (clocks_of l.fn.flags))
    × Laying l.initial.out l.at
    (map byte (coded_from (clocks_of l.fn.flags) l.fn.flags.tail 0 l.initial.registers.a l.initial.registers.b l.fn.rest.u.now l.fn.rest.v.now))
    l.out l.to
    (map byte (coded_from (clocks_of l.fn.flags) l.fn.flags.tail (length l.yielded) l.registers.a l.registers.b (iter_rest (zip_first l.u-iterator)) (iter_rest (zip_second l.u-iterator))))
