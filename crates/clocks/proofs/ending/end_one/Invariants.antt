-- Clock by clock: the ending from here on, with the register r, is left to lay. Assumes nothing.
use mathlib.Core.List.{map}
use lib.ListN.{drop}
use Rattle.lists.specs.Working.Laying.{Laying}
use Rattle.bits.specs.Bits.{byte}
use Rattle.turbo.specs.Coded.{ending_of}
use Rattle.clocks.proofs.ending.end_one.Given as goal

abbrev pub invariant-loop-flags : goal.invariant-loop-flags
invariant-loop-flags l =
    Laying l.initial.out l.at (map byte (ending_of l.second l.fn.clocks l.fn.register)) l.out l.to (map byte (ending_of l.second (drop l.flags-index l.fn.clocks) l.r))
