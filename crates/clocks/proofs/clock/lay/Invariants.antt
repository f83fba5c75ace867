-- Bit by bit: what the flags that are left pass on of the bits that are left is left to lay. Assumes nothing.
use Rattle.std.specs.Iterator.Adapters.{zip_first, zip_second}
use Rattle.std.specs.Slice.Iter.{iter_rest}
use Rattle.lists.specs.Working.Laying.{Laying}
use Rattle.turbo.specs.Coded.{passed}
use Rattle.clocks.proofs.clock.lay.Given as goal

abbrev pub invariant-loop-flag : goal.invariant-loop-flag
invariant-loop-flag l =
    Laying l.initial.out l.at (passed l.fn.flags l.fn.six) l.out l.to (passed (iter_rest (zip_first l.flag-iterator)) (iter_rest (zip_second l.flag-iterator)))
