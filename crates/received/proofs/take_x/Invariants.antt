-- Clock by clock.
use Rattle.received.proofs.Taking.{Taking}
use Rattle.received.proofs.take_x.Given as goal

abbrev pub invariant-loop-bit : goal.invariant-loop-bit
invariant-loop-bit l = Taking l.fn.link.row l.coded l.at l.clock l.bit-index l.bit-items
