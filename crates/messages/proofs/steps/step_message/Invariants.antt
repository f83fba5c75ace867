-- Past the end, or turn after turn: a step from the place that is come to answers what a step from the position does. Assumes nothing.
use mathlib.Core.Path.{◌≡◌}
use Prim.Native.Nat.{◌-◌}
use lib.ListN.{length}
use Rattle.messages.specs.Step.{step_from}
use Rattle.messages.proofs.steps.step_message.Given as goal

abbrev pub invariant-loop-outcome : goal.invariant-loop-outcome
invariant-loop-outcome l = step_from l.datagram l.place ≡ step_from l.datagram l.position

abbrev pub decreases-loop-outcome : goal.decreases-loop-outcome
decreases-loop-outcome l = length l.datagram - l.place
