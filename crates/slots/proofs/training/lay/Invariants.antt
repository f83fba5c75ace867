-- The bits so far are the training's.
use Rattle.std.proofs.Common.{◌≡◌, map, take}
use Rattle.bits.specs.Bits.{byte}
use Rattle.slots.specs.Burst.{training}
use Rattle.slots.proofs.training.lay.Given as goal

abbrev pub invariant-loop-i : goal.invariant-loop-i
invariant-loop-i l = take l.i l.bits ≡ take l.i (map byte training)
