-- The step and the fill call each other, and the turns left fall, which bounds the depth of the calls. Assumes nothing.
use Prim.Native.Nat.{◌+◌, ◌*◌}
use Rattle.messages.proofs.steps.+fill_at_step_at.Given as goal

-- the measure is twice the turns left, and one more for the step, which hands a fill byte over before a turn is used up
abbrev pub decreases-fill_at : goal.decreases-fill_at
decreases-fill_at l = 2 * l.turns

abbrev pub decreases-step_at : goal.decreases-step_at
decreases-step_at l = 2 * l.turns + 1
