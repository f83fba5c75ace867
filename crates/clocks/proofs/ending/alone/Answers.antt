-- An encoder that stands at zero and is fed zero puts out zeros. Assumes nothing.
use mathlib.Core.Bool.{xor}
use Rattle.turbo.specs.Coded.{six, alone}
use Rattle.clocks.proofs.ending.alone.Goals as goal

pub returns-then-second : goal.returns-then-second
unfolding six alone xor
returns-then-second c = rw (c.if-second.true) (rw (c.feedback-fed.ensures, c.start-start.ensures) at c.six.ensures)

pub returns : goal.returns
unfolding six alone xor
returns c = rw (c.if-second.false) (rw (c.feedback-fed.ensures, c.start-start.ensures) at c.six-2.ensures)
