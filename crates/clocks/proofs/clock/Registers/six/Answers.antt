-- Three of each encoder. Assumes nothing.
use Rattle.turbo.specs.Coded.{six}
use Rattle.clocks.proofs.clock.Registers.six.Goals as goal

pub returns : goal.returns
unfolding six
returns c = rw (c.three-first.ensures, c.three-second.ensures)
