-- The taps of any number of clocks. Assumes nothing.
use Rattle.turbo.specs.Encoder.{y1}
use Rattle.encoder.proofs.Taps.{taps, taps1, shifts_y1}
use Rattle.encoder.proofs.y1.Goals as goal

pub returns : goal.returns
returns c = taps y1 taps1 shifts_y1 c.args.fed
