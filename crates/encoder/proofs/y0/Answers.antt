-- The taps of any number of clocks. Assumes nothing.
use Rattle.turbo.specs.Encoder.{y0}
use Rattle.encoder.proofs.Taps.{taps, taps0, shifts_y0}
use Rattle.encoder.proofs.y0.Goals as goal

pub returns : goal.returns
returns c = taps y0 taps0 shifts_y0 c.args.fed
