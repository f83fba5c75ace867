-- The lowest bit of the taps is the clock's. Assumes nothing.
use Rattle.turbo.specs.Encoder.{y0, y1}
use Rattle.encoder.proofs.Number.{byte_cast}
use Rattle.encoder.proofs.Taps.{tap_one}
use Rattle.clocks.proofs.clock.three.Goals as goal

pub returns : goal.returns
returns c =
    let a = c.args in
    let first = tap_one y0 _ _ c.y0.ensures a.register a.u c.one-fed.ensures in
    let second = tap_one y1 _ _ c.y1.ensures a.register a.u c.one-fed.ensures in
    rw (c.from.ensures, byte_cast, c.lowest.ensures, c.lowest-2.ensures, first, second)
