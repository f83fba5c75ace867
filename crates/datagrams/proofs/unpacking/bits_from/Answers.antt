-- A shift picks the bits of two bytes. Assumes nothing.
use native.Mathlib.Omega.{arith}
use Rattle.datagrams.proofs.Unpacked.{bits_picked}
use Rattle.datagrams.proofs.unpacking.bits_from.Goals as goal

pub returns : goal.returns
returns c =
    let a = c.args in
    rw (c.datagram_byte-high.ensures.0, c.datagram_byte-low.ensures.0) (bits_picked a.datagram.now a.i (omega (arith, c.datagram_byte-low.ensures)) a.count c.requires)
