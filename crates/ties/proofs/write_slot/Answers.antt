-- The export's own relation; and what is lent are bytes. Assumes nothing.
use Rattle.datagrams.proofs.Packed.{bytes-known}
use Rattle.ties.proofs.write_slot.Goals as goal

pub returns : goal.returns
returns c = record {
  wrote = c.decklewren_write_slot.ensures;
  bytes = bytes-known c.args.datagram.now (λ i. (c.type_inv.datagram i).fits);
}
