-- The datagram's bits, zero-filled, and then their check. Assumes nothing.
use Rattle.std.proofs.Common.{arith, map-id}
use Rattle.links.proofs.Facts.{sizes}
use Rattle.blocks.specs.Block.{block_of}
use Rattle.block_writer.proofs.make_block.Goals as goal

pub returns : goal.returns
unfolding block_of
returns c = grind (arith, sizes, map-id)
