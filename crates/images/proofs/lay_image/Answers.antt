-- The coded bits, and then the scrambler over all of them, at the buffer's start. Assumes nothing.
use Rattle.std.proofs.Common.{◌≡◌, ◌∙◌, sym, length, map}
use lib.ListN.{length-map}
use Rattle.lists.proofs.Over.{over_zero}
use Rattle.bits.specs.Bits.{byte}
use Rattle.blocks.specs.Block.{image_of}
use Rattle.blocks.proofs.Sound.{length-image}
use Rattle.images.proofs.Composed.{image_composed}
use Rattle.images.proofs.lay_image.Goals as goal

pub returns : goal.returns
returns c =
    let b = c.args.block in
    let image = image_of b.link.row b.bits.now in
    let long : length (map byte image) ≡ b.link.size = length-map image byte ∙ length-image b.link.row b.link.good b.bits.now b.whole ∙ sym b.link.sized in
    rw (over_zero, long, image_composed b.link.row b.bits.now c.lay_coded.ensures c.load.ensures c.scramble.ensures)
