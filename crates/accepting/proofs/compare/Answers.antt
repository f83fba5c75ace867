-- The image is bits, as many as came; read again they are the block's image. Assumes nothing.
use Rattle.std.proofs.Common.{◌≡◌, ◌∙◌, sym, map, arith}
use lib.ListN.{length-map}
use Rattle.lists.proofs.Over.{over-all}
use Rattle.bits.specs.Bits.{byte}
use Rattle.bits.proofs.Bits.{bits-bytes, all_bits-map}
use Rattle.blocks.specs.Block.{image_of}
use Rattle.blocks.proofs.Sound.{length-image}
use Rattle.accepting.proofs.compare.Goals.{After-lay_image}
use Rattle.accepting.proofs.compare.Goals as goal

-- the image takes the whole scratch
laid : (c : After-lay_image) → c.lay_image.new.out ≡ map byte (image_of c.args.came.link.row c.args.u.now)
laid c =
    let row = c.args.came.link.row in
    let image = image_of row c.args.u.now in
    c.lay_image.ensures ∙ over-all _ c.args.image.now (length-map image byte ∙ length-image row c.args.came.link.good c.args.u.now c.requires.0 ∙ sym c.requires.1)

pub differences_up_to-requires : goal.differences_up_to-requires
differences_up_to-requires c = grind (arith, laid (goal.at.differences_up_to-requires c).After-lay_image, all_bits-map)

pub returns : goal.returns
returns c = grind (arith, laid (goal.at.returns c).After-lay_image, bits-bytes)
