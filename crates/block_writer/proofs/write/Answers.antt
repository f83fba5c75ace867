-- The image is as long as the link's size says. Assumes nothing.
use Rattle.std.proofs.Common.{arith}
use Rattle.answers.specs.Task.{write_task}
use Rattle.blocks.proofs.Blocks.{long-image}
use Rattle.block_writer.proofs.write.Goals as goal

pub returns : goal.returns
unfolding write_task
returns c = grind (arith, long-image)
