-- The training, and the link word behind it. Assumes nothing.
use Rattle.slots.proofs.Parts.{head_laid}
use Rattle.slots.proofs.head.lay.Goals as goal

pub returns : goal.returns
returns c = head_laid c.args.link c.args.out.now c.lay.new.out c.lay_bits.new.row c.word_of.result c.requires.1 c.lay.ensures c.word_of.ensures c.lay_bits.ensures
