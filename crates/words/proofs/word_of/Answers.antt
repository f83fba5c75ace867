use Rattle.std.proofs.Common.{refl, rules}
use Rattle.words.specs.Word.{generator, word_of}
use Rattle.words.proofs.word_of.Goals as goal

pub loop-row-init : goal.loop-row-init
unfolding generator word_of
loop-row-init c = (search rules, refl)
