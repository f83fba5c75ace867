use Rattle.std.proofs.Common.{rules}
use Rattle.bits.specs.Row.{high_first}
use Rattle.bits.proofs.Row.{laid_more}
use Rattle.bits.proofs.lay_bits.Goals as goal

pub loop-cell-init : goal.loop-cell-init
unfolding high_first
loop-cell-init g c = search rules

pub loop-cell-preserved : goal.loop-cell-preserved
loop-cell-preserved g c = (search rules, search (rules, laid_more))
