use Rattle.std.proofs.Common.{arith}
use Rattle.std.proofs.lemmas.Grind.{common_steps}
use Rattle.turbo.specs.Interleaver.{interleaved_from}
use Rattle.interleaver.specs.Working.Starts.{start_of}
use Rattle.interleaver.proofs.Laid.{rows_more}
use Rattle.interleaver.proofs.Stepping.{good_rows}
use Rattle.interleaver.proofs.interleave.Goals as goal

pub loop-start-init : goal.loop-start-init
unfolding start_of interleaved_from
loop-start-init c = grind (arith, common_steps)

pub loop-start-preserved : goal.loop-start-preserved
unfolding start_of
loop-start-preserved c =
    let at = c.loop-start in
    let b = c.args.block in
    let more = rows_more b.link.row b.link.good b.bits.now at.start at.invariant.is c.next-start.result c.next-start.ensures (omega arith) in
    record { within = grind arith; is = grind arith; laid = more at.v _ (omega arith) at.invariant.laid c.lay_row.ensures _ }

pub returns : goal.returns
unfolding start_of
returns c = grind (arith, common_steps, good_rows)
