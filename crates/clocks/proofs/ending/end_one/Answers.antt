use mathlib.Core.Path.{refl}
use native.Mathlib.Omega.{arith}
use Rattle.lists.proofs.Over.{more_piece, fits_piece, done}
use Rattle.clocks.proofs.Left.{ending_more, ending-done}
use Rattle.clocks.proofs.ending.end_one.Goals as goal

pub lay-to-requires : goal.lay-to-requires
lay-to-requires c =
    let a = c.args in
    let l = c.loop-flags in
    rw c.alone.ensures (fits_piece _ _ l.invariant (ending_more a.second a.clocks l.flags-index l.r (omega arith) refl))

pub loop-flags-preserved : goal.loop-flags-preserved
loop-flags-preserved c =
    let a = c.args in
    let l = c.loop-flags in
    more_piece _ _ l.invariant (ending_more a.second a.clocks l.flags-index l.r (omega arith) c.wound-r.ensures) (rw c.alone.ensures at c.lay-to.ensures)

pub returns : goal.returns
returns c =
    let a = c.args in
    let l = c.loop-flags in
    done l.invariant (ending-done a.second a.clocks l.flags-index l.r (omega arith))
