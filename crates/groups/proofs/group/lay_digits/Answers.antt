use Rattle.std.proofs.Common.{add_assoc, arith}
use Rattle.lists.proofs.Over.{more, done}
use Rattle.lists.proofs.Parts.{map_more, map-done}
use Rattle.groups.specs.Working.Group.{digit}
use Rattle.groups.proofs.group.lay_digits.Goals as goal

pub loop-i-preserved : goal.loop-i-preserved
loop-i-preserved c =
    let a = c.args in
    let l = c.loop-i in
    rw (c.digit.ensures, ← add_assoc) (more _ _ l.invariant (map_more (digit a.all) a.places.now 0 l.i (omega arith)))

pub returns : goal.returns
returns c =
    let a = c.args in
    let l = c.loop-i in
    let end = done l.invariant (map-done (digit a.all) a.places.now l.i (omega arith)) in
    (omega arith, end.1)
