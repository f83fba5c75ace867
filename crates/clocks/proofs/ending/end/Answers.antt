-- The second encoder's ending behind the first's. Assumes nothing.
use Rattle.std.proofs.Common.{rules}
use Rattle.lists.proofs.Over.{first_fits, second_fits, both-laid}
use Rattle.clocks.proofs.Left.{ending-six}
use Rattle.clocks.proofs.ending.end.Goals as goal

pub end_one-to-requires : goal.end_one-to-requires
end_one-to-requires c =
    let a = c.args in
    let both = ending-six a.flags.tail (search rules) a.registers.a a.registers.b in
    first_fits a.at _ _ a.out.now both c.requires

pub end_one-requires : goal.end_one-requires
end_one-requires c =
    let a = c.args in
    let both = ending-six a.flags.tail (search rules) a.registers.a a.registers.b in
    second_fits a.at _ _ a.out.now both c.requires c.end_one-to.ensures

pub returns : goal.returns
returns c =
    let a = c.args in
    let both = ending-six a.flags.tail (search rules) a.registers.a a.registers.b in
    both-laid a.at _ _ a.out.now both c.requires c.end_one-to.ensures c.end_one.ensures
