use Rattle.std.proofs.Common.{rules}
use Rattle.groups.specs.Working.Group.{digit}
use Rattle.groups.proofs.group.digit.Goals as goal

pub returns : goal.returns
unfolding digit
returns c = search rules
