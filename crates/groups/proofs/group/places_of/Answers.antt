use Rattle.std.proofs.Common.{rules}
use Rattle.groups.specs.Working.Group.{places_of}
use Rattle.groups.proofs.group.places_of.Goals as goal

pub returns : goal.returns
unfolding places_of
returns c = search rules
