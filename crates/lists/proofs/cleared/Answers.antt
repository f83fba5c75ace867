use Rattle.std.proofs.Common.{refl}
use Rattle.lists.specs.Working.Cleared.{cleared}
use Rattle.lists.proofs.cleared.Goals as goal

pub returns : goal.returns
unfolding cleared
returns g c = refl
