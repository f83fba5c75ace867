-- Computed. Assumes nothing.
use mathlib.Core.Path.{refl}
use Rattle.encoder.specs.Working.Number.{register_of}
use Rattle.encoder.proofs.register.Register.start.Goals as goal

pub returns : goal.returns
unfolding register_of
returns c = refl
