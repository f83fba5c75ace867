-- The lowest three digits are the register. Assumes nothing.
use Rattle.encoder.proofs.Taps.{last_of}
use Rattle.encoder.proofs.register.Register.last.Goals as goal

pub returns : goal.returns
returns c = last_of c.args.fed
