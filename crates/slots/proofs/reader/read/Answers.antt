-- What reading the rest as a block left is joined with the head.
use Rattle.std.proofs.Common.{arith, refl}
use Rattle.std.proofs.lemmas.Bool.Decides.{nat_tests}
use Rattle.slots.specs.Calls.{both}
use Rattle.slots.proofs.Calls.{refusal_number}
use Rattle.slots.proofs.Reading.{joins}
use Rattle.slots.proofs.reader.read.Goals as goal

pub returns-in_err-block : goal.returns-in_err-block
unfolding both
returns-in_err-block c = joins _ _ _ c.in_ok-head.ensures refl c.in_err-block.ensures (grind (arith, nat_tests, refusal_number))

pub returns : goal.returns
unfolding both
returns c = joins _ _ _ c.in_ok-head.ensures refl c.in_ok-block.ensures refl
