-- The marks of the two halves of the register's top byte and the byte together. Assumes nothing.
use native.Mathlib.Omega.{arith}
use Rattle.check32.proofs.ByteStep.{byte_word}
use Rattle.check32.proofs.step_byte.Goals as goal

pub returns : goal.returns
returns c = let a = c.args in rw (c.requires, c.from.ensures, c.from-2.ensures) (byte_word a.r (omega arith) a.byte (omega arith))
