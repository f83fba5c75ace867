-- The code and the definition agree at each register, which antt computes. Assumes nothing.
use mathlib.Core.Path.{refl}
use mathlib.Core.Bool.{xor}
use Prim.Native.Nat.{◌/◌}
use lib.Bits.{bit_and, bit_xor}
use lib.Dec.{eqb}
use Rattle.std.proofs.lemmas.Bool.{agree_below_at}
use Rattle.turbo.specs.Encoder.{feedback}
use Rattle.encoder.specs.Working.Number.{register_of}
use Rattle.encoder.proofs.register.Register.feedback.Goals as goal

pub returns : goal.returns
unfolding register_of xor
returns c = rw (← c.self.view_is) (agree_below_at (λ n. eqb (bit_and (bit_xor (n / 2) (n / 4)) 1) 1) (λ n. feedback (register_of n)) 8 _ refl c.self.invariant)
