-- The bit is added to the one that falls out; that decides whether the generator is added. Assumes nothing.
use mathlib.Core.Path.{◌≡◌, refl, ◌∙◌}
use mathlib.Core.Bool.{Bool, true, false}
use native.Mathlib.Omega.{arith}
use mir.Val.{bool_byte}
use Rattle.bits.specs.Bits.{byte}
use Rattle.check32.proofs.Word.{fed-word}
use Rattle.check32.proofs.step.Goals as goal

-- a bool as a number
cast : (b : Bool) → bool_byte b ≡ byte b
cast true = refl
cast false = refl

pub returns : goal.returns
returns c = fed-word c.args.r (omega arith) c.args.bit c.from.result (c.from.ensures ∙ cast c.args.bit)
