-- One a behind the register. Assumes nothing.
use mathlib.Core.Path.{◌≡◌, ap, ap₂, ◌∙◌}
use mathlib.Core.Bool.{Bool, xor}
use Prim.Native.Nat.{ℕ, ◌+◌, ◌*◌, ◌%◌, ◌^◌}
use native.Mathlib.Omega.{arith}
use lib.Bits.{bit_or, or_shifted}
use Rattle.bits.specs.Bits.{byte}
use Rattle.bits.specs.Row.{number_on}
use Rattle.bits.proofs.Bits.{byte-lt}
use Rattle.turbo.specs.Encoder.{fed}
use Rattle.turbo.specs.Outputs.{outputs}
use Rattle.encoder.specs.Working.Fed.{fed_on}
use Rattle.encoder.proofs.Number.{number-made, byte_cast}
use Rattle.encoder.proofs.register.Register.one.Goals as goal

pub returns : goal.returns
unfolding fed_on number_on outputs xor
returns c =
    let r = c.args.self in
    let u = c.args.u in
    let n = c.self.inside.bits in
    let stands = number-made r c.self.view_is c.self.invariant in
    let fits : n * 2 % 2 ^ 32 ≡ n * 2 = omega arith in
    let a : c.from.result ≡ byte (fed r u) = c.from.ensures ∙ byte_cast _ ∙ ap (λ (b : Bool). byte (xor u b)) c.feedback.ensures in
    ap₂ bit_or fits a ∙ or_shifted n 1 (byte (fed r u)) (byte-lt (fed r u)) ∙ ap (λ (x : ℕ). x * 2 + byte (fed r u)) stands
