-- 24 clocks fed at once. Assumes nothing.
use mathlib.Core.Path.{sym, ap, ◌∙◌}
use Prim.Native.Nat.{ℕ, ◌*◌, ◌%◌, ◌^◌}
use lib.Bits.{bit_or}
use Rattle.bits.specs.Row.{high_first}
use Rattle.bits.specs.Xor.{◌⊕◌}
use Rattle.bits.proofs.Row.{length-high_first, number-high_first}
use Rattle.encoder.proofs.Feed.{fifteen, brought, fed-once}
use Rattle.encoder.proofs.Number.{number-made}
use Rattle.encoder.proofs.register.Register.many.Goals as goal

pub returns : goal.returns
unfolding ◌⊕◌
returns c =
    let n = c.self.inside.bits in
    let i = c.args.inputs in
    ap (λ (x : ℕ). bit_or (n * 16777216 % 2 ^ 32) (fifteen (x ⊕ brought n))) (sym (number-high_first 24 i c.requires))
    ∙ fed-once c.args.self (high_first 24 i) (length-high_first 24 i) (number-made c.args.self c.self.view_is c.self.invariant)
