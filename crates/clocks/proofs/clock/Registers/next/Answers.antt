-- The registers after one clock. Assumes nothing.
use mathlib.Core.List.{[], ◌∷◌}
use Rattle.turbo.specs.Working.Parity.{register_after}
use Rattle.clocks.proofs.clock.Registers.next.Goals as goal

pub returns : goal.returns
unfolding register_after
returns c =
    let a = c.args in
    (c.last.ensures a.self.a (a.u ∷ []) c.one.ensures, c.last-2.ensures a.self.b (a.v ∷ []) c.one-2.ensures)
