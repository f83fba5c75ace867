-- The register after one clock. Assumes nothing.
use mathlib.Core.List.{[], ◌∷◌}
use Rattle.turbo.specs.Encoder.{feedback}
use Rattle.turbo.specs.Working.Parity.{register_after}
use Rattle.clocks.proofs.ending.wound.Goals as goal

pub returns : goal.returns
unfolding register_after
returns c =
    let r = c.args.register in
    c.last.ensures r (feedback r ∷ []) (rw c.feedback.ensures at c.one.ensures)
