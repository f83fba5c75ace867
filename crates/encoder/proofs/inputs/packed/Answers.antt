-- The bits themselves; 24 make a number below 2^24. Assumes nothing.
use mathlib.Core.Path.{◌≡◌, ap, ◌∙◌}
use Rattle.std.proofs.lemmas.List.{map-id}
use Rattle.bits.specs.Row.{number}
use Rattle.bits.proofs.Row.{number_lt}
use Rattle.encoder.proofs.inputs.packed.Goals as goal

pub returns : goal.returns
returns c =
    let row = c.args.inputs.now in
    let is : c.number_of.result ≡ number row = c.number_of.ensures ∙ ap number (map-id row) in
    (is, rw is (rw c.requires at (number_lt row)))
