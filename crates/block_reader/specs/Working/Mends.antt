-- A row of bits mended in place.
use Rattle.std.specs.Prelude.{◌≡◌, Bool, List, Result, Ok, Err}
use Rattle.std.proofs.Math.Option.{none, some}
use Rattle.answers.specs.declared.Refusal.{Refusal}
use Rattle.answers.specs.declared.Refusal.TheVariants.{NoBlock}
use Rattle.distance.specs.Working.Candidate.{candidate}

-- it is made into its candidate, where there is one
abbrev pub Mends : List Bool → List Bool → Result (Unit {0}) Refusal → Type 0
Mends row new (Ok done) = candidate row ≡ some new
Mends row new (Err refusal) = (refusal ≡ NoBlock) × (candidate row ≡ none)
