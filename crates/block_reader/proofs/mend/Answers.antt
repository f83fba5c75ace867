-- The register is that of the row itself. Assumes nothing.
use Rattle.std.proofs.Common.{map-id, rules}
use Rattle.distance.specs.Working.Candidate.{candidate}
use Rattle.block_reader.proofs.Mending.{flip_stored}
use Rattle.block_reader.proofs.mend.Goals as goal

pub returns : goal.returns
unfolding candidate
returns c = search (rules, flip_stored, map-id)
