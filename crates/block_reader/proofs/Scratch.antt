-- The longest block and the longest image have room for a link's, and so long are the pieces of them that are lent.
-- Assumes nothing.
use lib.Seq.{length-take-le}
use Rattle.links.proofs.Facts.{sizes}

pub ruleset lent = (sizes, length-take-le)
