-- The code's table is the list of the entries that antt computes from the rows. Assumes nothing.
use Rattle.std.proofs.Common.{ap}
use Rattle.std.proofs.lemmas.List.{get_or-map}
use Rattle.links.specs.Patterns.{patterns, tails, clocks_in, flags_at, total}
use Rattle.links.specs.Rows.{rows, no_row}
use Rattle.links.specs.Sizes.{passed_on, tail_bits, image_length}
use Rattle.links.proofs.Entries.{Entry, entry}
use Rattle.links.proofs.table.image_length_at.Goals as goal

pub returns : goal.returns
unfolding rows patterns tails clocks_in flags_at total passed_on tail_bits image_length
returns c = ap (λ (e : Entry). e.7) (get_or-map entry rows c.args.place no_row _ c.requires)
