-- The code's table is the list of the entries that antt computes from the rows. Assumes nothing.
use Rattle.std.proofs.Common.{ap}
use Rattle.std.proofs.lemmas.List.{get_or-map}
use Rattle.links.specs.Patterns.{patterns, tails, clocks_in, flags_at, total}
use Rattle.links.specs.Rows.{row, rows, no_row}
use Rattle.links.specs.Sizes.{passed_on, tail_bits, image_length}
use Rattle.links.proofs.Entries.{Entry, entry}
use Rattle.links.proofs.table.row_at.Goals as goal

pub returns : goal.returns
unfolding rows patterns tails clocks_in flags_at total passed_on tail_bits image_length
returns c = ap (λ (e : Entry). row e.0 e.1 e.2 e.3 e.4 e.5 e.6) (get_or-map entry rows c.args.place no_row _ c.requires)
