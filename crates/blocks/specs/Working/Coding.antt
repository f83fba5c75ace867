-- A link's row as the coding that demand 3 is shown of: the block's bits X at every clock, the parity bits behind them, the tail,
-- and the scrambler's sequence over all.
use Rattle.distance.specs.Working.Coding.{Coding}
use Rattle.links.specs.declared.Row.{Row}
use Rattle.links.specs.Sizes.{image_length}
use Rattle.turbo.specs.Working.Parity.{parity_of, counts_of, tail_bits_of}
use Rattle.scrambler.specs.Scrambler.{loaded, sequence}

unfoldable pub coding_of : Row → Coding
coding_of row = record {
  k = row.k;
  size = image_length row;
  counts = counts_of row;
  parity = parity_of row;
  tail = tail_bits_of row;
  key = sequence (image_length row) loaded;
}
