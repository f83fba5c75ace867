-- Every offered link has a good row: one test that antt computes over the whole table.
-- Assumes nothing.
use mathlib.Core.Path.{◌≡◌}
use mathlib.Core.Bool.{true}
use Prim.Native.Nat.{ℕ}
use lib.Dec.{T}
use Rattle.lists.specs.Every.{every}
use Rattle.lists.proofs.Every.{every-at}
use Rattle.links.specs.Rows.{rows, no_row, place, offered, row_of}
use Rattle.links.specs.Patterns.{patterns, tails, clocks_in, flags_at, total}
use Rattle.links.specs.Sizes.{passed_on, tail_bits, image_length}
use Rattle.links.specs.Working.Good.{good_sizes, inverse_below, good_primes, good_clock, good_pattern, silent, good_tail, good_row}
use Rattle.links.proofs.Search.{offered-place}

all-good : T (every good_row rows)
unfolding rows patterns tails clocks_in flags_at total passed_on tail_bits image_length every good_sizes inverse_below good_primes good_clock good_pattern silent good_tail good_row
all-good = tt

pub good : (link : ℕ) → offered link ≡ true → T (good_row (row_of link))
unfolding row_of
good link e = every-at good_row no_row rows all-good (place link) (offered-place link e)
