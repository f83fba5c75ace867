-- A valid block of a link (document 01, "From datagram to block"), and what demand 3 says of one: its image differs from what came in at
-- most one place.
use Rattle.std.specs.Prelude.{◌≡◌, Bool, true, ◌&&◌, List, ◌*◌, ◌≤◌, eqb, length, take, drop}
use Rattle.bits.specs.Bits.{all_zero}
use Rattle.bits.specs.Row.{differences}
use Rattle.check32.specs.Check.{register}
use Rattle.links.specs.declared.Row.{Row}
use Rattle.links.specs.Sizes.{open_bits, bytes_held}
use Rattle.blocks.specs.Block.{image_of}

-- the bits over, behind the datagram's and before the check: four on link 12
abbrev pub bits_over : Row → List Bool → List Bool
bits_over row u = drop (bytes_held row * 8) (take (open_bits row) u)

-- k bits, the check right, the bits over zero. The check is right where the register, run over all k bits and so over the check too, ends
-- at zero (M.2092-1, Annex 2, 1.2.5); `valid-written` of the claims says that these are exactly the blocks that can be written
unfoldable pub valid : Row → List Bool → Bool
valid row u = eqb (length u) row.k && (eqb (register u) 0 && all_zero (bits_over row u))

abbrev pub Valid : Row → List Bool → Type 0
Valid row u = valid row u ≡ true

-- a valid block whose image differs from what came in at most one place
pub record Near (row : Row) (came u : List Bool) : Type 0 where
  pub right : Valid row u
  pub within : differences (image_of row u) came ≤ 1
