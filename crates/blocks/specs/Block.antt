-- From datagram to block and to its image (document 01, "From datagram to block").
use Rattle.std.specs.Prelude.{Bool, List, ◌++◌, ℕ, ◌-◌, length, replicate}
use Rattle.bits.specs.Datagram.{bits_of, filled, as_bytes}
use Rattle.check32.specs.Check.{check_bits}
use Rattle.links.specs.declared.Row.{Row}
use Rattle.links.specs.Sizes.{open_bits, bytes_held}
use Rattle.turbo.specs.Coded.{coded}
use Rattle.scrambler.specs.Scrambler.{scrambled}

-- the bits before the check: the datagram's, then zeros
abbrev pub opening : Row → List ℕ → List Bool
opening row datagram = filled (open_bits row) (bits_of datagram)

-- the block of a datagram: these and their check
unfoldable pub block_of : Row → List ℕ → List Bool
block_of row datagram = opening row datagram ++ check_bits (opening row datagram)

-- the image of a block
unfoldable pub image_of : Row → List Bool → List Bool
image_of row u = scrambled (coded row u)

-- the datagram in a block: all the bytes that the link holds
unfoldable pub datagram_of : Row → List Bool → List ℕ
datagram_of row u = as_bytes (bytes_held row) u

-- a datagram filled with zero bytes to its link's size
unfoldable pub zero_filled : Row → List ℕ → List ℕ
zero_filled row datagram = datagram ++ replicate (bytes_held row - length datagram) 0
