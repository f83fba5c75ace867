-- Bits packed into a lent datagram, from any bit of it on.
use Rattle.std.specs.Prelude.{Bool, List, ℕ, length}
use Rattle.lists.specs.Over.{over}
use Rattle.bits.specs.Datagram.{bits_of, as_bytes}

-- a datagram with bits laid over its own from bit `at` on
unfoldable pub packed_over : ℕ → List Bool → List ℕ → List ℕ
packed_over at bits datagram = as_bytes (length datagram) (over at bits (bits_of datagram))
