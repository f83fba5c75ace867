-- A block's datagram packed at a buffer's start.
-- Assumes nothing.
use mathlib.Core.Path.{◌≡◌}
use mathlib.Core.Bool.{Bool, true}
use mathlib.Core.List.{List}
use Prim.Native.Nat.{ℕ, ◌*◌, ◌≤◌}
use native.Mathlib.Nat.{zero-add}
use lib.ListN.{length, take}
use Rattle.lists.specs.Over.{over}
use Rattle.bits.specs.Datagram.{all_bytes}
use Rattle.datagrams.specs.Working.Packed.{packed_over}
use Rattle.datagrams.proofs.Packed.{packed_bytes}
use Rattle.links.specs.declared.Row.{Row}
use Rattle.links.specs.Sizes.{bytes_held}
use Rattle.blocks.specs.Block.{datagram_of}

pub datagram_packed : (row : Row) (u : List Bool) (old : List ℕ) → all_bytes old ≡ true → bytes_held row * 8 ≤ length u → bytes_held row ≤ length old
    → packed_over 0 (take (bytes_held row * 8) u) old ≡ over 0 (datagram_of row u) old
unfolding datagram_of
datagram_packed row u old bytes long room = packed_bytes 0 (bytes_held row) u old bytes long (rw zero-add room)
