-- What is near is read, and what is written is near.
-- Assumes nothing.
use mathlib.Core.Path.{◌≡◌, ap, ◌∙◌}
use mathlib.Core.Bool.{Bool, true}
use mathlib.Core.List.{List, map}
use Prim.Native.Nat.{ℕ, ◌<◌, ◌≤◌}
use native.Mathlib.Omega.{arith}
use lib.Dec.{T}
use lib.ListN.{length, length-map}
use Rattle.bits.specs.Bits.{byte}
use Rattle.bits.specs.Row.{differences, flip}
use Rattle.bits.proofs.Bits.{bits-bytes, all_bits-map}
use Rattle.bits.proofs.Differences.{differences_self}
use Rattle.bits.proofs.Flip.{differences-flip}
use Rattle.links.specs.declared.Row.{Row}
use Rattle.links.specs.Working.Good.{good_row}
use Rattle.links.specs.Rows.{offered, row_of}
use Rattle.links.specs.Sizes.{bytes_held, image_length}
use Rattle.links.proofs.Good.{good}
use Rattle.blocks.specs.Block.{image_of, datagram_of}
use Rattle.blocks.specs.Near.{Valid, Near}
use Rattle.blocks.specs.Reading.{read_by_trying}
use Rattle.blocks.specs.Calls.{read_block, reading, answered}
use Rattle.blocks.proofs.Calls.{read_tried}
use Rattle.blocks.proofs.Exact.{exact}
use Rattle.blocks.proofs.Sound.{length-image}
use Rattle.blocks.proofs.Valid.{valid-length}

-- a block that is near what came is answered, with the true count
pub near_answered : (link : ℕ) → offered link ≡ true → (came : List Bool) → length came ≡ image_length (row_of link) → (room : ℕ) → bytes_held (row_of link) ≤ room
    → (u : List Bool) → Near (row_of link) came u → read_block link (map byte came) room ≡ reading (datagram_of (row_of link) u) (differences (image_of (row_of link) u) came)
unfolding answered
near_answered link o came size room fits u n =
    let row = row_of link in
    read_tried link (map byte came) room o (length-map came byte ∙ size) fits (all_bits-map came)
    ∙ ap (λ (c : List Bool). answered row c (read_by_trying row c)) (bits-bytes came)
    ∙ ap (answered row came) ((exact row (good link o) came size u).1 n)

-- a valid block is near its own image, and near it with any one place inverted
module _ (row : Row) (is-good : T (good_row row)) (u : List Bool) (v : Valid row u) where
  pub near_itself : Near row (image_of row u) u
  near_itself = record { right = v; within = omega (arith, differences_self (image_of row u)) }

  pub near_flipped : (place : ℕ) → place < image_length row → Near row (flip place (image_of row u)) u
  near_flipped place h =
      record { right = v; within = omega (arith, differences-flip place (image_of row u) (omega (arith, length-image row is-good u (valid-length row u v)))) }
