-- When reading a block is answered and when it is refused, one law for each way.
-- Assumes nothing.
use mathlib.Core.Path.{◌≡◌}
use mathlib.Core.Bool.{true, false}
use mathlib.Core.List.{List, map}
use Prim.Native.Nat.{ℕ, ◌<◌, ◌≤◌}
use lib.ListN.{length}
use borrow.Author.Tests.{lt-ltb, le-ltb, eq-eqb, ne_eqb}
use Rattle.answers.specs.Numbers.{not_offered, wrong_length, no_room, no_bit}
use Rattle.bits.specs.Bits.{is_one, all_bits}
use Rattle.links.specs.Rows.{offered, row_of}
use Rattle.links.specs.Sizes.{bytes_held, image_length}
use Rattle.blocks.specs.Reading.{read_by_trying}
use Rattle.blocks.specs.Calls.{read_block, refused, answered}

module _ (link : ℕ) (bits : List ℕ) (room : ℕ) where
  pub read_unoffered : offered link ≡ false → read_block link bits room ≡ refused not_offered
  unfolding read_block
  read_unoffered o = rw o

  module _ (o : offered link ≡ true) where
    pub read_length : (length bits ≡ image_length (row_of link) → ⊥) → read_block link bits room ≡ refused wrong_length
    unfolding read_block
    read_length h = rw (o, ne_eqb (length bits) (image_length (row_of link)) h)

    module _ (size : length bits ≡ image_length (row_of link)) where
      pub read_short : room < bytes_held (row_of link) → read_block link bits room ≡ refused no_room
      unfolding read_block
      read_short h = rw (o, eq-eqb (length bits) (image_length (row_of link)) size, lt-ltb room (bytes_held (row_of link)) h)

      module _ (fits : bytes_held (row_of link) ≤ room) where
        pub read-no_bit : all_bits bits ≡ false → read_block link bits room ≡ refused no_bit
        unfolding read_block
        read-no_bit h = rw (o, eq-eqb (length bits) (image_length (row_of link)) size, le-ltb room (bytes_held (row_of link)) fits, h)

        pub read_tried : all_bits bits ≡ true
            → read_block link bits room ≡ answered (row_of link) (map is_one bits) (read_by_trying (row_of link) (map is_one bits))
        unfolding read_block
        read_tried h = rw (o, eq-eqb (length bits) (image_length (row_of link)) size, le-ltb room (bytes_held (row_of link)) fits, h)
