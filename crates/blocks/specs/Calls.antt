-- What writing and reading a block answer (document 01, "Numbers a caller gets back").
use Rattle.std.specs.Prelude.{Bool, cond, List, [], map, ℕ, eqb, ltb, length}
use Rattle.std.proofs.Math.Option.{Option, none, some}
use Rattle.answers.specs.declared.Written.{Written}
use Rattle.answers.specs.Numbers.{done, not_offered, wrong_length, no_room, no_bit, no_block}
use Rattle.answers.specs.Outcome.{Outcome}
use Rattle.answers.specs.Task.{Task, write_task}
use Rattle.bits.specs.Bits.{is_one, byte, all_bits}
use Rattle.bits.specs.Row.{differences}
use Rattle.links.specs.declared.Row.{Row}
use Rattle.links.specs.Rows.{offered, row_of}
use Rattle.links.specs.Sizes.{bytes_held, image_length}
use Rattle.blocks.specs.declared.Block.{Block}
use Rattle.blocks.specs.Block.{block_of, image_of, datagram_of}
use Rattle.blocks.specs.Reading.{read_by_trying}

-- ---- writing, in the order 1, 2, 3
abbrev pub block_task : ℕ → List ℕ → Task
block_task link datagram = record {
  offers = offered link;
  held = bytes_held (row_of link);
  datagram = datagram;
  size = image_length (row_of link);
  bits = map byte (image_of (row_of link) (block_of (row_of link) datagram));
}

abbrev pub write_block : ℕ → List ℕ → ℕ → Outcome Written
write_block link datagram room = write_task (block_task link datagram) room

-- ---- reading, in the order 1, 2, 3, 4, 7
-- a reader that refuses: the number, and 0 for all else
abbrev pub refused : ℕ → Outcome Block
refused number = record { answer = record { status = number; count = 0; wrong = 0 }; bytes = [] }

-- a reader that answers a datagram and the count of wrong places
abbrev pub reading : List ℕ → ℕ → Outcome Block
reading datagram wrong = record { answer = record { status = done; count = length datagram; wrong = wrong }; bytes = datagram }

-- what is answered for a block that stands for what came, and for none
unfoldable pub answered : Row → List Bool → Option (List Bool) → Outcome Block
answered row came none = refused no_block
answered row came (some u) = reading (datagram_of row u) (differences (image_of row u) came)

unfoldable pub read_block : ℕ → List ℕ → ℕ → Outcome Block
read_block link bits room =
    cond (offered link)
    (cond (eqb (length bits) (image_length (row_of link)))
    (cond (ltb room (bytes_held (row_of link))) (refused no_room)
    (cond (all_bits bits) (answered (row_of link) (map is_one bits) (read_by_trying (row_of link) (map is_one bits)))
    (refused no_bit)))
    (refused wrong_length))
    (refused not_offered)
