-- What writing and reading a slot burst answer (document 01, "Numbers a caller gets back").
use Rattle.std.specs.Prelude.{cond, List, [], map, ℕ, eqb}
use Rattle.answers.specs.declared.Written.{Written}
use Rattle.answers.specs.Numbers.{done}
use Rattle.answers.specs.Outcome.{Outcome}
use Rattle.answers.specs.Task.{Task, write_task}
use Rattle.bits.specs.Bits.{byte}
use Rattle.blocks.specs.declared.Block.{Block}
use Rattle.blocks.specs.Calls.{read_block}
use Rattle.links.specs.Rows.{row_of}
use Rattle.links.specs.Sizes.{bytes_held}
use Rattle.slots.specs.declared.Slot.{Slot}
use Rattle.slots.specs.declared.head.Head.{Head}
use Rattle.slots.specs.Burst.{block_part, is_slot_link, burst_length, burst_of}
use Rattle.slots.specs.Head.{read_head}

-- ---- writing, in the order 1, 2, 3
abbrev pub slot_task : ℕ → List ℕ → Task
slot_task link datagram = record {
  offers = is_slot_link link;
  held = bytes_held (row_of link);
  datagram = datagram;
  size = burst_length link;
  bits = map byte (burst_of link datagram);
}

abbrev pub write_slot : ℕ → List ℕ → ℕ → Outcome Written
write_slot link datagram room = write_task (slot_task link datagram) room

-- ---- reading: the head, and then the rest as a block
-- a reader that refuses: the number, and 0 for all else
abbrev pub refused : ℕ → Outcome Slot
refused number = record { answer = record { status = number; count = 0; wrong = 0; link = 0; word_wrong = 0; training_wrong = 0 }; bytes = [] }

-- what was read of the rest as a block, with what was read of the head
unfoldable pub both : Head → Block → Slot
both head block =
    cond (eqb block.status done)
    (record { status = done; count = block.count; wrong = block.wrong; link = head.link; word_wrong = head.word_wrong; training_wrong = head.training_wrong })
    (refused block.status).answer

abbrev pub joined : Head → Outcome Block → Outcome Slot
joined head block = record { answer = both head block.answer; bytes = block.bytes }

unfoldable pub read_slot : List ℕ → ℕ → Outcome Slot
read_slot bits room =
    cond (eqb (read_head bits).status done) (joined (read_head bits) (read_block (read_head bits).link (block_part bits) room))
    (refused (read_head bits).status)
