-- What C gets of reading a slot burst, and is to get of reading its head.
use Rattle.std.specs.Prelude.{Result, Ok, Err}
use Rattle.answers.specs.Numbers.{done}
use Rattle.answers.specs.declared.Refusal.{Refusal}
use Rattle.answers.specs.Working.Refusals.{number_of}
use Rattle.slots.specs.declared.Found.{Found}
use Rattle.slots.specs.declared.Slot.{Slot}
use Rattle.slots.specs.declared.found_head.FoundHead.{FoundHead}
use Rattle.slots.specs.declared.head.Head.{Head}
use Rattle.slots.specs.Calls.{refused}
use Rattle.slots.specs.Head.{refused_head}

abbrev pub slot_answer : Result Found Refusal → Slot
slot_answer (Ok found) = record {
  status = done;
  count = found.block.count;
  wrong = found.block.wrong;
  link = found.head.word.number;
  word_wrong = found.head.word.wrong;
  training_wrong = found.head.training_wrong;
}
slot_answer (Err refusal) = (refused (number_of refusal)).answer

abbrev pub head_answer : Result FoundHead Refusal → Head
head_answer (Ok head) = record { status = done; link = head.word.number; word_wrong = head.word.wrong; training_wrong = head.training_wrong; rest = head.rest }
head_answer (Err refusal) = refused_head (number_of refusal)
