-- What C gets of reading a block.
use Rattle.std.specs.Prelude.{Result, Ok, Err}
use Rattle.answers.specs.Numbers.{done}
use Rattle.answers.specs.declared.Refusal.{Refusal}
use Rattle.answers.specs.Working.Refusals.{number_of}
use Rattle.blocks.specs.declared.Block.{Block}
use Rattle.blocks.specs.declared.Found.{Found}
use Rattle.blocks.specs.Calls.{refused}

abbrev pub block_answer : Result Found Refusal → Block
block_answer (Ok found) = record { status = done; count = found.count; wrong = found.wrong }
block_answer (Err refusal) = (refused (number_of refusal)).answer
