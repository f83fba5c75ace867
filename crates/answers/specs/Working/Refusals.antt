-- Refusals as the code names them, and what C gets for them.
use Rattle.std.specs.Prelude.{ℕ, Result, Ok, Err}
use Rattle.answers.specs.Numbers.{not_offered, wrong_length, no_room, no_bit, no_training, no_word, no_block, past_end, small_length, broken_fill, few_left, message_past_end, no_type, long_body}
use Rattle.answers.specs.Written.{refused, wrote}
use Rattle.answers.specs.declared.Refusal.{Refusal}
use Rattle.answers.specs.declared.Refusal.TheVariants.{NotOffered, WrongLength, NoRoom, NoBit, NoTraining, NoWord, NoBlock, PastEnd, SmallLength, BrokenFill, FewLeft, MessagePastEnd, NoType, LongBody}
use Rattle.answers.specs.declared.Written.{Written}

-- the number of each (document 01, the table of that name)
abbrev pub number_of : Refusal → ℕ
number_of NotOffered = not_offered
number_of WrongLength = wrong_length
number_of NoRoom = no_room
number_of NoBit = no_bit
number_of NoTraining = no_training
number_of NoWord = no_word
number_of NoBlock = no_block
number_of PastEnd = past_end
number_of SmallLength = small_length
number_of BrokenFill = broken_fill
number_of FewLeft = few_left
number_of MessagePastEnd = message_past_end
number_of NoType = no_type
number_of LongBody = long_body

-- what C gets of a writing call
abbrev pub written : Result ℕ Refusal → Written
written (Ok count) = wrote count
written (Err refusal) = refused (number_of refusal)
