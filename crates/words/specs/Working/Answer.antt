-- What C gets of reading a link word.
use Rattle.std.specs.Prelude.{Result, Ok, Err, Option, None, Some}
use Rattle.answers.specs.Numbers.{no_word}
use Rattle.answers.specs.declared.Refusal.{Refusal}
use Rattle.answers.specs.Working.Refusals.{number_of}
use Rattle.words.specs.declared.Found.{Found}
use Rattle.words.specs.declared.Word.{Word}
use Rattle.words.specs.Calls.{found, refused}

abbrev pub word_answer : Result Found Refusal → Word
word_answer (Ok answer) = found answer.number answer.wrong
word_answer (Err refusal) = refused (number_of refusal)

-- of the number whose word is near, or of none
abbrev pub nearest : Option Found → Word
nearest (Some answer) = found answer.number answer.wrong
nearest None = refused no_word
