-- What C gets of laying.
use Rattle.std.specs.Prelude.{ℕ, Result, Ok, Err}
use Rattle.answers.specs.declared.Refusal.{Refusal}
use Rattle.answers.specs.Working.Refusals.{number_of}
use Rattle.message_writer.specs.declared.Laid.{Laid}
use Rattle.message_writer.specs.Calls.{refused, laid}

abbrev pub laid_answer : Result ℕ Refusal → Laid
laid_answer (Ok count) = laid count
laid_answer (Err refusal) = refused (number_of refusal)
