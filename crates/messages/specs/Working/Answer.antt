-- What C gets of a step.
use Rattle.std.specs.Prelude.{Result, Ok, Err, Option, None, Some}
use Rattle.answers.specs.Numbers.{past_end, small_length, broken_fill, few_left, message_past_end}
use Rattle.messages.specs.declared.Fault.{Fault}
use Rattle.messages.specs.declared.Fault.TheVariants.{PastEnd, BrokenFill, FewLeft, SmallLength, MessagePastEnd}
use Rattle.messages.specs.declared.Message.{Message}
use Rattle.messages.specs.declared.Step.{Step}
use Rattle.messages.specs.Step.{refused, finished, message, lie}

abbrev pub step_answer : Result (Option Message) Fault → Step
step_answer (Ok (Some found)) = message found.start found.length
step_answer (Ok None) = finished
step_answer (Err PastEnd) = refused past_end
step_answer (Err BrokenFill) = refused broken_fill
step_answer (Err (FewLeft start)) = lie few_left start 0
step_answer (Err (SmallLength start)) = lie small_length start 0
step_answer (Err (MessagePastEnd start missing)) = lie message_past_end start missing
