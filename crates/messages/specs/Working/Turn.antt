-- What a step of a bounded number of turns says. Only the contracts of the two functions that call each other name it.
use Rattle.std.specs.Prelude.{◌≡◌, List, ℕ, ◌<◌, length, Option, Result}
use Rattle.std.specs.declared.ops.ControlFlow.{ControlFlow}
use Rattle.std.specs.declared.ops.ControlFlow.TheVariants.{Break, Continue}
use Rattle.messages.specs.declared.Fault.{Fault}
use Rattle.messages.specs.declared.Message.{Message}
use Rattle.messages.specs.Step.{step_from}
use Rattle.messages.specs.Working.Answer.{step_answer}

-- an answer is the step's; where the turns are used up, bytes were left, and a step from the place come to, which lies further on, is the same
abbrev pub Says : List ℕ → ℕ → ControlFlow (Result (Option Message) Fault) ℕ → Type 0
Says datagram place (Break outcome) = step_answer outcome ≡ step_from datagram place
Says datagram place (Continue next) = (place < length datagram) × (place < next) × (step_from datagram next ≡ step_from datagram place)
