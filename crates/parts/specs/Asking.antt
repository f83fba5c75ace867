-- Asking a state for its burst (document 02, K2): the contract of the call.
use Rattle.std.specs.Prelude.{◌≡◌, List, ℕ, length}
use Rattle.answers.specs.Outcome.{Wrote}
use Rattle.slots.specs.declared.Slot.{Slot}
use Rattle.slots.specs.Calls.{read_slot}
use Rattle.parts.specs.State.{State, fresh, heard}

-- what was heard is read as a slot burst into the lent buffer, and the state is fresh afterwards
pub record ReadParts (before after : State) (old new : List ℕ) (answer : Slot) : Type 0 where
  pub reads : Wrote (read_slot (heard before) (length old)) old new answer
  pub leaves : after ≡ fresh
