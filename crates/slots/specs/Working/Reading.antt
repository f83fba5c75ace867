-- What a reader of slot bursts answers, in one.
use Rattle.std.specs.Prelude.{List, ℕ, length}
use Rattle.answers.specs.Numbers.{done}
use Rattle.answers.specs.Outcome.{Outcome}
use Rattle.slots.specs.declared.Slot.{Slot}

-- a datagram, with the count of wrong places, the link and the counts of wrong places of its word and of its training
abbrev pub reading : List ℕ → ℕ → ℕ → ℕ → ℕ → Outcome Slot
reading datagram wrong link wordWrong wrong_in_training = record {
  answer = record { status = done; count = length datagram; wrong = wrong; link = link; word_wrong = wordWrong; training_wrong = wrong_in_training };
  bytes = datagram;
}
