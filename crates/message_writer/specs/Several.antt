-- Messages one behind the other (document 02, K6).
use Rattle.std.specs.Prelude.{Bool, not, ◌&&◌, List, [], ◌∷◌, ◌++◌, ℕ, ◌+◌, leb, length}
use Rattle.messages.specs.declared.Step.{Step}
use Rattle.messages.specs.Step.{message}
use Rattle.message_writer.specs.Message.{is_no_type, longest_body, total_of, message_of}

pub record Message : Type 0 where
  pub type : ℕ
  pub source : ℕ
  pub body : List ℕ

-- one that can be written, where there is room for it
abbrev pub is_message : Message → Bool
is_message m = not (is_no_type m.type) && leb (length m.body) longest_body

-- the bytes of messages, one behind the other
unfoldable pub bytes_of_all : List Message → List ℕ
bytes_of_all [] = []
bytes_of_all (m ∷ messages) = message_of m.type m.source m.body ++ bytes_of_all messages

-- the answers of steps that find them from a place on, each where the last one ends
unfoldable pub steps_of : ℕ → List Message → List Step
steps_of place [] = []
steps_of place (m ∷ messages) = message place (total_of m.body) ∷ steps_of (place + total_of m.body) messages
