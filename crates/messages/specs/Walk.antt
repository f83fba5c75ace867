-- Stepping through a whole datagram: from 0, each next step where the message found ends, until an answer is no message.
use Rattle.std.specs.Prelude.{◌≡◌, cond, List, [], ◌∷◌, ℕ, zero, suc, ◌+◌, ◌<◌, eqb, length}
use Rattle.messages.specs.declared.Step.{Step}
use Rattle.messages.specs.Step.{step_message}

-- what a caller sees who steps on from a position while the answer has a length: the messages found, and the answer that has none
pub data Walks (datagram : List ℕ) : ℕ → List Step → Step → Type 0 where
  stops : {position : ℕ} {last : Step} → last ≡ step_message datagram position → last.length ≡ 0 → Walks datagram position [] last
  goes : {position : ℕ} {answer last : Step} {found : List Step} → answer ≡ step_message datagram position → 0 < answer.length
      → Walks datagram (answer.start + answer.length) found last → Walks datagram position (answer ∷ found) last

-- the same, computed
pub record Walked : Type 0 where
  pub found : List Step
  pub last : Step

-- from a position on, with at most so many messages
unfoldable pub walk_from : List ℕ → ℕ → ℕ → Walked
walk_from datagram position zero = record { found = []; last = step_message datagram position }
walk_from datagram position (suc most) =
    let answer = step_message datagram position in
    let onward = walk_from datagram (answer.start + answer.length) most in
    cond (eqb answer.length 0) (record { found = []; last = answer }) (record { found = answer ∷ onward.found; last = onward.last })

-- a datagram holds no more messages than bytes
abbrev pub walk : List ℕ → Walked
walk datagram = walk_from datagram 0 (length datagram)
