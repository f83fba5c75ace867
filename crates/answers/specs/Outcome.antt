-- What a call with a lent buffer answers and leaves in it: the one relation that the contracts of such calls name.
use Rattle.std.specs.Prelude.{◌≡◌, List, [], ℕ, length}
use Rattle.lists.specs.Over.{over}
use Rattle.answers.specs.declared.Written.{Written}
use Rattle.answers.specs.Written.{refused, wrote}

-- the answer, and the bytes that are laid over the buffer from a place on: none on a refusal. What makes one, `write_block` and the like, is
-- given the request and the buffer's length alone, so what the buffer held before cannot reach it.
pub record Outcome (Answer : Type 0) : Type 0 where
  pub answer : Answer
  pub bytes : List ℕ

-- the contract of a call with a lent buffer: its answer, and what the buffer holds afterwards, with the bytes laid from a place on
pub record WroteAt {Answer : Type 0} (place : ℕ) (outcome : Outcome Answer) (old new : List ℕ) (answer : Answer) : Type 0 where
  pub answers : answer ≡ outcome.answer
  pub leaves : new ≡ over place outcome.bytes old

-- with the bytes at the buffer's start
abbrev pub Wrote : {Answer : Type 0} → Outcome Answer → List ℕ → List ℕ → Answer → Type 0
Wrote outcome old new answer = WroteAt 0 outcome old new answer

-- a writing call that refuses
abbrev pub refusal : ℕ → Outcome Written
refusal number = record { answer = refused number; bytes = [] }

-- a writing call that writes
abbrev pub writing : List ℕ → Outcome Written
writing bytes = record { answer = wrote (length bytes); bytes = bytes }
