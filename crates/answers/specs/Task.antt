-- Writing a datagram for a link: what is to be written, and what is answered (document 01, "Numbers a caller gets back"). Blocks and
-- slot bursts are such tasks.
use Rattle.std.specs.Prelude.{Bool, cond, List, ℕ, ltb, length}
use Rattle.answers.specs.declared.Written.{Written}
use Rattle.answers.specs.Numbers.{not_offered, wrong_length, no_room}
use Rattle.answers.specs.Outcome.{Outcome, refusal, writing}

pub record Task : Type 0 where
  -- whether the link is one of those that are written so, and how many bytes it holds
  pub offers : Bool
  pub held : ℕ
  pub datagram : List ℕ
  -- how long the lent buffer must be, and the bits that are laid into it
  pub size : ℕ
  pub bits : List ℕ

-- in the order 1, 2, 3
unfoldable pub write_task : Task → ℕ → Outcome Written
write_task task room =
    cond task.offers
    (cond (ltb task.held (length task.datagram)) (refusal wrong_length)
    (cond (ltb room task.size) (refusal no_room)
    (writing task.bits)))
    (refusal not_offered)
