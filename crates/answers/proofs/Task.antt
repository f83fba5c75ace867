-- When a datagram is written and when it is refused, one law for each way, and the ways together.
-- Assumes nothing.
use mathlib.Core.Path.{◌≡◌, refl}
use mathlib.Core.Bool.{Bool, true, false}
use Prim.Native.Nat.{ℕ, ◌<◌, ◌≤◌}
use lib.Dec.{ltb}
use lib.ListN.{length}
use borrow.Author.Tests.{lt-ltb, le-ltb, ltb-true, ltb-false}
use Rattle.answers.specs.Numbers.{not_offered, wrong_length, no_room}
use Rattle.answers.specs.Outcome.{refusal, writing}
use Rattle.answers.specs.Task.{Task, write_task}

module _ (task : Task) (room : ℕ) where
  pub write_unoffered : task.offers ≡ false → write_task task room ≡ refusal not_offered
  unfolding write_task
  write_unoffered o = rw o

  module _ (o : task.offers ≡ true) where
    pub write-long : task.held < length task.datagram → write_task task room ≡ refusal wrong_length
    unfolding write_task
    write-long h = rw (o, lt-ltb task.held (length task.datagram) h)

    module _ (fits : length task.datagram ≤ task.held) where
      pub write-short : room < task.size → write_task task room ≡ refusal no_room
      unfolding write_task
      write-short h = rw (o, le-ltb task.held (length task.datagram) fits, lt-ltb room task.size h)

      pub write_done : task.size ≤ room → write_task task room ≡ writing task.bits
      unfolding write_task
      write_done h = rw (o, le-ltb task.held (length task.datagram) fits, le-ltb room task.size h)

-- the ways, line by line as document 01 numbers them: 1, 2, 3, done
pub data Writing (task : Task) (room : ℕ) : Type 0 where
  unoffered : task.offers ≡ false → write_task task room ≡ refusal not_offered → Writing task room
  too_long : task.offers ≡ true → task.held < length task.datagram → write_task task room ≡ refusal wrong_length → Writing task room
  too_short : task.offers ≡ true → length task.datagram ≤ task.held → room < task.size → write_task task room ≡ refusal no_room → Writing task room
  writes : task.offers ≡ true → length task.datagram ≤ task.held → task.size ≤ room → write_task task room ≡ writing task.bits → Writing task room

pub writing-goes : (task : Task) (room : ℕ) → Writing task room
writing-goes task room = decided task.offers (ltb task.held n) (ltb room task.size) refl refl refl
  where
    n : ℕ
    n = length task.datagram

    decided : (offers long short : Bool) → task.offers ≡ offers → ltb task.held n ≡ long → ltb room task.size ≡ short → Writing task room
    decided false long short o l s = unoffered o (write_unoffered task room o)
    decided true true short o l s =
        let h = ltb-true task.held n l in
        too_long o h (write-long task room o h)
    decided true false true o l s =
        let f = ltb-false task.held n l in
        let h = ltb-true room task.size s in
        too_short o f h (write-short task room o f h)
    decided true false false o l s =
        let f = ltb-false task.held n l in
        let h = ltb-false room task.size s in
        writes o f h (write_done task room o f h)
