-- A datagram that a writer answered 0 for was written, and one that can be written is.
-- Assumes nothing.
use mathlib.Core.Path.{◌≡◌}
use mathlib.Core.Bool.{true}
use mathlib.Core.List.{List}
use Prim.Native.Nat.{ℕ, ◌≤◌}
use native.Mathlib.Omega.{arith}
use lib.ListN.{length, take}
use Rattle.answers.specs.declared.Written.{Written}
use Rattle.answers.specs.Numbers.{done}
use Rattle.answers.specs.Outcome.{Wrote}
use Rattle.answers.specs.Task.{Task, write_task}
use Rattle.answers.proofs.Task as t
use Rattle.answers.proofs.Wrote.{told}
use Rattle.claims.proofs.Endings.{writers, task_ends, laid_in}

pub record Met (task : Task) (new : List ℕ) (answer : Written) : Type 0 where
  pub offered : task.offers ≡ true
  pub fits : length task.datagram ≤ task.held
  pub status : answer.status ≡ done
  pub long : answer.count ≡ length task.bits
  pub bits : take answer.count new ≡ task.bits

module _ (task : Task) (old new : List ℕ) (answer : Written) (wr : Wrote (write_task task (length old)) old new answer) where
  pub met : task.offers ≡ true → length task.datagram ≤ task.held → task.size ≤ length old → Met task new answer
  met o h room =
      let e = t.write_done task (length old) o h room in
      let laid = laid_in (task_ends task (length old)) wr e in
      record { offered = o; fits = h; status = told wr writers.status e; long = laid.full; bits = laid.front }

  -- an answer 0 is given only then
  pub done-met : answer.status ≡ done → Met task new answer
  done-met z = goes (t.writing-goes task (length old))
    where
      goes : t.Writing task (length old) → Met task new answer
      goes (t.unoffered o e) = absurd (omega (arith, told wr writers.status e))
      goes (t.too_long o h e) = absurd (omega (arith, told wr writers.status e))
      goes (t.too_short o h s e) = absurd (omega (arith, told wr writers.status e))
      goes (t.writes o h s e) = met o h s
