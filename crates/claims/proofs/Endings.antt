-- A call with a lent buffer ends in two ways: it refuses and leaves the buffer, or it answers and lays its bytes. What follows of each,
-- for any kind of answer, and that the writers end so; the readers' ends stand with what is shown of them.
-- Assumes nothing.
use mathlib.Core.Path.{◌≡◌, refl, sym, ap, ◌∙◌}
use mathlib.Core.List.{List, []}
use Prim.Native.Nat.{ℕ}
use native.Mathlib.Omega.{arith}
use lib.ListN.{length, take, drop}
use Rattle.lists.proofs.Over.{over-nil}
use Rattle.answers.specs.declared.Written.{Written}
use Rattle.answers.specs.Numbers.{done, not_offered, wrong_length, no_room}
use Rattle.answers.specs.Written.{refused}
use Rattle.answers.specs.Outcome.{Outcome, WroteAt, Wrote, writing}
use Rattle.answers.specs.Task.{Task, write_task}
use Rattle.answers.proofs.Determined as d
use Rattle.answers.proofs.Task as t
use Rattle.answers.proofs.Wrote.{said, told, held}
use Rattle.words.specs.Calls.{write_word}
use Rattle.words.proofs.Ways as w
use Rattle.claims.specs.Calls.{Laid}

-- a kind of answer: its status and its count, what a refusal answers, and what is given in each of the ways to answer
pub record Kind (Answer Way : Type 0) : Type 0 where
  pub status : Answer → ℕ
  pub count : Answer → ℕ
  pub refused : ℕ → Answer
  pub given : Way → Outcome Answer
  -- a refusal's status is its number, and it counts no bytes; an answer's status is 0, and it counts the bytes that it lays
  pub numbered : (number : ℕ) → status (refused number) ≡ number
  pub uncounted : (number : ℕ) → 0 ≡ count (refused number)
  pub is-done : (way : Way) → status (given way).answer ≡ done
  pub counts : (way : Way) → d.Counted count (given way)

pub data Ends {Answer Way : Type 0} (kind : Kind Answer Way) (outcome : Outcome Answer) : Type 0 where
  refuses : (number : ℕ) → (number ≡ done → ⊥) → outcome ≡ record { answer = kind.refused number; bytes = [] } → Ends kind outcome
  answers : (way : Way) → outcome ≡ kind.given way → Ends kind outcome

module _ {Answer Way : Type 0} {kind : Kind Answer Way} {outcome : Outcome Answer} (ends : Ends kind outcome) where
  pub counted : d.Counted kind.count outcome
  counted = goes ends
    where
      goes : Ends kind outcome → d.Counted kind.count outcome
      goes (refuses number h e) = rw e (kind.uncounted number)
      goes (answers way e) = rw e (kind.counts way)

  pub determined : {old old' new new' : List ℕ} {answer answer' : Answer} → Wrote outcome old new answer → Wrote outcome old' new' answer'
      → (answer ≡ answer') × (take (kind.count answer) new ≡ take (kind.count answer) new')
  determined wr wr' = d.determined kind.count outcome counted wr wr'

  module _ {place : ℕ} {old new : List ℕ} {answer : Answer} (wr : WroteAt place outcome old new answer) where
    pub refused-with : (kind.status answer ≡ done → ⊥) → (number : ℕ) × (answer ≡ kind.refused number) × (new ≡ old)
    refused-with z = goes ends
      where
        goes : Ends kind outcome → (number : ℕ) × (answer ≡ kind.refused number) × (new ≡ old)
        goes (refuses number h e) = (number, said wr e, held wr e ∙ over-nil place old)
        goes (answers way e) = absurd (z (told wr kind.status e ∙ kind.is-done way))

    pub given_in : kind.status answer ≡ done → (way : Way) × (outcome ≡ kind.given way)
    given_in z = goes ends
      where
        goes : Ends kind outcome → (way : Way) × (outcome ≡ kind.given way)
        goes (refuses number h e) = absurd (h (sym (told wr kind.status e ∙ kind.numbered number) ∙ z))
        goes (answers way e) = (way, e)

  -- at the buffer's start
  module _ {old new : List ℕ} {answer : Answer} (wr : Wrote outcome old new answer) where
    pub behind : drop (kind.count answer) new ≡ drop (kind.count answer) old
    behind = d.behind kind.count outcome counted wr

    -- the bytes of a known outcome are laid
    pub laid_in : {other : Outcome Answer} → outcome ≡ other → Laid other.bytes (kind.count answer) old new
    laid_in e =
        let bytes = ap (λ (o : Outcome Answer). o.bytes) e in
        record { full = sym (d.length_written kind.count outcome counted wr) ∙ ap length bytes; front = d.front kind.count outcome counted wr ∙ bytes; behind = behind }

-- ---- the writers: of link words, and of datagrams as blocks and as slot bursts
abbrev pub writers : Kind Written (List ℕ)
writers = record {
  status = λ answer. answer.status;
  count = λ answer. answer.count;
  refused = refused;
  given = writing;
  numbered = λ number. refl;
  uncounted = λ number. refl;
  is-done = λ bytes. refl;
  counts = λ bytes. refl;
}

pub word-ends : (n room : ℕ) → Ends writers (write_word n room)
word-ends n room = goes (w.writing-goes n room)
  where
    goes : w.Writing n room → Ends writers (write_word n room)
    goes (w.too_high h e) = refuses not_offered (λ z. omega (arith, z)) e
    goes (w.too_short h f e) = refuses no_room (λ z. omega (arith, z)) e
    goes (w.writes h f e) = answers _ e

pub task_ends : (task : Task) (room : ℕ) → Ends writers (write_task task room)
task_ends task room = goes (t.writing-goes task room)
  where
    goes : t.Writing task room → Ends writers (write_task task room)
    goes (t.unoffered o e) = refuses not_offered (λ z. omega (arith, z)) e
    goes (t.too_long o h e) = refuses wrong_length (λ z. omega (arith, z)) e
    goes (t.too_short o h f e) = refuses no_room (λ z. omega (arith, z)) e
    goes (t.writes o h f e) = answers task.bits e

-- a writer that refuses answers no count
pub wrote_none : {outcome : Outcome Written} → Ends writers outcome → {old new : List ℕ} {answer : Written} → Wrote outcome old new answer
    → (answer.status ≡ done → ⊥) → (answer.count ≡ 0) × (new ≡ old)
wrote_none ends wr z = let r = refused-with ends wr z in (ap (λ (a : Written). a.count) r.1, r.2)
