-- The relation `WroteAt` leaves one answer and one content of the lent buffer: what stood there before reaches neither the answer nor the
-- bytes that are laid, and the bytes before and behind those stay.
-- Assumes nothing.
use mathlib.Core.Path.{◌≡◌, sym, ap, ◌∙◌}
use mathlib.Core.List.{List}
use Prim.Native.Nat.{ℕ, ◌+◌, ◌≤◌}
use native.Mathlib.Nat.{zero-add}
use native.Mathlib.Omega.{arith}
use lib.ListN.{length, take, drop}
use Rattle.lists.proofs.Over.{over-before, over-piece, over-behind}
use Rattle.answers.specs.Outcome.{Outcome, WroteAt, Wrote}

-- an answer's count is the number of bytes that are laid
abbrev pub Counted : {Answer : Type 0} → (Answer → ℕ) → Outcome Answer → Type 0
Counted count outcome = length outcome.bytes ≡ count outcome.answer

module _ {Answer : Type 0} (count : Answer → ℕ) (outcome : Outcome Answer) (counted : Counted count outcome) where
  module _ {place : ℕ} {old new : List ℕ} {answer : Answer} (w : WroteAt place outcome old new answer) where
    -- and so many are laid
    pub length_written : length outcome.bytes ≡ count answer
    length_written = counted ∙ ap count (sym w.answers)

    module _ (inside : place ≤ length old) where
      -- the bytes from the place on are the outcome's
      pub piece : take (count answer) (drop place new) ≡ outcome.bytes
      piece = rw (← length_written, w.leaves) (over-piece place outcome.bytes old inside)

      -- the bytes before and behind them stay
      pub before : take place new ≡ take place old
      before = rw w.leaves (over-before place outcome.bytes old inside)

      pub behind-piece : drop (place + count answer) new ≡ drop (place + count answer) old
      behind-piece = rw (← length_written, w.leaves) (over-behind place outcome.bytes old inside)

  -- equal answers and equal written bytes, whatever the buffers held before
  pub determined_at : {place : ℕ} {old old' new new' : List ℕ} {answer answer' : Answer} → place ≤ length old → place ≤ length old'
      → WroteAt place outcome old new answer → WroteAt place outcome old' new' answer'
      → (answer ≡ answer') × (take (count answer) (drop place new) ≡ take (count answer) (drop place new'))
  determined_at {place} {new' = new'} inside inside' w w' =
      let same = w.answers ∙ sym w'.answers in
      (same, piece w inside ∙ sym (piece w' inside') ∙ ap (λ (a : Answer). take (count a) (drop place new')) (sym same))

  -- at the buffer's start
  pub front : {old new : List ℕ} {answer : Answer} → Wrote outcome old new answer → take (count answer) new ≡ outcome.bytes
  front w = piece w (omega arith)

  pub behind : {old new : List ℕ} {answer : Answer} → Wrote outcome old new answer → drop (count answer) new ≡ drop (count answer) old
  behind w = rw zero-add at (behind-piece w (omega arith))

  pub determined : {old old' new new' : List ℕ} {answer answer' : Answer} → Wrote outcome old new answer → Wrote outcome old' new' answer'
      → (answer ≡ answer') × (take (count answer) new ≡ take (count answer) new')
  determined w w' = determined_at (omega arith) (omega arith) w w'

-- buffers that held the same before hold the same afterwards
pub one-content : {Answer : Type 0} {place : ℕ} {outcome : Outcome Answer} {old new new' : List ℕ} {answer answer' : Answer}
    → WroteAt place outcome old new answer → WroteAt place outcome old new' answer' → new ≡ new'
one-content w w' = w.leaves ∙ sym w'.leaves
