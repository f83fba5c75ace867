-- The relation `WroteAt`: how a call shows it, and what it says of the answer and of the lent buffer where the outcome is known.
-- Assumes nothing.
use mathlib.Core.Path.{◌≡◌, refl, sym, ap, ◌∙◌}
use mathlib.Core.List.{List, []}
use Prim.Native.Nat.{ℕ}
use Rattle.lists.specs.Over.{over}
use Rattle.lists.proofs.Over.{over-nil}
use Rattle.answers.specs.Outcome.{Outcome, WroteAt}

-- ---- a call laid its bytes, or it refused and changed nothing
module _ {Answer : Type 0} {place : ℕ} {outcome : Outcome Answer} {given answer : Answer} {old : List ℕ} where
  pub lays : {bytes new : List ℕ} → outcome ≡ record { answer = given; bytes = bytes } → answer ≡ given → new ≡ over place bytes old → WroteAt place outcome old new answer
  lays e a p = rw (e, a) (record { answers = refl; leaves = p })

  pub refuses : outcome ≡ record { answer = given; bytes = [] } → answer ≡ given → WroteAt place outcome old old answer
  refuses e a = lays e a (sym (over-nil place old))

-- ---- what was answered, and what the buffer holds
module _ {Answer : Type 0} {place : ℕ} {outcome other : Outcome Answer} {old new : List ℕ} {answer : Answer} (w : WroteAt place outcome old new answer) where
  pub said : outcome ≡ other → answer ≡ other.answer
  said e = w.answers ∙ ap (λ (o : Outcome Answer). o.answer) e

  -- one field of the answer
  pub told : (field : Answer → ℕ) → outcome ≡ other → field answer ≡ field other.answer
  told field e = ap field (said e)

  pub held : outcome ≡ other → new ≡ over place other.bytes old
  held e = w.leaves ∙ ap (λ (o : Outcome Answer). over place o.bytes old) e
