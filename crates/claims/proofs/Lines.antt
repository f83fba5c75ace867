-- Lines give one number only, and none that they lack.
-- Assumes nothing.
use mathlib.Core.Path.{◌≡◌, sym, ◌∙◌}
use mathlib.Core.Logic.{inl, inr}
use mathlib.Core.Bool.{Bool, true, not, ◌&&◌}
use Prim.Native.Nat.{ℕ}
use lib.Dec.{eqb}
use borrow.Author.Tests.{eqb-false, not-true}
use Rattle.answers.specs.Numbers.{done}
use Rattle.lists.proofs.Tests.{both_true}
use Rattle.claims.specs.Lines.{Lines, none, line, Given}

pub one_number : (lines : Lines) (a b : ℕ) → Given lines a → Given lines b → a ≡ b
unfolding Given
one_number none a b e f = e ∙ sym f
one_number (line number applies behind) a b (inl h) (inl k) = h.1 ∙ sym k.1
one_number (line number applies behind) a b (inl h) (inr k) = absurd (k.0 h.0)
one_number (line number applies behind) a b (inr h) (inl k) = absurd (h.0 k.0)
one_number (line number applies behind) a b (inr h) (inr k) = one_number behind a b h.1 k.1

abbrev lacks : Lines → ℕ → Bool
lacks none n = not (eqb n done)
lacks (line number applies behind) n = not (eqb n number) && lacks behind n

pub never_given : (lines : Lines) (n : ℕ) → lacks lines n ≡ true → Given lines n → ⊥
unfolding Given
never_given none n h e = eqb-false n done (not-true _ h) e
never_given (line number applies behind) n h (inl k) = eqb-false n number (not-true (eqb n number) (both_true (not (eqb n number)) (lacks behind n) h).0) k.1
never_given (line number applies behind) n h (inr k) = never_given behind n (both_true (not (eqb n number)) (lacks behind n) h).1 k.1
