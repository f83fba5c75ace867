-- The marks, and the search for a register among them: step by step, and what it finds.
-- Assumes nothing.
use mathlib.Core.Path.{◌≡◌, refl, ap, ◌∙◌}
use mathlib.Core.Logic.{⊎_elim}
use mathlib.Core.Bool.{Bool, true, false, cond}
use Prim.Native.Nat.{ℕ, zero, suc, ◌+◌, ◌-◌, ◌^◌, ◌<◌, ◌≤◌, zero-le}
use native.Mathlib.Nat.{eq-or-lt_of_le}
use native.Mathlib.Numerals.{add-one}
use native.Mathlib.Omega.{arith}
use lib.Dec.{eqb, lit<}
use borrow.Author.Tests.{eqb-true, eqb-false, eq-eqb, ne_eqb}
use Rattle.bits.proofs.Xor.{zero-⊕}
use Rattle.check32.specs.Check.{x32, times_x, step}
use Rattle.check32.specs.Working.Marks.{mark, first_mark, bits_after}
use Rattle.check32.proofs.TimesX.{times_x-zero}
use Rattle.check32.proofs.Word.{step-lt}

-- ---- the mark, bit by bit
pub mark-start : mark 0 ≡ x32
unfolding mark
mark-start = refl

pub mark-next : (n : ℕ) → step (mark n) false ≡ mark (n + 1)
unfolding step mark
mark-next n = rw add-one (zero-⊕ (times_x (mark n)))

pub mark-not-zero : (n : ℕ) → mark n ≡ 0 → ⊥
unfolding mark
mark-not-zero zero e = omega arith
mark-not-zero (suc n) e = mark-not-zero n (times_x-zero (mark n) e)

pub mark-lt : (n : ℕ) → mark n < 2 ^ 32
mark-lt zero = rw mark-start (lit< tt)
mark-lt (suc n) = rw (← add-one n, ← mark-next n) (step-lt (mark n) (mark-lt n) false)

-- ---- the search, step by step
left : (n k : ℕ) → n < k → k - n ≡ suc (k - (n + 1))
left n k h = omega arith

pub mark_here : (register n k : ℕ) → n < k → mark n ≡ register → first_mark register n (k - n) ≡ n
unfolding first_mark
mark_here register n k h e = rw (left n k h, eq-eqb (mark n) register e)

pub mark_later : (register n k : ℕ) → n < k → (mark n ≡ register → ⊥) → first_mark register n (k - n) ≡ first_mark register (n + 1) (k - (n + 1))
unfolding first_mark
mark_later register n k h e = rw (left n k h, ne_eqb (mark n) register e)

pub mark-none : (register n k : ℕ) → k ≤ n → first_mark register n (k - n) ≡ n
unfolding first_mark
mark-none register n k h = let none : k - n ≡ 0 = omega arith in rw none

-- ---- what it finds
module _ (register : ℕ) where
  picked : (n m end : ℕ) (b : Bool) → eqb (mark n) register ≡ b → (m < end → mark m ≡ register) → cond b n m < end → mark (cond b n m) ≡ register
  picked n m end true e f h = eqb-true (mark n) register e
  picked n m end false e f h = f h

  -- a number that is found below the end has the register for its mark
  found : (n left : ℕ) → first_mark register n left < n + left → mark (first_mark register n left) ≡ register
  unfolding first_mark
  found n zero h = absurd (omega arith)
  found n (suc left) h =
      picked n (first_mark register (n + 1) left) (n + suc left) (eqb (mark n) register) refl (λ l. found (n + 1) left (omega arith)) h

  passed : (n m j : ℕ) (b : Bool) → eqb (mark n) register ≡ b → n ≤ j → mark j ≡ register → (n < j → m ≤ j) → cond b n m ≤ j
  passed n m j true e h r f = h
  passed n m j false e h r f = ⊎_elim (λ (s : n ≡ j). absurd (eqb-false (mark n) register e (ap mark s ∙ r))) f (eq-or-lt_of_le h)

  -- and none before it has
  first : (n left j : ℕ) → n ≤ j → j < n + left → mark j ≡ register → first_mark register n left ≤ j
  unfolding first_mark
  first n zero j h l r = absurd (omega arith)
  first n (suc left) j h l r =
      passed n (first_mark register (n + 1) left) j (eqb (mark n) register) refl h r (λ m. first (n + 1) left j (omega arith) (omega arith) r)

pub bits_after-found : (register k : ℕ) → bits_after register k < k → mark (bits_after register k) ≡ register
bits_after-found register k h = found register 0 k (omega arith)

pub bits_after-first : (register k n : ℕ) → n < k → mark n ≡ register → bits_after register k ≤ n
bits_after-first register k n h e = first register 0 k n zero-le (omega arith) e
