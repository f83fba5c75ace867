-- A rule over the numbers below a bound, proved at each of them by one test that antt computes.
-- Assumes nothing.
use mathlib.Core.Bool.{Bool, true, ◌&&◌}
use Prim.Native.Nat.{ℕ, zero, suc, ◌<◌}
use native.Mathlib.Nat.{not-suc-le-zero}
use native.Mathlib.Numerals.{add-one}
use lib.Dec.{T}
use borrow.Author.Count.{below_more}
use Rattle.lists.proofs.Tests.{both_left, both_right}

-- f holds at n - 1, .., 1, 0
abbrev pub upto : ℕ → (ℕ → Bool) → Bool
upto zero f = true
upto (suc n) f = f n && upto n f

pub line : (n : ℕ) (f : ℕ → Bool) → T (upto n f) → (k : ℕ) → k < n → T (f k)
line zero f t k h = absurd (not-suc-le-zero h)
line (suc n) f t k h = below_more (λ (m : ℕ). T (f m)) n (line n f (both_right (f n) (upto n f) t)) (both_left (f n) (upto n f) t) k (rw add-one h)

-- the same of two numbers
pub square : (m n : ℕ) (f : ℕ → ℕ → Bool) → T (upto m (λ a. upto n (λ b. f a b))) → (a b : ℕ) → a < m → b < n → T (f a b)
square m n f t a b ha hb = line n (λ b. f a b) (line m (λ a. upto n (λ b. f a b)) t a ha) b hb
