-- To multiply by x is linear and loses nothing.
-- Assumes nothing.
use mathlib.Core.Path.{◌≡◌, ap, ap₂, ◌∙◌}
use Prim.Native.Nat.{ℕ, zero, suc, ◌*◌, ◌/◌, ◌%◌, ◌^◌, ◌<◌}
use native.Mathlib.Nat.{mod-lt, zero-lt-suc}
use native.Mathlib.Omega.{arith}
use Rattle.bits.specs.Xor.{◌⊕◌}
use Rattle.bits.proofs.Xor.{⊕_self, ⊕_middle, ⊕_equal, ⊕_double, ⊕-digit}
use Rattle.check32.specs.Check.{generator, times_x}

pub times_x-⊕ : (r s : ℕ) → times_x (r ⊕ s) ≡ times_x r ⊕ times_x s
unfolding times_x
times_x-⊕ r s =
    ap₂ ◌⊕◌ (⊕-digit 31 generator r s) (⊕_double r s)
    ∙ ⊕_middle (r / 2 ^ 31 % 2 * generator) (s / 2 ^ 31 % 2 * generator) (r * 2) (s * 2)

-- the generator is odd, so only 0 goes to 0
nothing_lost : (r t : ℕ) → t < 2 → t * generator ≡ r * 2 → r ≡ 0
nothing_lost r zero h e = omega arith
nothing_lost r (suc zero) h e = absurd (omega arith)
nothing_lost r (suc (suc t)) h e = absurd (omega arith)

pub times_x-zero : (r : ℕ) → times_x r ≡ 0 → r ≡ 0
unfolding times_x
times_x-zero r e = nothing_lost r (r / 2 ^ 31 % 2) (mod-lt (r / 2 ^ 31) (zero-lt-suc 1)) (⊕_equal _ _ e)

pub times_x_equal : (r s : ℕ) → times_x r ≡ times_x s → r ≡ s
times_x_equal r s e = ⊕_equal r s (times_x-zero (r ⊕ s) (times_x-⊕ r s ∙ ap (λ (x : ℕ). x ⊕ times_x s) e ∙ ⊕_self (times_x s)))
