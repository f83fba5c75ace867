-- What one wrong bit does to the register, and how the register tells which it was.
use Rattle.std.specs.Prelude.{cond, ℕ, zero, suc, ◌+◌, eqb}
use Rattle.check32.specs.Check.{x32, times_x}

-- its mark: what a wrong bit with n bits after it adds to the register, x^n times x^32, reduced
unfoldable pub mark : ℕ → ℕ
mark zero = x32
mark (suc n) = times_x (mark n)

-- the first of `left` numbers from n on whose mark the register is, else the number behind them
unfoldable pub first_mark : ℕ → ℕ → ℕ → ℕ
first_mark register n zero = n
first_mark register n (suc left) = cond (eqb (mark n) register) n (first_mark register (n + 1) left)

-- how many bits of a row of k are after the one wrong bit that leaves this register; k where no one bit does
abbrev pub bits_after : ℕ → ℕ → ℕ
bits_after register k = first_mark register 0 k
