-- A row with its own check bits behind it closes, and with no other 32 bits behind it does it close.
-- Assumes nothing.
use mathlib.Core.Path.{◌≡◌, refl, sym, ap, ◌∙◌}
use mathlib.Core.Bool.{Bool}
use mathlib.Core.List.{List, [], ◌∷◌, ◌++◌}
use Prim.Native.Nat.{ℕ, ◌*◌, ◌^◌, ◌<◌}
use native.Mathlib.Nat.{mod-eq_of_lt, zero-lt-suc}
use native.Mathlib.Omega.{arith}
use lib.ListN.{length}
use Rattle.bits.specs.Bits.{byte}
use Rattle.bits.specs.Row.{high_first, number}
use Rattle.bits.proofs.Row.{high_first-number, number_lt}
use Rattle.bits.proofs.Xor.{⊕_cancel}
use Rattle.check32.specs.Check.{x32, times_x, step, register_from, loaded, register, check_bits}
use Rattle.check32.specs.Working.Closes.{Closes}
use Rattle.check32.proofs.Linear.{register_from-append}
use Rattle.check32.proofs.OwnBits.{own_bits}
use Rattle.check32.proofs.TimesX.{times_x_equal}
use Rattle.check32.proofs.Word.{register-lt}

-- its own 32 bits take any register to zero
own_closes : (r : ℕ) → r < 2 ^ 32 → register_from r (high_first 32 r) ≡ 0
own_closes r h = ap (λ (x : ℕ). register_from x (high_first 32 r)) (omega (arith, mod-eq_of_lt h)) ∙ own_bits 32 0 r 0 refl (zero-lt-suc 0)

pub closed : (row : List Bool) → Closes (row ++ check_bits row)
closed row = register_from-append loaded row (check_bits row) ∙ own_closes (register row) (register-lt row)

-- the same bits take no two registers to one
register_from_equal : (r s : ℕ) (row : List Bool) → register_from r row ≡ register_from s row → r ≡ s
unfolding register_from step
register_from_equal r s [] e = e
register_from_equal r s (b ∷ row) e = times_x_equal r s (⊕_cancel (byte b * x32) (times_x r) (times_x s) (register_from_equal (step r b) (step s b) row e))

-- 32 bits that take the register to zero are its own, since they also take the number that they make to zero
pub check_only : (row check : List Bool) → length check ≡ 32 → Closes (row ++ check) → check ≡ check_bits row
check_only row check l c =
    let w = number check in
    let bits : high_first 32 w ≡ check = rw l at (high_first-number check) in
    let small : w < 2 ^ 32 = rw l at (number_lt check) in
    let zero : register_from w check ≡ 0 = rw bits at (own_closes w small) in
    let same : register row ≡ w = register_from_equal (register row) w check (sym (register_from-append loaded row check) ∙ c ∙ sym zero) in
    sym bits ∙ ap (high_first 32) (sym same)
