-- The register and the number that stands for it.
-- Assumes nothing.
use mathlib.Core.Path.{◌≡◌, refl, sym, ap, ◌∙◌}
use mathlib.Core.Bool.{Bool, true, false}
use Prim.Native.Nat.{ℕ, ◌/◌, ◌%◌, ◌<◌}
use native.Mathlib.Omega.{arith}
use mir.Val.{bool_byte}
use Rattle.bits.specs.Bits.{is_one, byte}
use Rattle.bits.proofs.Bits.{byte-lt, is_one-byte}
use Rattle.turbo.specs.Encoder.{Register}
use Rattle.encoder.specs.Working.Number.{register_of, number_of, number_of-register_of}

-- the register that three bits make, each kept as a byte
register_of_lem : (x : Register) (b1 b2 b3 : ℕ) → b1 ≡ byte x.a1 → b2 ≡ byte x.a2 → b3 ≡ byte x.a3 → record { a1 = is_one b1; a2 = is_one b2; a3 = is_one b3 } ≡ x
register_of_lem x b1 b2 b3 e1 e2 e3 = rw (e1, e2, e3, is_one-byte x.a1, is_one-byte x.a2, is_one-byte x.a3)

-- a register's number makes the register
pub register-made : (x : Register) {n : ℕ} → n ≡ number_of x → register_of n ≡ x
unfolding register_of number_of
register-made x {n} e =
    let h1 = byte-lt x.a1 in
    let h2 = byte-lt x.a2 in
    register_of_lem x (n % 2) (n / 2 % 2) (n / 4 % 2) (omega (arith, e, h1)) (omega (arith, e, h1, h2)) (omega (arith, e, h1, h2, byte-lt x.a3))

-- .. and the number below 8 that makes a register is the register's
pub number-made : (x : Register) {n : ℕ} → register_of n ≡ x → n < 8 → n ≡ number_of x
number-made x {n} e below = sym (number_of-register_of n below) ∙ ap number_of e

-- a bool as a number
pub byte_cast : (b : Bool) → bool_byte b ≡ byte b
byte_cast true = refl
byte_cast false = refl
