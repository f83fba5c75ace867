-- The register's own top bits, sent in the highest first, take themselves out: the bits below them move up, and nothing is added.
-- Assumes nothing.
use mathlib.Core.Path.{◌≡◌, sym, ap, ap₂, ◌∙◌, subst}
use Prim.Native.Nat.{ℕ, zero, suc, ◌+◌, ◌*◌, ◌/◌, ◌%◌, ◌^◌, ◌<◌}
use native.Mathlib.Nat.{mod-lt, zero-mul, mul_assoc, pow-suc, pow-succ'}
use native.Mathlib.Omega.{arith}
use lib.Arith.{digits_lt}
use lib.Bits.{bit_xor, xor_self, xor_zero_r}
use lib.Pow.{pow_pos, pow-add, shr-shr, field, high, low, mod-pow-add, mod-mod-pow}
use Rattle.bits.specs.Bits.{is_one}
use Rattle.bits.specs.Row.{high_first}
use Rattle.bits.proofs.Bits.{byte-is_one}
use Rattle.check32.specs.Check.{x32, step, register_from}
use Rattle.check32.proofs.Word.{step-word}

-- its own top bit only moves the register up by one place
own_bit : (r : ℕ) → r < 2 ^ 32 → step r (is_one (r / 2 ^ 31)) ≡ r * 2 % 2 ^ 32
own_bit r h =
    let top = r / 2 ^ 31 in
    let moved = r * 2 % 2 ^ 32 in
    sym (step-word r h (is_one top) top (sym (byte-is_one top (omega arith))))
    ∙ ap (λ (x : ℕ). bit_xor moved (x * x32)) (xor_self top) ∙ xor_zero_r moved

-- the digits n, .., 0 of w at the top of the register, and v below them: the next to come in, and what is left after it
module _ (n m w v : ℕ) (e : suc n + m ≡ 32) (h : v < 2 ^ m) where
  abbrev digits : ℕ
  digits = w % 2 ^ suc n

  abbrev held : ℕ
  held = digits * 2 ^ m + v

  held-lt : held < 2 ^ 32
  held-lt = subst (λ (x : ℕ). held < x) (sym (pow-add 2 (suc n) m) ∙ ap (λ (x : ℕ). 2 ^ x) e) (digits_lt (mod-lt w (pow_pos (suc n))) h)

  next : held / 2 ^ 31 ≡ w / 2 ^ n % 2
  next =
      let all : 31 ≡ m + n = omega arith in
      let one : suc n ≡ 1 + n = omega arith in
      ap (λ (x : ℕ). held / 2 ^ x) all ∙ sym (shr-shr held m n) ∙ ap (λ (x : ℕ). x / 2 ^ n) (high digits m h) ∙ rw one (field w 1 n)

  below : v * 2 < 2 ^ suc m
  below = rw pow-suc (omega arith)

  rest : held * 2 % 2 ^ 32 ≡ w % 2 ^ n * 2 ^ suc m + v * 2
  rest =
      let one : suc n ≡ 1 + n = omega arith in
      let all : 32 ≡ n + suc m = omega arith in
      let up : held * 2 ≡ digits * 2 ^ suc m + v * 2 = rw (pow-suc 2 m) (omega (arith, mul_assoc digits (2 ^ m) 2)) in
      ap₂ (λ (x y : ℕ). x % 2 ^ y) up all
      ∙ mod-pow-add (digits * 2 ^ suc m + v * 2) n (suc m)
      ∙ ap₂ (λ (x y : ℕ). x % 2 ^ n * 2 ^ suc m + y) (high digits (suc m) below) (low digits (suc m) below)
      ∙ ap (λ (x : ℕ). x * 2 ^ suc m + v * 2) (rw one (mod-mod-pow w 1 n))

pub own_bits : (n m w v : ℕ) → n + m ≡ 32 → v < 2 ^ m → register_from (w % 2 ^ n * 2 ^ m + v) (high_first n w) ≡ v * 2 ^ n
unfolding register_from high_first
own_bits zero m w v e h = let none : w % 2 ^ 0 ≡ 0 = omega (arith, mod-lt w (pow_pos 0)) in rw none (omega (arith, zero-mul (2 ^ m)))
own_bits (suc n) m w v e h =
    ap (λ (x : ℕ). register_from x (high_first n w))
    (ap (λ (x : ℕ). step (held n m w v e h) (is_one x)) (sym (next n m w v e h)) ∙ own_bit (held n m w v e h) (held-lt n m w v e h) ∙ rest n m w v e h)
    ∙ own_bits n (suc m) w (v * 2) (omega arith) (below n m w v e h) ∙ rw (pow-succ' 2 n) (mul_assoc v 2 (2 ^ n))
