-- The register's clocks ahead of it, up to fourteen, from the number that it is now: the cells only move on towards the taps, so
-- that what it will put out is the digits of one sum, the lowest first.
-- Assumes nothing.
use mathlib.Core.Path.{◌≡◌, sym, ap, ap₂, ◌∙◌}
use Prim.Native.Nat.{ℕ, suc, ◌+◌, ◌-◌, ◌*◌, ◌/◌, ◌%◌, ◌^◌, ◌≤◌}
use native.Mathlib.Nat.{add_comm, add-mul, mul_assoc}
use native.Mathlib.Omega.{arith}
use lib.Bits.{bit_xor, block_half, block_odd, xor_mod, xor_shr}
use lib.Pow.{pow-add, shr-shr, mod-pow-add}
use Rattle.bits.specs.Bits.{byte}
use Rattle.scrambler.specs.Scrambler.{cells, output}
use Rattle.scrambler.proofs.Register.{output-word}

-- each digit with the one above it
abbrev pub sums : ℕ → ℕ
sums r = bit_xor (r / 2) r

-- the register j clocks on: j sums fed in above what is left
unfoldable pub ahead : ℕ → ℕ → ℕ
ahead r j = sums r % 2 ^ j * 2 ^ (15 - j) + r / 2 ^ j

pub ahead_none : (r : ℕ) → ahead r 0 ≡ r
unfolding ahead
ahead_none r = omega arith

pub ahead_eight : (r : ℕ) → ahead r 8 ≡ r / 256 + sums r % 256 * 128 % 65536
unfolding ahead
ahead_eight r = omega arith

module _ (r j : ℕ) where
  half_down : r / 2 ^ j / 2 ≡ r / 2 / 2 ^ j
  half_down = shr-shr r j 1 ∙ ap (λ (k : ℕ). r / 2 ^ k) (add_comm j 1) ∙ sym (shr-shr r 1 j)

  half : j ≤ 14 → ahead r j / 2 ≡ sums r % 2 ^ j * 2 ^ (14 - j) + r / 2 ^ j / 2
  unfolding ahead
  half h =
      let left : 15 - j ≡ suc (14 - j) = omega arith in
      rw left (block_half (sums r % 2 ^ j) (14 - j) (r / 2 ^ j))

  lowest : j ≤ 14 → ahead r j % 2 ≡ r / 2 ^ j % 2
  unfolding ahead
  lowest h =
      let left : 15 - j ≡ suc (14 - j) = omega arith in
      rw left (block_odd (sums r % 2 ^ j) (14 - j) (r / 2 ^ j))

  second : j ≤ 13 → ahead r j / 2 % 2 ≡ r / 2 / 2 ^ j % 2
  second h =
      let left : 14 - j ≡ suc (13 - j) = omega arith in
      rw (half (omega arith), left) (block_odd (sums r % 2 ^ j) (13 - j) (r / 2 ^ j / 2) ∙ ap (λ (x : ℕ). x % 2) half_down)

  -- what it puts out then is digit j of the sums
  pub ahead_output : j ≤ 13 → sums r / 2 ^ j % 2 ≡ byte (output (cells (ahead r j)))
  ahead_output h =
      ap (λ (x : ℕ). x % 2) (xor_shr (r / 2) r j)
      ∙ xor_mod (r / 2 / 2 ^ j) (r / 2 ^ j) 1
      ∙ sym (ap₂ bit_xor (second h) (lowest (omega arith)))
      ∙ sym (xor_mod (ahead r j / 2) (ahead r j) 1)
      ∙ output-word (ahead r j)

  -- and it is fed in
  pub ahead_more : j ≤ 13 → ahead r (j + 1) ≡ ahead r j / 2 + sums r / 2 ^ j % 2 * 2 ^ 14
  unfolding ahead
  ahead_more h =
      let digit = sums r / 2 ^ j % 2 in
      let done = sums r % 2 ^ j in
      let up = 2 ^ (14 - j) in
      let all : j + (14 - j) ≡ 14 = omega arith in
      let fourteen : 2 ^ j * up ≡ 2 ^ 14 = sym (pow-add 2 j (14 - j)) ∙ ap (λ (k : ℕ). 2 ^ k) all in
      let fed : sums r % 2 ^ (j + 1) * up ≡ digit * 2 ^ 14 + done * up =
      ap (λ (x : ℕ). x * up) (ap (λ (k : ℕ). sums r % 2 ^ k) (add_comm j 1) ∙ mod-pow-add (sums r) 1 j)
      ∙ add-mul (digit * 2 ^ j) done up
      ∙ ap (λ (x : ℕ). x + done * up) (mul_assoc digit (2 ^ j) up ∙ ap (λ (x : ℕ). digit * x) fourteen) in
      let left : 15 - (j + 1) ≡ 14 - j = omega arith in
      rw (half (omega arith), left) (omega (arith, fed, shr-shr r j 1))
