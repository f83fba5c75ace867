-- The register as a number, clock by clock.
-- Assumes nothing.
use mathlib.Core.Path.{◌≡◌, sym, ap, ap₂, ◌∙◌}
use mathlib.Core.Bool.{Bool, false, xor}
use mathlib.Core.List.{List}
use Prim.Native.Nat.{ℕ, suc, ◌+◌, ◌*◌, ◌/◌, ◌%◌, ◌^◌, ◌<◌}
use native.Mathlib.Nat.{div-one}
use native.Mathlib.Omega.{arith}
use lib.Bits.{bit_xor, xor_mod}
use lib.ListN.{length, get_or, take}
use lib.Seq.{length-take-le}
use Rattle.bits.specs.Bits.{is_one, byte}
use Rattle.bits.specs.Row.{number}
use Rattle.bits.proofs.Bits.{byte-is_one}
use Rattle.bits.proofs.Xor.{⊕-is, ⊕-bits}
use Rattle.bits.proofs.Row.{length-high_first, high_first-at, take-high_first, number-first, number-high_first, high_first-number, number_lt}
use Rattle.scrambler.specs.Scrambler.{cells, output, shifted}

-- the two lowest digits are cells 14 and 15
pub output-word : (r : ℕ) → bit_xor (r / 2) r % 2 ≡ byte (output (cells r))
unfolding output
output-word r =
    let x = r / 2 % 2 in
    let y = r % 2 in
    let last : is_one y ≡ get_or (cells r) 14 false = sym (high_first-at 15 r 14 (omega arith) ∙ ap (λ (d : ℕ). is_one (d % 2)) (div-one r)) in
    xor_mod (r / 2) r 1
    ∙ sym (ap₂ bit_xor (byte-is_one x (omega arith)) (byte-is_one y (omega arith)))
    ∙ ⊕-is (byte (is_one x)) (byte (is_one y))
    ∙ ⊕-bits (is_one x) (is_one y)
    ∙ ap₂ (λ (a b : Bool). byte (xor a b)) (sym (high_first-at 15 r 13 (omega arith))) last

-- what is fed in is the highest digit of the next register
pub shifted-word : (r : ℕ) → r < 2 ^ 15 → r / 2 + byte (output (cells r)) * 2 ^ 14 ≡ number (shifted (cells r))
unfolding shifted
shifted-word r h =
    sym (number-first (output (cells r)) (take 14 (cells r))
    ∙ rw (take-high_first 14 1 r, length-high_first 14 (r / 2), number-high_first 14 (r / 2) (omega arith)) (omega arith))

pub length-shifted : (row : List Bool) → length row ≡ 15 → length (shifted row) ≡ 15
unfolding shifted
length-shifted row e = ap suc (length-take-le 14 row (omega arith))

-- fifteen cells are the cells of their number, and it is below 2^15
pub cells-number : (row : List Bool) → length row ≡ 15 → cells (number row) ≡ row
cells-number row e = rw e at (high_first-number row)

pub number_small : (row : List Bool) → length row ≡ 15 → number row < 2 ^ 15
number_small row e = rw e at (number_lt row)
