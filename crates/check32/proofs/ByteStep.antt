-- Eight bits at once: the register moves up, and its own top byte and the byte that comes in leave one mark, which the table has.
-- Assumes nothing.
use mathlib.Core.Path.{◌≡◌, sym, ap, ap₂, ◌∙◌}
use mathlib.Core.Bool.{Bool}
use mathlib.Core.List.{List}
use Prim.Native.Nat.{ℕ, ◌+◌, ◌*◌, ◌/◌, ◌%◌, ◌^◌, ◌<◌, ◌≤◌}
use native.Mathlib.Omega.{arith}
use lib.Bits.{bit_xor, xor_lt}
use lib.ListN.{length, take, drop, take-append-drop}
use Rattle.bits.specs.Row.{high_first, number}
use Rattle.bits.specs.Xor.{◌⊕◌, xor_rows}
use Rattle.bits.proofs.Datagram.{byte-bits}
use Rattle.bits.proofs.Row.{length-high_first}
use Rattle.bits.proofs.Xor.{⊕_assoc, ⊕_self, ⊕-zero, zero-⊕}
use Rattle.bits.proofs.XorRows.{xor_rows-high_first}
use Rattle.check32.specs.Check.{register_from}
use Rattle.check32.proofs.ByteTable.{halves, halves_right}
use Rattle.check32.proofs.Linear.{register_from-append, register_from-xor}
use Rattle.check32.proofs.OwnBits.{own_bits}

module _ (r : ℕ) (h : r < 2 ^ 32) where
  abbrev top : ℕ
  top = r / 2 ^ 24

  -- its own top byte only moves the register up
  own_byte : register_from r (high_first 8 top) ≡ r * 2 ^ 8 % 2 ^ 32
  own_byte =
      let parts : r ≡ top % 2 ^ 8 * 2 ^ 24 + r % 2 ^ 24 = omega arith in
      ap (λ (x : ℕ). register_from x (high_first 8 top)) parts ∙ own_bits 8 24 top (r % 2 ^ 24) (omega arith) (omega arith) ∙ omega arith

  -- any other differs from it by what both together are
  other_byte : (b : ℕ) → (r * 2 ^ 8 % 2 ^ 32) ⊕ register_from 0 (high_first 8 (top ⊕ b)) ≡ register_from r (high_first 8 b)
  other_byte b =
      let both = high_first 8 (top ⊕ b) in
      let rows : xor_rows (high_first 8 top) both ≡ high_first 8 b = xor_rows-high_first 8 top (top ⊕ b) ∙ ap (high_first 8) (sym (⊕_assoc top top b) ∙ ap (λ (x : ℕ). x ⊕ b) (⊕_self top) ∙ zero-⊕ b) in
      ap (λ (x : ℕ). x ⊕ register_from 0 both) (sym own_byte)
      ∙ sym (register_from-xor r 0 (high_first 8 top) both (length-high_first 8 top ∙ sym (length-high_first 8 (top ⊕ b))))
      ∙ ap₂ register_from (⊕-zero r) rows

  -- ---- as code computes it
  module _ (b : ℕ) (l : b < 256) where
    pub byte_word : bit_xor (r * 2 ^ 8 % 2 ^ 32) (halves (bit_xor top b)) ≡ register_from r (high_first 8 b)
    unfolding ◌⊕◌
    byte_word = ap (bit_xor (r * 2 ^ 8 % 2 ^ 32)) (halves_right (bit_xor top b) (xor_lt 8 top b (omega arith) l)) ∙ other_byte b

-- ---- over a row, eight bits at a time
pub register-byte : (row : List Bool) (r : ℕ) → 8 ≤ length row → register_from (register_from r (high_first 8 (number (take 8 row)))) (drop 8 row) ≡ register_from r row
register-byte row r h = rw (byte-bits row h) (sym (register_from-append r (take 8 row) (drop 8 row)) ∙ ap (register_from r) (take-append-drop 8 row))
