-- The register on 32 bits, as code computes it.
-- Assumes nothing.
use mathlib.Core.Path.{◌≡◌, ap, ap₂, ◌∙◌}
use mathlib.Core.Bool.{Bool, false}
use mathlib.Core.List.{List, [], ◌∷◌}
use Prim.Native.Nat.{ℕ, ◌+◌, ◌*◌, ◌/◌, ◌%◌, ◌^◌, ◌<◌, ◌≤◌}
use native.Mathlib.Nat.{zero-add}
use native.Mathlib.Numerals.{add-one}
use native.Mathlib.Omega.{arith}
use lib.Bits.{bit_xor, xor_block, xor_self, xor_lt, xor_zero_r}
use lib.Dec.{lit<}
use lib.ListN.{length, get_or, drop, drop_of_length-le}
use lib.Seq.{drop-cons}
use Rattle.bits.specs.Bits.{byte}
use Rattle.bits.specs.Xor.{◌⊕◌}
use Rattle.bits.proofs.Bits.{byte-lt}
use Rattle.bits.proofs.Xor.{⊕-is, ⊕_comm, ⊕-left_comm, ⊕-lt, ⊕_times}
use Rattle.check32.specs.Check.{generator, x32, times_x, step, register_from, loaded, register}

-- equal digits from 2^32 on fall away
above : (t a b : ℕ) → a < 2 ^ 32 → b < 2 ^ 32 → (t * 2 ^ 32 + a) ⊕ (t * 2 ^ 32 + b) ≡ a ⊕ b
unfolding ◌⊕◌
above t a b h l = xor_block 32 t t a b h l ∙ ap (λ (x : ℕ). x * 2 ^ 32 + bit_xor a b) (xor_self t) ∙ zero-add (bit_xor a b)

module _ (r : ℕ) (h : r < 2 ^ 32) where
  -- the top bit, and the register moved up by one place
  abbrev top : ℕ
  top = r / 2 ^ 31

  abbrev moved : ℕ
  moved = r * 2 % 2 ^ 32

  times_x-word : times_x r ≡ (top * x32) ⊕ moved
  unfolding times_x
  times_x-word =
      let one : r / 2 ^ 31 % 2 * generator ≡ top * 2 ^ 32 + top * x32 = omega arith in
      let two : r * 2 ≡ top * 2 ^ 32 + moved = omega arith in
      ap₂ ◌⊕◌ one two ∙ above top (top * x32) moved (omega arith) (omega arith)

  pub step-word : (b : Bool) (bit : ℕ) → bit ≡ byte b → bit_xor moved (bit_xor top bit * x32) ≡ step r b
  unfolding step
  step-word b bit e =
      ⊕-is moved (bit_xor top bit * x32)
      ∙ ap (λ (x : ℕ). moved ⊕ x) (ap (λ (x : ℕ). x * x32) (ap (bit_xor top) e ∙ ⊕-is top (byte b)) ∙ ⊕_times x32 top (byte b) (omega arith) (byte-lt b))
      ∙ simp (times_x-word, ⊕_comm, ⊕-left_comm)

  -- ---- as code computes it: the bit is added to the top one, and then the register moves up
  module _ (b : Bool) (bit : ℕ) (e : bit ≡ byte b) where
    abbrev fed : ℕ
    fed = bit_xor r (bit * 2 ^ 31 % 2 ^ 32)

    small : bit_xor top bit < 2
    small = xor_lt 1 top bit (omega arith) (omega (arith, e, byte-lt b))

    fed-is : fed ≡ bit_xor top bit * 2 ^ 31 + r % 2 ^ 31
    fed-is =
        let register : r ≡ top * 2 ^ 31 + r % 2 ^ 31 = omega arith in
        let added : bit * 2 ^ 31 % 2 ^ 32 ≡ bit * 2 ^ 31 + 0 = omega (arith, e, byte-lt b) in
        ap₂ bit_xor register added ∙ xor_block 31 top bit (r % 2 ^ 31) 0 (omega arith) (omega arith) ∙ ap (λ (x : ℕ). bit_xor top bit * 2 ^ 31 + x) (xor_zero_r (r % 2 ^ 31))

    fed_top : fed / 2 ^ 31 ≡ bit_xor top bit
    fed_top = omega (arith, fed-is, small)

    pub fed-word : bit_xor (fed * 2 % 2 ^ 32) (fed / 2 ^ 31 * x32) ≡ step r b
    fed-word =
        let up : fed * 2 % 2 ^ 32 ≡ moved = omega (arith, fed-is, small) in
        ap₂ (λ (x y : ℕ). bit_xor x (y * x32)) up fed_top ∙ step-word b bit e

  pub step-lt : (b : Bool) → step r b < 2 ^ 32
  unfolding step
  step-lt b =
      rw times_x-word (⊕-lt 32 (byte b * x32) ((top * x32) ⊕ moved) (omega (arith, byte-lt b)) (⊕-lt 32 (top * x32) moved (omega arith) (omega arith)))

pub register_from-lt : (r : ℕ) (row : List Bool) → r < 2 ^ 32 → register_from r row < 2 ^ 32
unfolding register_from
register_from-lt r [] h = h
register_from-lt r (b ∷ row) h = register_from-lt (step r b) row (step-lt r h b)

pub register-lt : (row : List Bool) → register row < 2 ^ 32
register-lt row = register_from-lt loaded row (lit< tt)

-- ---- over a row, bit by bit
pub register_more : (row : List Bool) (r i : ℕ) → i < length row
    → register_from (step r (get_or row i false)) (drop (i + 1) row) ≡ register_from r (drop i row)
unfolding register_from
register_more row r i h = rw (drop-cons row i false h, add-one)

pub register-done : (row : List Bool) (r i : ℕ) → length row ≤ i → register_from r (drop i row) ≡ r
unfolding register_from
register-done row r i h = rw (drop_of_length-le row h)
