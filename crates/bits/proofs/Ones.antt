-- The ones of the exclusive-or of two rows' numbers are the places where the rows differ.
-- Assumes nothing.
use mathlib.Core.Path.{◌≡◌, refl, sym, ap, ◌∙◌}
use mathlib.Core.Bool.{Bool, true, false}
use mathlib.Core.List.{List, [], ◌∷◌}
use Prim.Native.Nat.{ℕ, ◌+◌, ◌*◌}
use native.Mathlib.Nat.{add_assoc, add-zero, zero-add}
use native.Mathlib.Omega.{arith}
use lib.Bits.{bit_xor, xor_block, xor_lt}
use lib.Count.{ones, ones_in, ones_cat}
use lib.ListN.{length}
use Rattle.bits.specs.Bits.{byte}
use Rattle.bits.specs.Row.{number_on, number, differ, differences}
use Rattle.bits.proofs.Bits.{byte-lt}

one-digit : (x y : Bool) → ones (bit_xor (byte x) (byte y)) ≡ differ x y
unfolding ones ones_in
one-digit true true = refl
one-digit true false = refl
one-digit false true = refl
one-digit false false = refl

-- one more digit behind either number
digit_more : (a b : ℕ) (x y : Bool) → ones (bit_xor (a * 2 + byte x) (b * 2 + byte y)) ≡ ones (bit_xor a b) + differ x y
digit_more a b x y =
    ap ones (xor_block 1 a b (byte x) (byte y) (byte-lt x) (byte-lt y))
    ∙ ones_cat 1 (bit_xor a b) (bit_xor (byte x) (byte y)) (xor_lt 1 (byte x) (byte y) (byte-lt x) (byte-lt y))
    ∙ ap (λ (n : ℕ). ones (bit_xor a b) + n) (one-digit x y)

row_more : (a b : ℕ) (xs ys : List Bool) → length xs ≡ length ys → ones (bit_xor (number_on a xs) (number_on b ys)) ≡ ones (bit_xor a b) + differences xs ys
unfolding number_on differences
row_more a b [] [] e = sym (add-zero (ones (bit_xor a b)))
row_more a b [] (y ∷ ys) e = absurd (omega arith)
row_more a b (x ∷ xs) [] e = absurd (omega arith)
row_more a b (x ∷ xs) (y ∷ ys) e =
    row_more (a * 2 + byte x) (b * 2 + byte y) xs ys (omega arith)
    ∙ ap (λ (n : ℕ). n + differences xs ys) (digit_more a b x y)
    ∙ add_assoc (ones (bit_xor a b)) (differ x y) (differences xs ys)

pub ones_differences : (xs ys : List Bool) → length xs ≡ length ys → ones (bit_xor (number xs) (number ys)) ≡ differences xs ys
unfolding ones ones_in
ones_differences xs ys e = row_more 0 0 xs ys e ∙ zero-add (differences xs ys)
