-- A fixed row added to others by exclusive or: it undoes itself, and takes no two rows further apart. The rows of two numbers.
-- Assumes nothing.
use mathlib.Core.Path.{◌≡◌, refl, sym, ap, ap₂, ◌∙◌}
use mathlib.Core.Bool.{Bool, true, false, xor}
use mathlib.Core.List.{List, [], ◌∷◌}
use Prim.Native.Nat.{ℕ, zero, suc, ◌/◌, ◌%◌, ◌^◌, ◌≤◌, zero-le}
use native.Mathlib.Omega.{arith}
use lib.ListN.{length}
use Rattle.bits.specs.Bits.{is_one}
use Rattle.bits.specs.Row.{high_first, differ, differences}
use Rattle.bits.specs.Xor.{◌⊕◌, xor_rows}
use Rattle.bits.proofs.Bits.{is_one-byte, byte-is_one}
use Rattle.bits.proofs.Xor.{⊕-bits, ⊕-place}

pub length-xor_rows : (key row : List Bool) → length row ≤ length key → length (xor_rows key row) ≡ length row
unfolding xor_rows
length-xor_rows [] [] h = refl
length-xor_rows [] (x ∷ row) h = absurd (omega arith)
length-xor_rows (k ∷ key) [] h = refl
length-xor_rows (k ∷ key) (x ∷ row) h = ap suc (length-xor_rows key row (omega arith))

xor_twice : (k x : Bool) → xor k (xor k x) ≡ x
unfolding xor
xor_twice true true = refl
xor_twice true false = refl
xor_twice false true = refl
xor_twice false false = refl

pub xor_rows_twice : (key row : List Bool) → length row ≤ length key → xor_rows key (xor_rows key row) ≡ row
unfolding xor_rows
xor_rows_twice [] [] h = refl
xor_rows_twice [] (x ∷ row) h = absurd (omega arith)
xor_rows_twice (k ∷ key) [] h = refl
xor_rows_twice (k ∷ key) (x ∷ row) h = ap₂ ◌∷◌ (xor_twice k x) (xor_rows_twice key row (omega arith))

xor_rows-le : (key row : List Bool) → length (xor_rows key row) ≤ length row
unfolding xor_rows
xor_rows-le [] row = zero-le
xor_rows-le (k ∷ key) [] = zero-le
xor_rows-le (k ∷ key) (x ∷ row) = omega (arith, xor_rows-le key row)

differ-xor : (k x y : Bool) → differ (xor k x) (xor k y) ≡ differ x y
unfolding xor
differ-xor true true true = refl
differ-xor true true false = refl
differ-xor true false true = refl
differ-xor true false false = refl
differ-xor false true true = refl
differ-xor false true false = refl
differ-xor false false true = refl
differ-xor false false false = refl

pub differences-xor_rows : (key xs ys : List Bool) → differences (xor_rows key xs) (xor_rows key ys) ≤ differences xs ys
unfolding xor_rows differences
differences-xor_rows [] xs ys = zero-le
differences-xor_rows (k ∷ key) [] ys = xor_rows-le (k ∷ key) ys
differences-xor_rows (k ∷ key) (x ∷ xs) [] = omega (arith, xor_rows-le key xs)
differences-xor_rows (k ∷ key) (x ∷ xs) (y ∷ ys) = omega (arith, differ-xor k x y, differences-xor_rows key xs ys)

-- ---- the rows of two numbers
digit-⊕ : (a b : ℕ) → xor (is_one (a % 2)) (is_one (b % 2)) ≡ is_one ((a % 2) ⊕ (b % 2))
digit-⊕ a b =
    let x = is_one (a % 2) in
    let y = is_one (b % 2) in
    sym (is_one-byte (xor x y)) ∙ ap is_one (sym (⊕-bits x y) ∙ ap₂ ◌⊕◌ (byte-is_one (a % 2) (omega arith)) (byte-is_one (b % 2) (omega arith)))

pub xor_rows-high_first : (n a b : ℕ) → xor_rows (high_first n a) (high_first n b) ≡ high_first n (a ⊕ b)
unfolding xor_rows high_first
xor_rows-high_first zero a b = refl
xor_rows-high_first (suc n) a b =
    ap₂ ◌∷◌ (digit-⊕ (a / 2 ^ n) (b / 2 ^ n) ∙ ap is_one (sym (⊕-place n a b))) (xor_rows-high_first n a b)
