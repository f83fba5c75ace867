-- The number of places where two rows differ is a distance.
-- Assumes nothing.
use mathlib.Core.Path.{◌≡◌, refl, ap, ap₂}
use mathlib.Core.Bool.{Bool, true, false, true≢false, false≢true}
use mathlib.Core.List.{List, [], ◌∷◌}
use Prim.Native.Nat.{ℕ, zero, suc, ◌+◌, ◌≤◌, ◌<◌, zero-le}
use native.Mathlib.Omega.{arith}
use lib.ListN.{length, get_or, drop, length-drop}
use Rattle.bits.specs.Row.{differ, differences}

pub differences_self : (xs : List Bool) → differences xs xs ≡ 0
unfolding differences
differences_self [] = refl
differences_self (true ∷ xs) = omega (arith, differences_self xs)
differences_self (false ∷ xs) = omega (arith, differences_self xs)

differ_comm : (x y : Bool) → differ x y ≡ differ y x
differ_comm true true = refl
differ_comm true false = refl
differ_comm false true = refl
differ_comm false false = refl

pub differences_comm : (xs ys : List Bool) → differences xs ys ≡ differences ys xs
unfolding differences
differences_comm [] [] = refl
differences_comm [] (y ∷ ys) = refl
differences_comm (x ∷ xs) [] = refl
differences_comm (x ∷ xs) (y ∷ ys) = ap₂ ◌+◌ (differ_comm x y) (differences_comm xs ys)

differ_triangle : (x y z : Bool) → differ x z ≤ differ x y + differ y z
differ_triangle true true z = omega arith
differ_triangle true false true = omega arith
differ_triangle true false false = omega arith
differ_triangle false true true = omega arith
differ_triangle false true false = omega arith
differ_triangle false false z = omega arith

-- the length of one row is at most that of the other and the places where they differ
length-differences : (xs ys : List Bool) → length ys ≤ length xs + differences xs ys
unfolding differences
length-differences [] ys = omega arith
length-differences (x ∷ xs) [] = zero-le
length-differences (x ∷ xs) (y ∷ ys) = let h = length-differences xs ys in omega arith

-- and no more places differ than both have
pub differ-le : (x y : Bool) → differ x y ≤ 1
differ-le true true = omega arith
differ-le true false = omega arith
differ-le false true = omega arith
differ-le false false = omega arith

differences-le : (xs ys : List Bool) → differences xs ys ≤ length xs + length ys
unfolding differences
differences-le [] ys = omega arith
differences-le (x ∷ xs) [] = omega arith
differences-le (x ∷ xs) (y ∷ ys) = omega (arith, differences-le xs ys, differ-le x y)

pub differences_triangle : (xs ys zs : List Bool) → differences xs zs ≤ differences xs ys + differences ys zs
unfolding differences
differences_triangle [] ys zs = length-differences ys zs
differences_triangle (x ∷ xs) [] [] = omega arith
differences_triangle (x ∷ xs) [] (z ∷ zs) = differences-le (x ∷ xs) (z ∷ zs)
differences_triangle (x ∷ xs) (y ∷ ys) [] = omega (arith, length-differences (y ∷ ys) (x ∷ xs), differences_comm (x ∷ xs) (y ∷ ys))
differences_triangle (x ∷ xs) (y ∷ ys) (z ∷ zs) = omega (arith, differences_triangle xs ys zs, differ_triangle x y z)

-- a row that differs from two others only where they differ lies between them
differ-between : (x y z : Bool) → (x ≡ z → y ≡ x) → differ x z ≡ differ x y + differ y z
differ-between true true z h = omega arith
differ-between true false true h = absurd (false≢true (h refl))
differ-between true false false h = refl
differ-between false true true h = refl
differ-between false true false h = absurd (true≢false (h refl))
differ-between false false z h = omega arith

pub differences-between : (xs ys zs : List Bool) → length xs ≡ length ys → length ys ≡ length zs
    → ((i : ℕ) → i < length xs → get_or xs i false ≡ get_or zs i false → get_or ys i false ≡ get_or xs i false) → differences xs zs ≡ differences xs ys + differences ys zs
unfolding differences
differences-between [] [] zs l m h = omega arith
differences-between [] (y ∷ ys) zs l m h = absurd (omega arith)
differences-between (x ∷ xs) [] zs l m h = absurd (omega arith)
differences-between (x ∷ xs) (y ∷ ys) [] l m h = absurd (omega arith)
differences-between (x ∷ xs) (y ∷ ys) (z ∷ zs) l m h =
    omega (arith, differ-between x y z (h 0 (omega arith)), differences-between xs ys zs (omega arith) (omega arith) (λ i k. h (suc i) (omega arith)))

-- no place differs only where the rows are equal
pub differences-zero : (xs ys : List Bool) → differences xs ys ≡ 0 → xs ≡ ys
unfolding differences
differences-zero [] [] e = refl
differences-zero [] (y ∷ ys) e = absurd (omega arith)
differences-zero (x ∷ xs) [] e = absurd (omega arith)
differences-zero (true ∷ xs) (true ∷ ys) e = ap {B = List Bool} (λ l. true ∷ l) (differences-zero xs ys (omega arith))
differences-zero (true ∷ xs) (false ∷ ys) e = absurd (omega arith)
differences-zero (false ∷ xs) (true ∷ ys) e = absurd (omega arith)
differences-zero (false ∷ xs) (false ∷ ys) e = ap {B = List Bool} (λ l. false ∷ l) (differences-zero xs ys (omega arith))

-- places left out bring no two rows further apart
pub differences-drop : (n : ℕ) (xs ys : List Bool) → differences (drop n xs) (drop n ys) ≤ differences xs ys
unfolding differences
differences-drop zero xs ys = omega arith
differences-drop (suc n) [] ys = omega (arith, length-drop (suc n) ys)
differences-drop (suc n) (x ∷ xs) [] = omega (arith, differences_comm (drop n xs) [], length-drop n xs)
differences-drop (suc n) (x ∷ xs) (y ∷ ys) = omega (arith, differences-drop n xs ys)
