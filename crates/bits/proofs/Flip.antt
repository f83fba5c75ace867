-- A row with one bit inverted: one place differs, and of two rows that differ one can be brought a place nearer so.
-- Assumes nothing.
use mathlib.Core.Path.{◌≡◌, refl, ap}
use mathlib.Core.Bool.{Bool, true, false, not, not-not}
use mathlib.Core.List.{List, [], ◌∷◌}
use Prim.Native.Nat.{ℕ, zero, suc, ◌<◌, ◌≤◌}
use native.Mathlib.Omega.{arith}
use lib.ListN.{length}
use Rattle.bits.specs.Row.{differ, differences, flip}
use Rattle.bits.proofs.Differences.{differences_self, differences-zero}

pub length-flip : (i : ℕ) (row : List Bool) → length (flip i row) ≡ length row
unfolding flip
length-flip i [] = refl
length-flip zero (b ∷ row) = refl
length-flip (suc i) (b ∷ row) = ap suc (length-flip i row)

-- inverted twice it is as it was
pub flip-flip : (i : ℕ) (row : List Bool) → flip i (flip i row) ≡ row
unfolding flip
flip-flip i [] = refl
flip-flip zero (b ∷ row) = ap {B = List Bool} (λ x. x ∷ row) (not-not b)
flip-flip (suc i) (b ∷ row) = ap {B = List Bool} (λ l. b ∷ l) (flip-flip i row)

differ-not : (b : Bool) → differ b (not b) ≡ 1
differ-not true = refl
differ-not false = refl

pub differ_self : (b : Bool) → differ b b ≡ 0
differ_self true = refl
differ_self false = refl

pub differences-flip : (i : ℕ) (row : List Bool) → i < length row → differences row (flip i row) ≡ 1
unfolding flip differences
differences-flip i [] h = absurd (omega arith)
differences-flip zero (b ∷ row) h = omega (arith, differ-not b, differences_self row)
differences-flip (suc i) (b ∷ row) h = omega (arith, differ_self b, differences-flip i row (omega arith))

-- ys with some bit inverted differs from xs in n places
pub record Nearer (xs ys : List Bool) (n : ℕ) : Type 0 where
  pub place : ℕ
  pub within : place < length ys
  pub left : differences xs (flip place ys) ≡ n

here : (x y : Bool) (xs ys : List Bool) (n : ℕ) → differ x (not y) ≡ 0 → differences xs ys ≡ n → Nearer (x ∷ xs) (y ∷ ys) n
unfolding flip differences
here x y xs ys n d e = record { place = 0; within = omega arith; left = omega (arith, d, e) }

later : (x y : Bool) (xs ys : List Bool) (n : ℕ) → differ x y ≡ 0 → Nearer xs ys n → Nearer (x ∷ xs) (y ∷ ys) n
unfolding flip differences
later x y xs ys n d w = record { place = suc w.place; within = omega (arith, w.within); left = omega (arith, d, w.left) }

pub nearer : (xs ys : List Bool) (n : ℕ) → length xs ≡ length ys → differences xs ys ≡ suc n → Nearer xs ys n
unfolding differences
nearer [] [] n l e = absurd (omega arith)
nearer [] (y ∷ ys) n l e = absurd (omega arith)
nearer (x ∷ xs) [] n l e = absurd (omega arith)
nearer (true ∷ xs) (true ∷ ys) n l e = later true true xs ys n refl (nearer xs ys n (omega arith) (omega arith))
nearer (true ∷ xs) (false ∷ ys) n l e = here true false xs ys n refl (omega arith)
nearer (false ∷ xs) (true ∷ ys) n l e = here false true xs ys n refl (omega arith)
nearer (false ∷ xs) (false ∷ ys) n l e = later false false xs ys n refl (nearer xs ys n (omega arith) (omega arith))

-- rows that differ in at most one place: the same, or one a flip of the other
pub data OneOff (xs ys : List Bool) : Type 0 where
  same : xs ≡ ys → OneOff xs ys
  flipped : (i : ℕ) → i < length ys → xs ≡ flip i ys → OneOff xs ys

pub one_off : (xs ys : List Bool) → length xs ≡ length ys → differences xs ys ≤ 1 → OneOff xs ys
one_off xs ys l h = by (differences xs ys) refl h
  where
    by : (d : ℕ) → differences xs ys ≡ d → d ≤ 1 → OneOff xs ys
    by zero e h = same (differences-zero xs ys e)
    by (suc zero) e h = let w = nearer xs ys 0 l e in flipped w.place w.within (differences-zero xs (flip w.place ys) w.left)
    by (suc (suc d)) e h = absurd (omega arith)
