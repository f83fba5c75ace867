-- The places where two rows of bits differ, counted place by place.
-- Assumes nothing.
use mathlib.Core.Path.{◌≡◌, refl}
use mathlib.Core.Bool.{Bool, true, false, not}
use mathlib.Core.List.{List, [], ◌∷◌, map}
use Prim.Native.Nat.{ℕ, zero, suc, ◌≤◌}
use native.Mathlib.Omega.{arith}
use borrow.Author.Tests.{leb-true, eqb-true, eqb-false}
use lib.Dec.{leb, eqb}
use lib.ListN.{length}
use Rattle.std.specs.List.{filter, zip}
use Rattle.lists.specs.Every.{every}
use Rattle.lists.proofs.Tests.{both_true}
use Rattle.bits.specs.Bits.{is_one, all_bits}
use Rattle.bits.specs.Row.{differ, differences}
use Rattle.bits.proofs.Flip.{differ_self}

pub differ_same : (x y : ℕ) → x ≡ y → differ (is_one x) (is_one y) ≡ 0
differ_same x y e = rw e (differ_self (is_one y))

pub differ-other : (x y : ℕ) → x ≤ 1 → y ≤ 1 → (x ≡ y → ⊥) → differ (is_one x) (is_one y) ≡ 1
differ-other zero zero h l ne = absurd (ne refl)
differ-other zero (suc zero) h l ne = refl
differ-other (suc zero) zero h l ne = refl
differ-other (suc zero) (suc zero) h l ne = absurd (ne refl)
differ-other zero (suc (suc y)) h l ne = absurd (omega arith)
differ-other (suc zero) (suc (suc y)) h l ne = absurd (omega arith)
differ-other (suc (suc x)) y h l ne = absurd (omega arith)

-- two bytes that are not the same
abbrev pub apart : ℕ × ℕ → Bool
apart pair = not (eqb pair.0 pair.1)

-- the places where two rows of bits are not the same, counted, are those where they differ
pub counted : (a b : List ℕ) → length a ≡ length b → all_bits a ≡ true → all_bits b ≡ true
    → length (filter apart (zip a b)) ≡ differences (map is_one a) (map is_one b)
unfolding every differences
counted [] [] long bits bits' = refl
counted [] (y ∷ b) long bits bits' = absurd (omega arith)
counted (x ∷ a) [] long bits bits' = absurd (omega arith)
counted (x ∷ a) (y ∷ b) long bits bits' =
    let p = both_true (leb x 1) (all_bits a) bits in
    let q = both_true (leb y 1) (all_bits b) bits' in
    by (eqb x y) refl (leb-true x 1 p.0) (leb-true y 1 q.0) (counted a b (omega arith) p.1 q.1)
  where
    by : (same : Bool) → eqb x y ≡ same → x ≤ 1 → y ≤ 1 → length (filter apart (zip a b)) ≡ differences (map is_one a) (map is_one b)
        → length (filter apart (zip (x ∷ a) (y ∷ b))) ≡ differences (map is_one (x ∷ a)) (map is_one (y ∷ b))
    by true e h l rest = rw e (omega (arith, rest, differ_same x y (eqb-true x y e)))
    by false e h l rest = rw e (omega (arith, rest, differ-other x y h l (eqb-false x y e)))
