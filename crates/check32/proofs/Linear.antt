-- The register is linear in what it starts with and the bits together, so a wrong bit adds its mark.
-- Assumes nothing.
use mathlib.Core.Path.{◌≡◌, refl, sym, ap, ap₂, ◌∙◌}
use mathlib.Core.Bool.{Bool, true, false, not, xor}
use mathlib.Core.List.{List, [], ◌∷◌, ◌++◌}
use Prim.Native.Nat.{ℕ, zero, suc, ◌+◌, ◌-◌, ◌*◌, ◌<◌}
use native.Mathlib.Nat.{add-zero, suc-add, add-suc}
use native.Mathlib.Omega.{arith}
use lib.ListN.{length}
use Rattle.bits.specs.Bits.{byte}
use Rattle.bits.specs.Row.{flip}
use Rattle.bits.specs.Xor.{◌⊕◌, xor_rows}
use Rattle.bits.proofs.Xor.{⊕_assoc, ⊕_comm, ⊕_self, ⊕-zero, zero-⊕, ⊕_middle}
use Rattle.check32.specs.Check.{x32, times_x, step, register_from}
use Rattle.check32.specs.Working.Marks.{mark}
use Rattle.check32.proofs.TimesX.{times_x-⊕}

pub register_from-append : (r : ℕ) (a b : List Bool) → register_from r (a ++ b) ≡ register_from (register_from r a) b
unfolding register_from
register_from-append r [] b = refl
register_from-append r (x ∷ a) b = register_from-append (step r x) a b

-- ---- the exclusive or of two rows
added : (x y : Bool) → byte (xor x y) * x32 ≡ (byte x * x32) ⊕ (byte y * x32)
unfolding xor
added true true = sym (⊕_self x32)
added true false = sym (⊕-zero x32)
added false true = sym (zero-⊕ x32)
added false false = sym (zero-⊕ 0)

step-xor : (r s : ℕ) (x y : Bool) → step (r ⊕ s) (xor x y) ≡ step r x ⊕ step s y
unfolding step
step-xor r s x y = ap₂ ◌⊕◌ (added x y) (times_x-⊕ r s) ∙ ⊕_middle (byte x * x32) (byte y * x32) (times_x r) (times_x s)

pub register_from-xor : (r s : ℕ) (a b : List Bool) → length a ≡ length b → register_from (r ⊕ s) (xor_rows a b) ≡ register_from r a ⊕ register_from s b
unfolding register_from xor_rows
register_from-xor r s [] [] e = refl
register_from-xor r s [] (y ∷ b) e = absurd (omega arith)
register_from-xor r s (x ∷ a) [] e = absurd (omega arith)
register_from-xor r s (x ∷ a) (y ∷ b) e =
    ap (λ (v : ℕ). register_from v (xor_rows a b)) (step-xor r s x y) ∙ register_from-xor (step r x) (step s y) a b (omega arith)

-- ---- one wrong bit
-- a mark in the register moves on with every bit
carried : (r n : ℕ) (row : List Bool) → register_from (r ⊕ mark n) row ≡ register_from r row ⊕ mark (n + length row)
unfolding register_from
carried r n [] = rw add-zero
carried r n (b ∷ row) = ap (λ (v : ℕ). register_from v row) moved ∙ carried (step r b) (suc n) row ∙ rw (suc-add, add-suc)
  where
    moved : step (r ⊕ mark n) b ≡ step r b ⊕ mark (suc n)
    moved = unfold step mark in ap (λ (v : ℕ). (byte b * x32) ⊕ v) (times_x-⊕ r (mark n)) ∙ sym (⊕_assoc (byte b * x32) (times_x r) (times_x (mark n)))

inverted : (r : ℕ) (b : Bool) → step r (not b) ≡ step r b ⊕ mark 0
unfolding step mark
inverted r true = sym (⊕_comm (x32 ⊕ times_x r) x32 ∙ sym (⊕_assoc x32 x32 (times_x r)) ∙ ap (λ (v : ℕ). v ⊕ times_x r) (⊕_self x32))
inverted r false = ⊕_comm x32 (times_x r) ∙ ap (λ (v : ℕ). v ⊕ x32) (sym (zero-⊕ (times_x r)))

pub register_from-flip : (r i : ℕ) (row : List Bool) → i < length row → register_from r (flip i row) ≡ register_from r row ⊕ mark (length row - suc i)
unfolding register_from flip
register_from-flip r i [] h = absurd (omega arith)
register_from-flip r zero (b ∷ row) h =
    let after : suc (length row) - 1 ≡ 0 + length row = omega arith in
    rw after (ap (λ (v : ℕ). register_from v row) (inverted r b) ∙ carried (step r b) 0 row)
register_from-flip r (suc i) (b ∷ row) h =
    let after : suc (length row) - suc (suc i) ≡ length row - suc i = omega arith in
    rw after (register_from-flip (step r b) i row (omega arith))
