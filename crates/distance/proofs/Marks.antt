-- The marks of the places of a row of up to 117,216 bits are all different: one computed walk from place to place, and what it says.
-- Assumes nothing.
use mathlib.Core.Path.{◌≡◌, refl, sym, ap, ◌∙◌, subst}
use mathlib.Core.Bool.{Bool, true, false, not, ◌&&◌}
use Prim.Native.Nat.{ℕ, zero, suc, ◌+◌, ◌-◌, ◌<◌}
use native.Mathlib.Nat.{add-zero, suc-add, add-suc}
use native.Mathlib.Numerals.{add-one}
use native.Mathlib.Omega.{arith}
use lib.Dec.{T, T_not, eqb, eqb_refl}
use Rattle.lists.proofs.Tests.{both_left, both_right}
use Rattle.check32.specs.Check.{x32}
use Rattle.check32.specs.Working.Marks.{mark}
use Rattle.check32.proofs.Fast.{fast_step, fast_step_is}
use Rattle.check32.proofs.Marks.{mark-start, mark-next, mark-lt}
use Rattle.check32.proofs.TimesX.{times_x_equal}
use Rattle.distance.specs.Working.Coding.{longest}

-- none of n marks, the first of them r, is the last place's
walk : ℕ → ℕ → Bool
unfolding fast_step
walk zero r = true
walk (suc n) r = not (eqb r x32) && walk n (fast_step r false)

walked : T (walk (longest - 1) (fast_step x32 false))
unfolding walk fast_step
walked = tt

next : (n : ℕ) → fast_step (mark n) false ≡ mark (suc n)
next n = fast_step_is (mark n) false (mark-lt n) ∙ mark-next n ∙ ap mark (add-one n)

passed : (n m : ℕ) → T (walk n (mark m)) → (i : ℕ) → i < n → mark (m + i) ≡ x32 → ⊥
unfolding walk
passed zero m t i h e = absurd (omega arith)
passed (suc n) m t zero h e =
    T_not (eqb (mark m) x32) (both_left (not (eqb (mark m) x32)) (walk n (fast_step (mark m) false)) t)
    (subst (λ (r : ℕ). T (eqb (mark m) r)) (rw add-zero at e) (eqb_refl (mark m)))
passed (suc n) m t (suc i) h e =
    passed n (suc m) (subst (λ (r : ℕ). T (walk n r)) (next m) (both_right (not (eqb (mark m) x32)) (walk n (fast_step (mark m) false)) t)) i (omega arith)
    (rw suc-add (rw add-suc at e))

no_return : (n : ℕ) → suc n < longest → mark (suc n) ≡ mark 0 → ⊥
no_return n h e =
    let start : fast_step x32 false ≡ mark 1 = ap (λ (r : ℕ). fast_step r false) (sym mark-start) ∙ next 0 in
    let here : mark (1 + n) ≡ x32 = ap mark (omega arith) ∙ e ∙ mark-start in
    passed (longest - 1) 1 (subst (λ (r : ℕ). T (walk (longest - 1) r)) start walked) n (omega arith) here

pub marks_differ : (m n : ℕ) → m < longest → n < longest → mark m ≡ mark n → m ≡ n
unfolding mark
marks_differ zero zero h l e = refl
marks_differ zero (suc n) h l e = absurd (no_return n l (sym e))
marks_differ (suc m) zero h l e = absurd (no_return m h e)
marks_differ (suc m) (suc n) h l e = ap suc (marks_differ m n (omega arith) (omega arith) (times_x_equal (mark m) (mark n) e))
