-- The one candidate: it closes, and it is the only row within one place that does.
-- Assumes nothing.
use mathlib.Core.Path.{◌≡◌, refl, sym, ap, ◌∙◌}
use mathlib.Core.Logic.{⊎_elim}
use mathlib.Core.Bool.{Bool, cond}
use mathlib.Core.List.{List}
use mathlib.Core.Option.{none, some, none-ne-some}
use Prim.Native.Nat.{ℕ, ◌<◌, ◌≤◌}
use lib.Dec.{eqb, ltb}
use lib.ListN.{length}
use borrow.Author.Tests.{eqb-true, ltb-true, eq-eqb, ne_eqb, lt-ltb, le-ltb}
use Rattle.lists.proofs.Tests.{either}
use Rattle.bits.specs.Row.{differences, flip}
use Rattle.bits.proofs.Flip.{length-flip, OneOff, same, flipped, one_off}
use Rattle.check32.specs.Check.{register}
use Rattle.check32.specs.Working.Closes.{Closes}
use Rattle.distance.specs.Working.Coding.{longest}
use Rattle.distance.specs.Working.Candidate.{wrong_after, wrong_place, candidate}
use Rattle.distance.proofs.Apart.{closes-alone, flip_told, told_closes}

-- ---- the three ways it goes
pub candidate-row : (row : List Bool) → Closes row → candidate row ≡ some row
unfolding candidate
candidate-row row c = simp (eq-eqb (register row) 0 c)

pub candidate-flip : (row : List Bool) → (Closes row → ⊥) → wrong_after row < length row → candidate row ≡ some (flip (wrong_place row) row)
unfolding candidate
candidate-flip row c h = simp (ne_eqb (register row) 0 c, lt-ltb (wrong_after row) (length row) h)

pub candidate-none : (row : List Bool) → (Closes row → ⊥) → length row ≤ wrong_after row → candidate row ≡ none
unfolding candidate
candidate-none row c h = simp (ne_eqb (register row) 0 c, le-ltb (wrong_after row) (length row) h)

-- ---- a row as long that closes
pub candidate-closes : (row a : List Bool) → candidate row ≡ some a → (length a ≡ length row) × Closes a
unfolding candidate
candidate-closes row a e = ⊎_elim (λ w. at row w.1 (refl, eqb-true (register row) 0 w.0)) (λ w. told w.1) (either (eqb (register row) 0) e)
  where
    at : (x : List Bool) → some x ≡ some a → (length x ≡ length row) × Closes x → (length a ≡ length row) × Closes a
    at x e w = let equal : x ≡ a = cc in rw equal at w

    told : cond (ltb (wrong_after row) (length row)) (some (flip (wrong_place row) row)) none ≡ some a → (length a ≡ length row) × Closes a
    told e =
        ⊎_elim
        (λ w. at (flip (wrong_place row) row) w.1 (length-flip (wrong_place row) row, told_closes row (ltb-true (wrong_after row) (length row) w.0)))
        (λ w. absurd (none-ne-some a w.1))
        (either (ltb (wrong_after row) (length row)) e)

pub candidate-found : (row a : List Bool) → length row ≤ longest → length a ≡ length row → Closes a → differences a row ≤ 1 → candidate row ≡ some a
candidate-found row a s l c h = goes (one_off a row l h)
  where
    goes : OneOff a row → candidate row ≡ some a
    goes (same e) = candidate-row row (ap register (sym e) ∙ c) ∙ ap some (sym e)
    goes (flipped i h e) =
        let closes = ap register (sym e) ∙ c in
        let told = flip_told row i s h closes in
        candidate-flip row (λ d. closes-alone row i h d closes) told.0 ∙ ap some (ap (λ (n : ℕ). flip n row) (sym told.1) ∙ sym e)
