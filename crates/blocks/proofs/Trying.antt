-- What trying every place finds: only what passes the test, and that where one alone passes.
-- Assumes nothing.
use mathlib.Core.Path.{◌≡◌, refl, sym, ap, ◌∙◌}
use mathlib.Core.Logic.{⊎_elim}
use mathlib.Core.Bool.{Bool, true, false, cond, true≢false}
use mathlib.Core.List.{List}
use mathlib.Core.Option.{Option, some, none-ne-some}
use Prim.Native.Nat.{ℕ, zero, suc, ◌+◌, ◌<◌, ◌≤◌, zero-le}
use native.Mathlib.Nat.{eq-or-lt_of_le}
use native.Mathlib.Omega.{arith}
use lib.ListN.{length}
use Rattle.lists.proofs.Tests.{either}
use Rattle.bits.specs.Row.{differences, flip}
use Rattle.bits.proofs.Flip.{OneOff, same, flipped, one_off}
use Rattle.blocks.specs.Reading.{first_flip, try_each}

module _ (test : List Bool → Bool) (row a : List Bool) where
  -- ---- what is found passes
  is-passed : (x : List Bool) → test x ≡ true → some x ≡ some a → test a ≡ true
  is-passed x t e = let same : x ≡ a = cc in rw same at t

  flip-passes : (i left : ℕ) → first_flip test row i left ≡ some a → test a ≡ true
  unfolding first_flip
  flip-passes i zero e = absurd (none-ne-some a e)
  flip-passes i (suc left) e =
      ⊎_elim (λ w. is-passed (flip i row) w.0 w.1) (λ w. flip-passes (i + 1) left w.1) (either (test (flip i row)) e)

  pub tried_passes : try_each test row ≡ some a → test a ≡ true
  unfolding try_each
  tried_passes e = ⊎_elim (λ w. is-passed row w.0 w.1) (λ w. flip-passes 0 (length row) w.1) (either (test row) e)

  -- ---- what alone passes, and differs from the row in at most one place, is found
  module _ (passes : test a ≡ true) (alone : (b : List Bool) → test b ≡ true → b ≡ a) where
    picked : (x : List Bool) (o : Option (List Bool)) (b : Bool) → test x ≡ b → (test x ≡ false → o ≡ some a) → cond b (some x) o ≡ some a
    picked x o true e f = ap some (alone x e)
    picked x o false e f = f e

    flip-found : (i left j : ℕ) → i ≤ j → j < i + left → a ≡ flip j row → first_flip test row i left ≡ some a
    unfolding first_flip
    flip-found i zero j h l e = absurd (omega arith)
    flip-found i (suc left) j h l e =
        picked (flip i row) (first_flip test row (i + 1) left) (test (flip i row)) refl
        (λ f. ⊎_elim
        (λ (s : i ≡ j). absurd (true≢false (sym passes ∙ ap test (e ∙ ap (λ (n : ℕ). flip n row) (sym s)) ∙ f)))
        (λ (s : i < j). flip-found (i + 1) left j (omega arith) (omega arith) e)
        (eq-or-lt_of_le h))

    pub tried_found : length a ≡ length row → differences a row ≤ 1 → try_each test row ≡ some a
    unfolding try_each
    tried_found l h = goes (one_off a row l h)
      where
        goes : OneOff a row → cond (test row) (some row) (first_flip test row 0 (length row)) ≡ some a
        goes (same e) = rw (← e, passes)
        goes (flipped i h e) = picked row (first_flip test row 0 (length row)) (test row) refl (λ f. flip-found 0 (length row) i zero-le (omega arith) e)
