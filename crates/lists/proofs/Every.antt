-- What a test of every element says of the element at a place and of a part of the list, and of lists put together.
-- Assumes nothing.
use mathlib.Core.Path.{◌≡◌, refl, ap, ap₂}
use mathlib.Core.Bool.{Bool, true, false, ◌&&◌, true≢false}
use mathlib.Core.List.{List, [], ◌∷◌, ◌++◌}
use Prim.Native.Nat.{ℕ, zero, suc, ◌<◌, zero-le, suc-le-suc}
use native.Mathlib.Nat.{le_of_suc-le-suc, not-suc-le-zero}
use lib.Dec.{T}
use lib.ListN.{length, get_or, take, drop, replicate}
use Rattle.std.specs.List.{list_all}
use Rattle.lists.specs.Every.{every}
use Rattle.lists.specs.Working.Together.{together}
use Rattle.lists.proofs.Tests.{both_left, both_right, both_true}

module _ {A : Type 0} (test : A → Bool) (none : A) where
  -- at a place inside the list
  pub every-at : (xs : List A) → T (every test xs) → (i : ℕ) → i < length xs → T (test (get_or xs i none))
  unfolding every
  every-at [] t i h = absurd (not-suc-le-zero h)
  every-at (x ∷ xs) t zero h = both_left (test x) (every test xs) t
  every-at (x ∷ xs) t (suc i) h = every-at xs (both_right (test x) (every test xs) t) i (le_of_suc-le-suc h)

  pub every-each : (xs : List A) → every test xs ≡ true → (i : ℕ) → i < length xs → test (get_or xs i none) ≡ true
  unfolding every
  every-each [] e i h = absurd (not-suc-le-zero h)
  every-each (x ∷ xs) e zero h = (both_true (test x) (every test xs) e).0
  every-each (x ∷ xs) e (suc i) h = every-each xs (both_true (test x) (every test xs) e).1 i (le_of_suc-le-suc h)

  -- at any place, where what stands behind the end passes too
  pub every-place : (xs : List A) → T (every test xs) → T (test none) → (i : ℕ) → T (test (get_or xs i none))
  unfolding every
  every-place [] t p i = p
  every-place (x ∷ xs) t p zero = both_left (test x) (every test xs) t
  every-place (x ∷ xs) t p (suc i) = every-place xs (both_right (test x) (every test xs) t) p i

  -- what passes at each place passes, and what does not fails at some place
  pub each-every : (xs : List A) → ((i : ℕ) → i < length xs → test (get_or xs i none) ≡ true) → every test xs ≡ true
  unfolding every
  each-every [] h = refl
  each-every (x ∷ xs) h = rw (h 0 (suc-le-suc zero-le)) (each-every xs (λ i l. h (suc i) (suc-le-suc l)))

  pub every_fails : (xs : List A) → every test xs ≡ false → (i : ℕ) × (i < length xs) × (test (get_or xs i none) ≡ false)
  unfolding every
  every_fails [] e = absurd (true≢false e)
  every_fails (x ∷ xs) e = first (test x) refl (every_fails xs) e
    where
      first : (b : Bool) → test x ≡ b → (every test xs ≡ false → (i : ℕ) × (i < length xs) × (test (get_or xs i none) ≡ false)) → (b && every test xs) ≡ false
          → (i : ℕ) × (i < length (x ∷ xs)) × (test (get_or (x ∷ xs) i none) ≡ false)
      first true q later f = let at = later f in (suc at.0, suc-le-suc at.1, at.2)
      first false q later f = (0, suc-le-suc zero-le, q)

module _ {A : Type 0} (test : A → Bool) where
  -- the test is std's
  pub every_is : (xs : List A) → every test xs ≡ list_all test xs
  unfolding every
  every_is [] = refl
  every_is (x ∷ xs) = ap (λ b. test x && b) (every_is xs)

  -- ---- the front and the rest of a list pass as the whole does
  pub every_take : (n : ℕ) (xs : List A) → every test xs ≡ true → every test (take n xs) ≡ true
  unfolding every
  every_take zero xs e = refl
  every_take (suc n) [] e = refl
  every_take (suc n) (x ∷ xs) e = let h = both_true (test x) (every test xs) e in rw h.0 (every_take n xs h.1)

  pub every_drop : (n : ℕ) (xs : List A) → every test xs ≡ true → every test (drop n xs) ≡ true
  unfolding every
  every_drop zero xs e = e
  every_drop (suc n) [] e = refl
  every_drop (suc n) (x ∷ xs) e = every_drop n xs (both_true (test x) (every test xs) e).1

  -- ---- a list of equal elements, and two lists in a row
  pub every-replicate : (n : ℕ) (x : A) → test x ≡ true → every test (replicate n x) ≡ true
  unfolding every
  every-replicate zero x e = refl
  every-replicate (suc n) x e = rw e (every-replicate n x e)

  -- where only one element passes, a list that passes is made of it
  pub every_only : (a : A) → ((x : A) → test x ≡ true → x ≡ a) → (xs : List A) → every test xs ≡ true → xs ≡ replicate (length xs) a
  unfolding every
  every_only a only [] e = refl
  every_only a only (x ∷ xs) e = let h = both_true (test x) (every test xs) e in ap₂ ◌∷◌ (only x h.0) (every_only a only xs h.1)

  pub every_append : (xs ys : List A) → every test xs ≡ true → every test ys ≡ true → every test (xs ++ ys) ≡ true
  unfolding every
  every_append [] ys e f = f
  every_append (x ∷ xs) ys e f = let h = both_true (test x) (every test xs) e in rw h.0 (every_append xs ys h.1 f)

-- one of some tests that hold together
pub together_at : (tests : List Bool) → T (together tests) → (i : ℕ) → T (get_or tests i true)
together_at tests t i = every-place (λ b. b) true tests t tt i
