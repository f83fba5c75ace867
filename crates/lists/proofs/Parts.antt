-- Parts of lists: what take, drop, map and replicate do to each other.
-- Assumes nothing.
use mathlib.Core.Path.{◌≡◌, refl, ap}
use mathlib.Core.List.{List, [], ◌∷◌, map}
use Prim.Native.Nat.{ℕ, zero, suc, ◌+◌, ◌-◌, ◌<◌, ◌≤◌}
use native.Mathlib.Nat.{sub-zero, zero-sub, suc-sub-suc, le_of_suc-le-suc, not-suc-le-zero, le_of_eq}
use native.Mathlib.Numerals.{add-one}
use lib.ListN.{length, get_or, take, drop, replicate, length-drop, drop_of_length-le}
use lib.Seq.{take_all, take-nil, drop-cons}

module _ {A : Type 0} where
  pub drop-take : (m n : ℕ) (l : List A) → drop m (take n l) ≡ take (n - m) (drop m l)
  drop-take zero n l = rw sub-zero
  drop-take (suc m) zero l = rw zero-sub
  drop-take (suc m) (suc n) [] = rw take-nil
  drop-take (suc m) (suc n) (x ∷ l) = rw suc-sub-suc (drop-take m n l)

  pub take-replicate : (m n : ℕ) (a : A) → m ≤ n → take m (replicate n a) ≡ replicate m a
  take-replicate zero n a h = refl
  take-replicate (suc m) zero a h = absurd (not-suc-le-zero h)
  take-replicate (suc m) (suc n) a h = ap {B = List A} (λ l. a ∷ l) (take-replicate m n a (le_of_suc-le-suc h))

  pub drop-replicate : (m n : ℕ) (a : A) → drop m (replicate n a) ≡ replicate (n - m) a
  drop-replicate zero n a = rw sub-zero
  drop-replicate (suc m) zero a = rw zero-sub
  drop-replicate (suc m) (suc n) a = rw suc-sub-suc (drop-replicate m n a)

module _ {A B : Type 0} (f : A → B) where
  pub map-take : (n : ℕ) (l : List A) → map f (take n l) ≡ take n (map f l)
  map-take zero l = refl
  map-take (suc n) [] = refl
  map-take (suc n) (x ∷ l) = ap {B = List B} (λ r. f x ∷ r) (map-take n l)

  pub map-drop : (n : ℕ) (l : List A) → map f (drop n l) ≡ drop n (map f l)
  map-drop zero l = refl
  map-drop (suc n) [] = refl
  map-drop (suc n) (x ∷ l) = map-drop n l

  -- a loop that maps: what is left at i begins with what the element at i becomes, and at the end nothing is left
  pub map_more : (l : List A) (none : A) (i : ℕ) → i < length l → map f (drop i l) ≡ f (get_or l i none) ∷ map f (drop (i + 1) l)
  map_more l none i h = rw (drop-cons l i none h, add-one)

  pub map-done : (l : List A) (i : ℕ) → length l ≤ i → map f (drop i l) ≡ []
  map-done l i h = rw (drop_of_length-le l h)

-- the part that code lends from some place on, with its count of what is left, is all that is left
pub part_rest : (p : ℕ) (s : List ℕ) → take (length s - p) (drop p s) ≡ drop p s
part_rest p s = take_all (length s - p) (drop p s) (le_of_eq (length-drop p s))
