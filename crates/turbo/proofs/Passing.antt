-- What flags pass on: how much, and of which bits.
-- Assumes nothing.
use mathlib.Core.Path.{◌≡◌, refl, sym, ap, ap₂, ◌∙◌}
use mathlib.Core.Bool.{Bool}
use mathlib.Core.List.{List, [], ◌∷◌, ◌++◌, map, map-append, append_assoc}
use Prim.Native.Nat.{ℕ, zero, suc, ◌+◌, ◌≤◌, ◌<◌}
use native.Mathlib.Numerals.{add-one}
use native.Mathlib.Omega.{arith}
use lib.ListN.{length, get_or, take, drop, replicate, length-append, length-replicate, drop_of_length-le}
use lib.Seq.{drop-cons}
use Rattle.links.specs.Patterns.{total}
use Rattle.turbo.specs.Coded.{passed}

-- how much passes depends on the flags only
pub length-passed : {A : Type 0} (flags : List ℕ) (bits : List A) → length flags ≤ length bits → length (passed flags bits) ≡ total flags
unfolding passed total
length-passed [] bits h = refl
length-passed (flag ∷ flags) [] h = absurd (omega arith)
length-passed (flag ∷ flags) (b ∷ bits) h =
    length-append (replicate flag b) (passed flags bits) ∙ ap₂ ◌+◌ (length-replicate flag b) (length-passed flags bits (omega arith))

-- how many bits pass does not depend on which they are
pub passed_length : {A : Type 0} (flags : List ℕ) (xs ys : List A) → length xs ≡ length ys → length (passed flags xs) ≡ length (passed flags ys)
unfolding passed
passed_length [] xs ys e = refl
passed_length (flag ∷ flags) [] [] e = refl
passed_length (flag ∷ flags) [] (y ∷ ys) e = absurd (omega arith)
passed_length (flag ∷ flags) (x ∷ xs) [] e = absurd (omega arith)
passed_length (flag ∷ flags) (x ∷ xs) (y ∷ ys) e =
    omega (
      arith,
      length-append (replicate flag x) (passed flags xs),
      length-append (replicate flag y) (passed flags ys),
      length-replicate flag x,
      length-replicate flag y,
      passed_length flags xs ys (omega arith),
    )

-- what is left to pass on at i
pub passed_more : (flags bits : List ℕ) (i : ℕ) → i < length flags → i < length bits
    → passed (drop i flags) (drop i bits) ≡ replicate (get_or flags i 0) (get_or bits i 0) ++ passed (drop (i + 1) flags) (drop (i + 1) bits)
unfolding passed
passed_more flags bits i h l = rw (drop-cons flags i 0 h, drop-cons bits i 0 l, add-one)

pub passed-done : (flags bits : List ℕ) (i : ℕ) → length flags ≤ i → passed (drop i flags) (drop i bits) ≡ []
unfolding passed
passed-done flags bits i h = rw (drop_of_length-le flags h)

-- passed on and then written as bytes, or the other way round
map-replicate : {A B : Type 0} (f : A → B) (n : ℕ) (x : A) → map f (replicate n x) ≡ replicate n (f x)
map-replicate f zero x = refl
map-replicate {B = B} f (suc n) x = ap {B = List B} (◌∷◌ (f x)) (map-replicate f n x)

pub map-passed : {A B : Type 0} (f : A → B) (flags : List ℕ) (xs : List A) → map f (passed flags xs) ≡ passed flags (map f xs)
unfolding passed
map-passed f [] xs = refl
map-passed f (flag ∷ flags) [] = refl
map-passed f (flag ∷ flags) (x ∷ xs) = map-append f (replicate flag x) (passed flags xs) ∙ ap₂ ◌++◌ (map-replicate f flag x) (map-passed f flags xs)

-- a bit that passes once stands first
pub passed_x : (flags : List ℕ) (x : Bool) (bits : List Bool) → get_or flags 0 0 ≡ 1 → passed flags (x ∷ bits) ≡ x ∷ passed (drop 1 flags) bits
unfolding passed
passed_x [] x bits e = absurd (omega arith)
passed_x (flag ∷ flags) x bits e = rw e

-- a bit that does not pass is passed over
pub passed_over : (flags : List ℕ) (x : Bool) (bits : List Bool) → get_or flags 0 0 ≡ 0 → passed flags (x ∷ bits) ≡ passed (drop 1 flags) bits
unfolding passed
passed_over [] x bits e = refl
passed_over (flag ∷ flags) x bits e = rw e

of_nothing : {A : Type 0} (flags : List ℕ) → ◌≡◌ {A = List A} (passed flags []) []
unfolding passed
of_nothing [] = refl
of_nothing (flag ∷ flags) = refl

-- of the first n bits, and of those behind them
pub passed_split : {A : Type 0} (n : ℕ) (flags : List ℕ) (bits : List A) → passed flags bits ≡ passed (take n flags) (take n bits) ++ passed (drop n flags) (drop n bits)
unfolding passed
passed_split zero flags bits = refl
passed_split (suc n) [] bits = refl
passed_split (suc n) (flag ∷ flags) [] = sym (of_nothing (drop n flags))
passed_split (suc n) (flag ∷ flags) (b ∷ bits) =
    ap (◌++◌ (replicate flag b)) (passed_split n flags bits)
    ∙ sym (append_assoc (replicate flag b) (passed (take n flags) (take n bits)) (passed (drop n flags) (drop n bits)))
