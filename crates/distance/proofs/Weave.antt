-- The k bits come out of an image as they went in, and two images are at least as far apart as their blocks.
-- Assumes nothing.
use mathlib.Core.Path.{◌≡◌, refl, sym, ap, ◌∙◌}
use mathlib.Core.Bool.{Bool, false}
use mathlib.Core.List.{List, [], ◌∷◌, map}
use Prim.Native.Nat.{ℕ, suc, ◌+◌, ◌<◌, ◌≤◌, zero-le}
use native.Mathlib.Nat.{le_trans}
use native.Mathlib.Numerals.{add-one}
use native.Mathlib.Omega.{arith}
use lib.ListN.{length, get_or, drop, replicate, length-drop, length-map, length-replicate}
use lib.Seq.{drop-cons, drop-drop, drop-append_seam}
use Rattle.bits.specs.Row.{differences}
use Rattle.bits.specs.Xor.{xor_rows}
use Rattle.bits.proofs.Differences.{differences-drop}
use Rattle.bits.proofs.XorRows.{length-xor_rows, xor_rows_twice, differences-xor_rows}
use Rattle.bits.specs.Working.Weave.{weave}
use Rattle.distance.specs.Working.Coding.{Coding, Sound, x_bits, coded, image, received}

-- ---- the bits X
x_bits-weave : (xs : List Bool) (parity : List (List Bool)) (tail : List Bool) → length xs ≡ length parity → x_bits (map length parity) (weave xs parity tail) ≡ xs
unfolding x_bits weave
x_bits-weave [] [] tail e = refl
x_bits-weave [] (passed ∷ parity) tail e = absurd (omega arith)
x_bits-weave (x ∷ xs) [] tail e = absurd (omega arith)
x_bits-weave (x ∷ xs) (passed ∷ parity) tail e =
    ap {B = List Bool} (λ l. x ∷ l) (ap (x_bits (map length parity)) (drop-append_seam passed (weave xs parity tail)) ∙ x_bits-weave xs parity tail (omega arith))

-- clock by clock, for code that reads X at a place and passes over n parity bits
pub x_bits-next : (n at : ℕ) (counts : List ℕ) (row : List Bool) → at < length row
    → x_bits (n ∷ counts) (drop at row) ≡ get_or row at false ∷ x_bits counts (drop (at + 1 + n) row)
unfolding x_bits
x_bits-next n at counts row h = rw (drop-cons row at false h, add-one, drop-drop n (suc at) row)

x_bits-le : (counts : List ℕ) (row : List Bool) → length (x_bits counts row) ≤ length row
unfolding x_bits
x_bits-le [] row = zero-le
x_bits-le (n ∷ counts) [] = zero-le
x_bits-le (n ∷ counts) (x ∷ row) = omega (arith, x_bits-le counts (drop n row), length-drop n row)

differences-x_bits : (counts : List ℕ) (ys zs : List Bool) → differences (x_bits counts ys) (x_bits counts zs) ≤ differences ys zs
unfolding x_bits differences
differences-x_bits [] ys zs = zero-le
differences-x_bits (n ∷ counts) [] zs = x_bits-le (n ∷ counts) zs
differences-x_bits (n ∷ counts) (y ∷ ys) [] = x_bits-le (n ∷ counts) (y ∷ ys)
differences-x_bits (n ∷ counts) (y ∷ ys) (z ∷ zs) = omega (arith, differences-x_bits counts (drop n ys) (drop n zs), differences-drop n ys zs)

-- how many they are depends on how long the row is
length-x_bits : (counts : List ℕ) (ys zs : List Bool) → length ys ≡ length zs → length (x_bits counts ys) ≡ length (x_bits counts zs)
unfolding x_bits
length-x_bits [] ys zs e = refl
length-x_bits (n ∷ counts) [] [] e = refl
length-x_bits (n ∷ counts) [] (z ∷ zs) e = absurd (omega arith)
length-x_bits (n ∷ counts) (y ∷ ys) [] e = absurd (omega arith)
length-x_bits (n ∷ counts) (y ∷ ys) (z ∷ zs) e = ap suc (length-x_bits counts (drop n ys) (drop n zs) (omega (arith, length-drop n ys, length-drop n zs)))

-- ---- a link's images
differences-received : (c : Coding) (ys zs : List Bool) → differences (received c ys) (received c zs) ≤ differences ys zs
unfolding received
differences-received c ys zs = le_trans (differences-x_bits c.counts (xor_rows c.key ys) (xor_rows c.key zs)) (differences-xor_rows c.key ys zs)

module _ (c : Coding) (sound : Sound c) where
  coded-back : (a : List Bool) → length a ≡ c.k → x_bits c.counts (coded c a) ≡ a
  coded-back a l =
      let counts = sound.counted a l in
      ap (λ (ns : List ℕ). x_bits ns (coded c a)) (sym counts)
      ∙ x_bits-weave a (c.parity a) (c.tail a) (omega (arith, sound.clocks, ap length counts, length-map (c.parity a) (length {A = Bool})))

  pub length-image : (a : List Bool) → length a ≡ c.k → length (image c a) ≡ c.size
  unfolding image
  length-image a l = length-xor_rows c.key (coded c a) (omega (arith, sound.sized a l, sound.covered)) ∙ sound.sized a l

  received-image : (a : List Bool) → length a ≡ c.k → received c (image c a) ≡ a
  unfolding received image
  received-image a l = ap (x_bits c.counts) (xor_rows_twice c.key (coded c a) (omega (arith, sound.sized a l, sound.covered))) ∙ coded-back a l

  pub length-received : (came : List Bool) → length came ≡ c.size → length (received c came) ≡ c.k
  unfolding received
  length-received came l =
      let zeros = replicate c.k false in
      let long = length-replicate c.k false in
      length-x_bits c.counts (xor_rows c.key came) (coded c zeros) (omega (arith, length-xor_rows c.key came (omega (arith, sound.covered)), sound.sized zeros long))
      ∙ ap length (coded-back zeros long) ∙ long

  -- a block differs from the received bits in no more places than its image from what came
  pub differences-came : (a came : List Bool) → length a ≡ c.k → differences a (received c came) ≤ differences (image c a) came
  differences-came a came l = rw (received-image a l) at (differences-received c (image c a) came)

  pub differences-image : (a b : List Bool) → length a ≡ c.k → length b ≡ c.k → differences a b ≤ differences (image c a) (image c b)
  differences-image a b l m = rw (received-image b m) at (differences-came a (image c b) l)
