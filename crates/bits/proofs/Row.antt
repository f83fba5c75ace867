-- A row of bits and its number: bit by bit, and back.
-- Assumes nothing.
use mathlib.Core.Path.{◌≡◌, refl, sym, ap, ap₂, ◌∙◌}
use mathlib.Core.Bool.{Bool, false}
use mathlib.Core.List.{List, [], ◌∷◌, ◌++◌, map, map-append}
use Prim.Native.Nat.{ℕ, zero, suc, ◌+◌, ◌-◌, ◌*◌, ◌/◌, ◌%◌, ◌^◌, ◌<◌, ◌≤◌}
use native.Mathlib.Nat.{pow-suc, pow-succ', one-le-pow, add-mul, mul_assoc, pow-le-pow_right, zero-lt-suc, mod-lt, mod-eq_of_lt, add-zero, zero-add, add-suc, suc-add, sub-zero, suc-sub-suc}
use native.Mathlib.Numerals.{add-one}
use native.Mathlib.Omega.{arith}
use lib.Arith.{digits_lt, digits_div, digits_mod, mod-mul}
use lib.ListN.{length, get_or, set, take, drop, length-map, length-take}
use lib.Pow.{shr-shr}
use lib.Seq.{take_at, drop_at}
use Rattle.std.proofs.lemmas.List.{take_more, take_more_set}
use Rattle.bits.specs.Bits.{is_one, byte}
use Rattle.bits.specs.Row.{high_first, number_on, number}
use Rattle.bits.proofs.Bits.{byte-lt, byte-is_one, is_one-byte}

pub length-high_first : (n w : ℕ) → length (high_first n w) ≡ n
unfolding high_first
length-high_first zero w = refl
length-high_first (suc n) w = ap suc (length-high_first n w)

pub high_first-at : (n w i : ℕ) → i < n → get_or (high_first n w) i false ≡ is_one (w / 2 ^ (n - suc i) % 2)
unfolding high_first
high_first-at zero w i h = absurd (omega arith)
high_first-at (suc n) w zero h = rw (suc-sub-suc, sub-zero)
high_first-at (suc n) w (suc i) h = rw suc-sub-suc (high_first-at n w i (omega arith))

-- ---- the digits of a number in two pieces
pub high_first-append : (m n w : ℕ) → high_first (m + n) w ≡ high_first m (w / 2 ^ n) ++ high_first n w
unfolding high_first
high_first-append zero n w = rw zero-add
high_first-append (suc m) n w =
    let digit : w / 2 ^ (m + n) ≡ w / 2 ^ n / 2 ^ m = ap (λ (k : ℕ). w / 2 ^ k) (omega arith) ∙ sym (shr-shr w n m) in
    rw suc-add (ap₂ ◌∷◌ (ap (λ (x : ℕ). is_one (x % 2)) digit) (high_first-append m n w))

pub take-high_first : (m n w : ℕ) → take m (high_first (m + n) w) ≡ high_first m (w / 2 ^ n)
take-high_first m n w = rw (high_first-append m n w) (take_at (high_first m (w / 2 ^ n)) (high_first n w) m (length-high_first m (w / 2 ^ n)))

pub drop-high_first : (m n w : ℕ) → drop m (high_first (m + n) w) ≡ high_first n w
drop-high_first m n w = rw (high_first-append m n w) (drop_at (high_first m (w / 2 ^ n)) (high_first n w) m (length-high_first m (w / 2 ^ n)))

-- ---- a row laid cell by cell with the digits of a number, where each cell holds a bit
high_first_more : (i b w : ℕ) → high_first (i + 1) (w / 2 ^ b) ≡ high_first i (w / 2 ^ (b + 1)) ++ is_one (w / 2 ^ b % 2) ∷ []
unfolding high_first
high_first_more i b w = high_first-append i 1 (w / 2 ^ b) ∙ simp (shr-shr, add-zero)

-- all digits but the `behind` lowest are laid, and the next of them comes
pub laid_more : {A : Type 0} (holding : Bool → A) (row : List A) (w i behind : ℕ) (cell : A) → i < length row → 0 < behind
    → cell ≡ holding (is_one (w / 2 ^ (behind - 1) % 2)) → take i row ≡ map holding (high_first i (w / 2 ^ behind))
    → take (i + 1) (set row i cell) ≡ map holding (high_first (i + 1) (w / 2 ^ (behind - 1)))
laid_more holding row w i behind cell h some e laid =
    let next : behind - 1 + 1 ≡ behind = omega arith in
    rw (take_more_set row i cell h, high_first_more i (behind - 1) w, next, laid, e)
    (sym (map-append holding (high_first i (w / 2 ^ behind)) (is_one (w / 2 ^ (behind - 1) % 2) ∷ [])))

-- ---- a number's bits make the number
back : (n a w : ℕ) → number_on a (high_first n w) ≡ a * 2 ^ n + w % 2 ^ n
unfolding number_on high_first
back zero a w = omega arith
back (suc n) a w =
    let d = w / 2 ^ n % 2 in
    let digit : byte (is_one d) ≡ d = byte-is_one d (omega (arith, mod-lt (w / 2 ^ n) {m = 2} (zero-lt-suc 1))) in
    let split : w % (2 * 2 ^ n) ≡ d * 2 ^ n + w % 2 ^ n = mod-mul w (zero-lt-suc 1) (one-le-pow n 2 (zero-lt-suc 1)) in
    let on : number_on (a * 2 + byte (is_one d)) (high_first n w) ≡ (a * 2 + d) * 2 ^ n + w % 2 ^ n = ap (λ (x : ℕ). number_on (a * 2 + x) (high_first n w)) digit ∙ back n (a * 2 + d) w in
    on ∙ rw (pow-succ' 2 n, split) (omega (arith, add-mul (a * 2) d (2 ^ n), mul_assoc a 2 (2 ^ n)))

pub number-high_first : (n w : ℕ) → w < 2 ^ n → number (high_first n w) ≡ w
number-high_first n w h = back n 0 w ∙ omega (arith, mod-eq_of_lt h)

-- ---- a row is the bits of its number
-- i bits make a number below 2^i, and one more bit keeps that
more_fits : (w i : ℕ) (b : Bool) → w < 2 ^ i → w * 2 + byte b < 2 ^ (i + 1)
more_fits w i b h = rw (add-one, pow-suc) (digits_lt h (byte-lt b))

on-lt : (w i : ℕ) (row : List Bool) → w < 2 ^ i → number_on w row < 2 ^ (i + length row)
unfolding number_on
on-lt w i [] h = rw add-zero h
on-lt w i (b ∷ row) h = rw add-suc (rw suc-add at (on-lt (w * 2 + byte b) (suc i) row (rw add-one at (more_fits w i b h))))

pub number_lt : (row : List Bool) → number row < 2 ^ length row
number_lt row = rw zero-add at (on-lt 0 0 row (zero-lt-suc 0))

on_split : (w : ℕ) (row : List Bool) → number_on w row ≡ w * 2 ^ length row + number row
unfolding number_on
on_split w [] = omega arith
on_split w (b ∷ row) =
    let p = 2 ^ length row in
    on_split (w * 2 + byte b) row
    ∙ rw (pow-succ' 2 (length row), zero-add, on_split (byte b) row) (omega (arith, add-mul (w * 2) (byte b) p, mul_assoc w 2 p))

-- one more bit behind a row
on_snoc : (w : ℕ) (row : List Bool) (b : Bool) → number_on w (row ++ b ∷ []) ≡ number_on w row * 2 + byte b
unfolding number_on
on_snoc w [] b = refl
on_snoc w (x ∷ row) b = on_snoc (w * 2 + byte x) row b

-- the number of the first cells of a row, cell by cell, where each holds a bit
module _ {A : Type 0} (value : A → Bool) (row : List A) (i : ℕ) where
  pub number_more : (cell : A) → i < length row → cell ≡ get_or row i cell
      → number (map value (take (i + 1) row)) ≡ number (map value (take i row)) * 2 + byte (value cell)
  number_more cell h e =
      rw (take_more row i cell h, ← e, map-append value (take i row) (cell ∷ [])) (on_snoc 0 (map value (take i row)) (value cell))

  -- fewer than 32 cells leave room for one more
  pub number_small : i < 32 → number (map value (take i row)) < 2 ^ 31
  number_small h =
      let bits = map value (take i row) in
      let long : length bits ≤ 31 = simp (length-map, length-take) (omega arith) in
      omega (arith, number_lt bits, pow-le-pow_right {n = 2} (zero-lt-suc 1) {i = length bits} {j = 31} long)

-- the first bit of a row is the highest digit
pub number-first : (b : Bool) (row : List Bool) → number (b ∷ row) ≡ byte b * 2 ^ length row + number row
unfolding number_on
number-first b row = rw zero-add (on_split (byte b) row)

on-bits : (w : ℕ) (row : List Bool) → high_first (length row) (number_on w row) ≡ row
unfolding number_on high_first
on-bits w [] = refl
on-bits w (b ∷ row) =
    let v = w * 2 + byte b in
    let first : number_on v row / 2 ^ length row ≡ v = ap (λ (x : ℕ). x / 2 ^ length row) (on_split v row) ∙ digits_div v (number_lt row) in
    let last : v % 2 ≡ byte b = omega (arith, byte-lt b) in
    ap₂ ◌∷◌ (ap (λ (x : ℕ). is_one (x % 2)) first ∙ ap is_one last ∙ is_one-byte b) (on-bits v row)

pub high_first-number : (row : List Bool) → high_first (length row) (number row) ≡ row
high_first-number row = on-bits 0 row

-- ---- the digits of two numbers, one behind the other
-- digits above those that are taken do not count
pub high_first_low : (n w : ℕ) → high_first n (w % 2 ^ n) ≡ high_first n w
high_first_low n w =
    let digits : number (high_first n w) ≡ w % 2 ^ n = omega (arith, back n 0 w) in
    ap (high_first n) (sym digits) ∙ rw (length-high_first n w) at (high_first-number (high_first n w))

pub high_first_two : (m n a b : ℕ) → b < 2 ^ n → high_first (m + n) (a * 2 ^ n + b) ≡ high_first m a ++ high_first n b
high_first_two m n a b h =
    let w = a * 2 ^ n + b in
    high_first-append m n w
    ∙ ap₂ ◌++◌ (ap (high_first m) (digits_div a h)) (sym (high_first_low n w) ∙ ap (high_first n) (digits_mod a h))
