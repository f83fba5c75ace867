-- The taps of a number in which each clock's a is shifted in, for any number of clocks; and the register after them.
-- Assumes nothing.
use mathlib.Core.Path.{◌≡◌, refl, sym, ap, ap₂, ◌∙◌}
use mathlib.Core.Bool.{Bool, true, false, xor}
use mathlib.Core.List.{List, [], ◌∷◌}
use Prim.Native.Nat.{ℕ, suc, ◌+◌, ◌*◌, ◌/◌, ◌%◌, ◌^◌, ◌<◌}
use native.Mathlib.Nat.{pow-succ', add-mul, mul_assoc, zero-add, mod-eq_of_lt}
use native.Mathlib.Omega.{arith}
use lib.Arith.{digits_mod}
use lib.Bits.{bit_and, bit_xor, and_mask, xor_block}
use lib.ListN.{length}
use Rattle.bits.specs.Bits.{byte}
use Rattle.bits.specs.Row.{number_on, number}
use Rattle.bits.proofs.Bits.{byte-lt}
use Rattle.bits.proofs.Row.{number_lt}
use Rattle.bits.proofs.Xor.{⊕-is, ⊕-bits}
use Rattle.turbo.specs.Encoder.{Register, fed, next, y0, y1}
use Rattle.turbo.specs.Outputs.{outputs}
use Rattle.turbo.specs.Working.Parity.{register_after}
use Rattle.encoder.specs.Working.Number.{number_of, register_of}
use Rattle.encoder.specs.Working.Fed.{fed_on, Taps, Last}
use Rattle.encoder.proofs.Number.{register-made}

-- ---- bits written behind a number stand lowest
pub on_split : (w : ℕ) (row : List Bool) → number_on w row ≡ w * 2 ^ length row + number row
unfolding number_on
on_split w [] = omega arith
on_split w (b ∷ row) =
    let p = 2 ^ length row in
    on_split (w * 2 + byte b) row
    ∙ rw (pow-succ' 2 (length row), zero-add, on_split (byte b) row) (omega (arith, add-mul (w * 2) (byte b) p, mul_assoc w 2 p))

on_low : (w : ℕ) (row : List Bool) → number_on w row % 2 ^ length row ≡ number row
on_low w row = ap (λ (n : ℕ). n % 2 ^ length row) (on_split w row) ∙ digits_mod w (number_lt row)

pub length-outputs : (y : Register → Bool → Bool) (r : Register) (row : List Bool) → length (outputs y r row) ≡ length row
unfolding outputs
length-outputs y r [] = refl
length-outputs y r (x ∷ row) = ap suc (length-outputs y (next r x) row)

-- ---- the register stands in the three lowest digits
pub number_small : (r : Register) → number_of r < 8
unfolding number_of
number_small r = omega (arith, byte-lt r.a1, byte-lt r.a2, byte-lt r.a3)

module _ (w : ℕ) (r : Register) (stands : w % 8 ≡ number_of r) where
  moved : (x : Bool) → (w * 2 + byte (fed r x)) % 8 ≡ number_of (next r x)
  unfolding number_of
  moved x = omega (arith, byte-lt r.a1, byte-lt r.a2, byte-lt r.a3, byte-lt (fed r x))

-- ---- one clock more
xor_more : (v w : ℕ) (x y : Bool) → bit_xor (v * 2 + byte x) (w * 2 + byte y) ≡ bit_xor v w * 2 + byte (xor x y)
xor_more v w x y = xor_block 1 v w (byte x) (byte y) (byte-lt x) (byte-lt y) ∙ ap (λ (n : ℕ). bit_xor v w * 2 + n) (⊕-is (byte x) (byte y) ∙ ⊕-bits x y)

-- a rule for numbers shifts in what y puts out, whenever a is shifted in
abbrev pub Shifts : (Register → Bool → Bool) → (ℕ → ℕ) → Type 0
Shifts y f = (w : ℕ) (r : Register) (x : Bool) → w % 8 ≡ number_of r → f (w * 2 + byte (fed r x)) ≡ f w * 2 + byte (y r x)

abbrev pub taps0 : ℕ → ℕ
taps0 n = bit_xor (bit_xor n (n / 2)) (n / 8)

abbrev pub taps1 : ℕ → ℕ
taps1 n = bit_xor (bit_xor (bit_xor n (n / 2)) (n / 4)) (n / 8)

xor_assoc : (x y z : Bool) → xor (xor x y) z ≡ xor x (xor y z)
unfolding xor
xor_assoc true true true = refl
xor_assoc true true false = refl
xor_assoc true false true = refl
xor_assoc true false false = refl
xor_assoc false true true = refl
xor_assoc false true false = refl
xor_assoc false false true = refl
xor_assoc false false false = refl

module _ (w : ℕ) (r : Register) (x : Bool) (stands : w % 8 ≡ number_of r) where
  abbrev v : ℕ
  v = w * 2 + byte (fed r x)

  half : v / 2 ≡ w / 2 * 2 + byte r.a1
  unfolding number_of
  half = omega (arith, stands, byte-lt r.a1, byte-lt r.a2, byte-lt r.a3, byte-lt (fed r x))

  quarter : v / 4 ≡ w / 4 * 2 + byte r.a2
  unfolding number_of
  quarter = omega (arith, stands, byte-lt r.a1, byte-lt r.a2, byte-lt r.a3, byte-lt (fed r x))

  eighth : v / 8 ≡ w / 8 * 2 + byte r.a3
  unfolding number_of
  eighth = omega (arith, stands, byte-lt r.a1, byte-lt r.a2, byte-lt r.a3, byte-lt (fed r x))

  first : bit_xor v (v / 2) ≡ bit_xor w (w / 2) * 2 + byte (xor (fed r x) r.a1)
  first = ap (bit_xor v) half ∙ xor_more w (w / 2) (fed r x) r.a1

pub shifts_y0 : Shifts y0 taps0
shifts_y0 w r x e =
    ap₂ bit_xor (first w r x e) (eighth w r x e)
    ∙ xor_more (bit_xor w (w / 2)) (w / 8) (xor (fed r x) r.a1) r.a3
    ∙ ap (λ (b : Bool). taps0 w * 2 + byte b) (xor_assoc (fed r x) r.a1 r.a3)

pub shifts_y1 : Shifts y1 taps1
shifts_y1 w r x e =
    ap₂ bit_xor (ap₂ bit_xor (first w r x e) (quarter w r x e) ∙ xor_more (bit_xor w (w / 2)) (w / 4) (xor (fed r x) r.a1) r.a2) (eighth w r x e)
    ∙ xor_more (bit_xor (bit_xor w (w / 2)) (w / 4)) (w / 8) (xor (xor (fed r x) r.a1) r.a2) r.a3
    ∙ ap (λ (b : Bool). taps1 w * 2 + byte b) (xor_assoc (xor (fed r x) r.a1) r.a2 r.a3 ∙ xor_assoc (fed r x) r.a1 (xor r.a2 r.a3))

-- the input itself, which is what a adds to the a of two and of three clocks before
abbrev pub input : Register → Bool → Bool
input r x = x

abbrev pub taps_x : ℕ → ℕ
taps_x n = bit_xor (bit_xor n (n / 4)) (n / 8)

added_twice : (x y z : Bool) → xor (xor (xor x (xor y z)) y) z ≡ x
unfolding xor
added_twice true true true = refl
added_twice true true false = refl
added_twice true false true = refl
added_twice true false false = refl
added_twice false true true = refl
added_twice false true false = refl
added_twice false false true = refl
added_twice false false false = refl

pub shifts_x : Shifts input taps_x
shifts_x w r x e =
    let a = fed r x in
    ap₂ bit_xor (ap (bit_xor (w * 2 + byte a)) (quarter w r x e) ∙ xor_more w (w / 4) a r.a2) (eighth w r x e)
    ∙ xor_more (bit_xor w (w / 4)) (w / 8) (xor a r.a2) r.a3
    ∙ ap (λ (b : Bool). taps_x w * 2 + byte b) (added_twice x r.a2 r.a3)

-- ---- all clocks
shifted-all : (y : Register → Bool → Bool) (f : ℕ → ℕ) → Shifts y f → (w : ℕ) (r : Register) (row : List Bool) → w % 8 ≡ number_of r
    → f (number_on w (outputs fed r row)) ≡ number_on (f w) (outputs y r row)
unfolding number_on outputs
shifted-all y f shifts w r [] e = refl
shifted-all y f shifts w r (x ∷ row) e =
    shifted-all y f shifts (w * 2 + byte (fed r x)) (next r x) row (moved w r e x)
    ∙ ap (λ (n : ℕ). number_on n (outputs y (next r x) row)) (shifts w r x e)

small_stands : (r : Register) → number_of r % 8 ≡ number_of r
small_stands r = mod-eq_of_lt (number_small r)

pub taps : (y : Register → Bool → Bool) (f : ℕ → ℕ) → Shifts y f → (n : ℕ) → Taps y n (f n)
unfolding fed_on
taps y f shifts n r row e =
    let is : f n ≡ number_on (f (number_of r)) (outputs y r row) = ap f e ∙ shifted-all y f shifts (number_of r) r row (small_stands r) in
    ap₂ (λ (m k : ℕ). m % 2 ^ k) is (sym (length-outputs y r row)) ∙ on_low (f (number_of r)) (outputs y r row)

last-all : (w : ℕ) (r : Register) (row : List Bool) → w % 8 ≡ number_of r → number_on w (outputs fed r row) % 8 ≡ number_of (register_after r row)
unfolding number_on outputs register_after
last-all w r [] e = e
last-all w r (x ∷ row) e = last-all (w * 2 + byte (fed r x)) (next r x) row (moved w r e x)

pub last_of : (n : ℕ) → Last n (register_of (bit_and n 7))
unfolding fed_on
last_of n r row e = register-made (register_after r row) (and_mask n 3 ∙ ap (λ (m : ℕ). m % 8) e ∙ last-all (number_of r) r row (small_stands r))

-- ---- of one clock
module _ (y : Register → Bool → Bool) (n t : ℕ) (tapped : Taps y n t) (r : Register) where
  pub tap_one : (x : Bool) → n ≡ fed_on r (x ∷ []) → t % 2 ≡ byte (y r x)
  unfolding number_on outputs
  tap_one x e = omega (arith, tapped r (x ∷ []) e)
