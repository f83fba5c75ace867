-- The sixes of 24 clocks stand at their places in six numbers.
-- Assumes nothing.
use mathlib.Core.Path.{◌≡◌, refl, sym, ap, ap₂, ◌∙◌}
use mathlib.Core.Bool.{Bool}
use mathlib.Core.List.{List, [], ◌∷◌, map}
use Prim.Native.Nat.{ℕ, zero, suc, ◌+◌, ◌-◌, ◌*◌, ◌/◌, ◌%◌, ◌^◌, ◌<◌}
use native.Mathlib.Nat.{pow-succ', zero-lt-suc, mod-lt, mod-eq_of_lt}
use native.Mathlib.Omega.{arith}
use lib.Arith.{digits_div, digits_mod, mod-mul}
use lib.ListN.{length, get_or}
use lib.Pow.{pow_pos}
use Rattle.bits.specs.Bits.{byte}
use Rattle.bits.specs.Row.{number, high_first}
use Rattle.bits.proofs.Row.{number-first, number_lt, high_first-number}
use Rattle.turbo.specs.Encoder.{Register, next, y0, y1}
use Rattle.turbo.specs.Coded.{six}
use Rattle.turbo.specs.Outputs.{outputs}
use Rattle.encoder.specs.Working.Fed.{Taps, fed_on}
use Rattle.encoder.proofs.Taps.{length-outputs}
use Rattle.groups.specs.Working.Together.{sixes}
use Rattle.groups.specs.Working.Group.{digit, places_of, places_from}

-- ---- the highest digit of a row is its first bit
module _ (w m : ℕ) (b : Bool) (row : List Bool) (long : length row ≡ m) (is : w % 2 ^ suc m ≡ number (b ∷ row)) where
  parts : w / 2 ^ m % 2 * 2 ^ m + w % 2 ^ m ≡ byte b * 2 ^ m + number row
  parts = sym (mod-mul w (zero-lt-suc 1) (pow_pos m)) ∙ ap (λ (n : ℕ). w % n) (sym (pow-succ' 2 m)) ∙ is ∙ rw long at (number-first b row)

  low : number row < 2 ^ m
  low = rw long at (number_lt row)

  top : w / 2 ^ m % 2 ≡ byte b
  top = sym (digits_div (w / 2 ^ m % 2) (mod-lt w (pow_pos m))) ∙ ap (λ (n : ℕ). n / 2 ^ m) parts ∙ digits_div (byte b) low

  others : w % 2 ^ m ≡ number row
  others = sym (digits_mod (w / 2 ^ m % 2) (mod-lt w (pow_pos m))) ∙ ap (λ (n : ℕ). n % 2 ^ m) parts ∙ digits_mod (byte b) low

-- ---- the last m of 24 clocks: the m lowest digits of each number
record Rows (all : List ℕ) (m : ℕ) (a b : Register) (us vs : List Bool) : Type 0 where
  x : get_or all 0 0 % 2 ^ m ≡ number us
  first : get_or all 1 0 % 2 ^ m ≡ number (outputs y0 a us)
  second : get_or all 2 0 % 2 ^ m ≡ number (outputs y1 a us)
  x' : get_or all 3 0 % 2 ^ m ≡ number vs
  first' : get_or all 4 0 % 2 ^ m ≡ number (outputs y0 b vs)
  second' : get_or all 5 0 % 2 ^ m ≡ number (outputs y1 b vs)

digit_at : (all : List ℕ) (t m : ℕ) → m < 32 → digit all (m + 32 * t) ≡ get_or all t 0 / 2 ^ m % 2
unfolding digit
digit_at all t m h =
    let which : (m + 32 * t) / 32 ≡ t = omega arith in
    let place : (m + 32 * t) % 32 ≡ m = omega arith in
    ap₂ (λ (i k : ℕ). get_or all i 0 / 2 ^ k % 2) which place

module _ (all : List ℕ) where
  stand : (c m : ℕ) (a b : Register) (us vs : List Bool) → c + m ≡ 24 → length us ≡ m → length vs ≡ m → Rows all m a b us vs
      → map (map (digit all)) (places_from c m) ≡ map (map byte) (sixes a b us vs)
  unfolding places_from sixes places_of six outputs
  stand c zero a b [] vs e l n i = refl
  stand c zero a b (x ∷ us) vs e l n i = absurd (omega arith)
  stand c (suc m) a b [] vs e l n i = absurd (omega arith)
  stand c (suc m) a b (x ∷ us) [] e l n i = absurd (omega arith)
  stand c (suc m) a b (x ∷ us) (y ∷ vs) e l n i =
      let lu : length us ≡ m = omega arith in
      let lv : length vs ≡ m = omega arith in
      let at : 23 - c ≡ m = omega arith in
      let ou : (z : Register → Bool → Bool) → length (outputs z (next a x) us) ≡ m = λ z. length-outputs z (next a x) us ∙ lu in
      let ov : (z : Register → Bool → Bool) → length (outputs z (next b y) vs) ≡ m = λ z. length-outputs z (next b y) vs ∙ lv in
      let d0 : digit all m ≡ byte x = ap (digit all) (omega arith) ∙ digit_at all 0 m (omega arith) ∙ top (get_or all 0 0) m x us lu i.x in
      let d1 : digit all (m + 32) ≡ byte (y0 a x) = digit_at all 1 m (omega arith) ∙ top (get_or all 1 0) m (y0 a x) _ (ou y0) i.first in
      let d2 : digit all (m + 64) ≡ byte (y1 a x) = digit_at all 2 m (omega arith) ∙ top (get_or all 2 0) m (y1 a x) _ (ou y1) i.second in
      let d3 : digit all (m + 96) ≡ byte y = digit_at all 3 m (omega arith) ∙ top (get_or all 3 0) m y vs lv i.x' in
      let d4 : digit all (m + 128) ≡ byte (y0 b y) = digit_at all 4 m (omega arith) ∙ top (get_or all 4 0) m (y0 b y) _ (ov y0) i.first' in
      let d5 : digit all (m + 160) ≡ byte (y1 b y) = digit_at all 5 m (omega arith) ∙ top (get_or all 5 0) m (y1 b y) _ (ov y1) i.second' in
      let rest : Rows all m (next a x) (next b y) us vs =
      record {
        x = others (get_or all 0 0) m x us lu i.x;
        first = others (get_or all 1 0) m (y0 a x) _ (ou y0) i.first;
        second = others (get_or all 2 0) m (y1 a x) _ (ou y1) i.second;
        x' = others (get_or all 3 0) m y vs lv i.x';
        first' = others (get_or all 4 0) m (y0 b y) _ (ov y0) i.first';
        second' = others (get_or all 5 0) m (y1 b y) _ (ov y1) i.second';
      } in
      ap₂ {A = List ℕ} {B = List (List ℕ)} ◌∷◌
      (rw (at, d0, d1, d2, d3, d4, d5))
      (stand (suc c) m (next a x) (next b y) us vs (omega arith) lu lv rest)

-- 24 inputs as the number that the code packs them in
pub inputs-row : (row : List Bool) → length row ≡ 24 → {x : ℕ} → x ≡ number row → high_first 24 x ≡ row
inputs-row row l e = ap (high_first 24) e ∙ rw l at (high_first-number row)

-- the numbers that the code makes of 24 clocks: the inputs x and y, and the taps of what they fed
module _ (a b : Register) (us vs : List Bool) (lu : length us ≡ 24) (lv : length vs ≡ 24) where
  inputs_low : (row : List Bool) → length row ≡ 24 → {x : ℕ} → x ≡ number row → x % 2 ^ 24 ≡ number row
  inputs_low row l e = let low : number row < 2 ^ 24 = rw l at (number_lt row) in ap (λ (n : ℕ). n % 2 ^ 24) e ∙ mod-eq_of_lt low

  tap_all : (z : Register → Bool → Bool) (r : Register) (row : List Bool) → length row ≡ 24 → (n t : ℕ) → n ≡ fed_on r row → Taps z n t → t % 2 ^ 24 ≡ number (outputs z r row)
  tap_all z r row l n t e tapped = ap (λ (k : ℕ). t % 2 ^ k) (sym l) ∙ tapped r row e

  pub stands : (x f p q y g r s : ℕ) → x ≡ number us → f ≡ fed_on a us → Taps y0 f p → Taps y1 f q → y ≡ number vs → g ≡ fed_on b vs → Taps y0 g r → Taps y1 g s
      → map (map (digit (x ∷ p ∷ q ∷ y ∷ r ∷ s ∷ 0 ∷ 0 ∷ []))) (places_from 0 24) ≡ map (map byte) (sixes a b us vs)
  stands x f p q y g r s ex ef tp tq ey eg tr ts =
      stand (x ∷ p ∷ q ∷ y ∷ r ∷ s ∷ 0 ∷ 0 ∷ []) 0 24 a b us vs (omega arith) lu lv
      (record {
        x = inputs_low us lu ex;
        first = tap_all y0 a us lu f p ef tp;
        second = tap_all y1 a us lu f q ef tq;
        x' = inputs_low vs lv ey;
        first' = tap_all y0 b vs lv g r eg tr;
        second' = tap_all y1 b vs lv g s eg ts;
      })
