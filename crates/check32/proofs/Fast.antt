-- The register by native arithmetic alone, so that antt computes it fast: an exclusive or is the sum less twice the digits that both have.
-- Assumes nothing.
use mathlib.Core.Path.{◌≡◌, refl, sym, ap, ap₂, ◌∙◌}
use mathlib.Core.Bool.{Bool, true, false}
use mathlib.Core.List.{List, [], ◌∷◌}
use Prim.Native.Nat.{ℕ, zero, suc, ◌+◌, ◌-◌, ◌*◌, ◌/◌, ◌%◌, ◌^◌, ◌<◌}
use native.Mathlib.Nat.{mod-lt, lt_of_lt_of_le}
use native.Mathlib.Omega.{arith}
use lib.Bits.{bit_xor, bit_and, xor_zero_r, xor_add_and, and_block, and_mask}
use lib.Dec.{lit<}
use lib.Pow.{pow_pos, pow_mono, split, mod-mod-pow, ones_lt}
use Rattle.bits.specs.Bits.{byte}
use Rattle.check32.specs.Check.{x32, step, register_from, loaded, register}
use Rattle.check32.proofs.Word.{step-word, step-lt}

-- ---- the digits that a number shares with the generator below x^32: 2 1 0, 5 4, 8 7, 12 11 10, 16, 23 22, 26
shared : ℕ → ℕ
shared n =
    let from4 = n / 16 in
    let from7 = from4 / 8 in
    let from10 = from7 / 8 in
    let from16 = from10 / 64 in
    let from22 = from16 / 64 in
    let from26 = from22 / 16 in
    (((((from26 % 2 * 16 + from22 % 4) * 64 + from16 % 2) * 64 + from10 % 8) * 8 + from7 % 4) * 8 + from4 % 4) * 16 + n % 8

-- a run of ones with zeros above it, and then a
run : (zeros ones a n m : ℕ) → bit_and (n / 2 ^ (zeros + ones)) a ≡ m
    → bit_and n (a * 2 ^ (zeros + ones) + (2 ^ ones - 1)) ≡ m * 2 ^ (zeros + ones) + n % 2 ^ ones
run zeros ones a n m e =
    let wide = zeros + ones in
    ap (λ (x : ℕ). bit_and x (a * 2 ^ wide + (2 ^ ones - 1))) (sym (split n wide))
    ∙ and_block wide (n / 2 ^ wide) a (n % 2 ^ wide) (2 ^ ones - 1) (mod-lt n (pow_pos wide)) (lt_of_lt_of_le (ones_lt ones) (pow_mono (omega arith)))
    ∙ ap₂ (λ (x y : ℕ). x * 2 ^ wide + y) e (and_mask (n % 2 ^ wide) ones ∙ mod-mod-pow n zeros ones)

shared_is : (n : ℕ) → bit_and n x32 ≡ shared n
unfolding shared
shared_is n =
    let above : ℕ → ℕ = λ i. x32 / 2 ^ i in
    run 1 3 (above 4) n _ (run 1 2 (above 7) _ _ (run 1 2 (above 10) _ _ (run 3 3 (above 16) _ _ (run 5 1 (above 22) _ _ (run 2 2 (above 26) _ _ (and_mask _ 1))))))

-- the generator added to n where the bit t is set
reduced : ℕ → ℕ → ℕ
reduced zero n = n
reduced (suc t) n = n + x32 - shared n * 2

xor_less : (n : ℕ) → bit_xor n x32 ≡ n + x32 - shared n * 2
xor_less n = omega (arith, xor_add_and n x32, shared_is n)

reduced_is : (t n : ℕ) → t < 2 → reduced t n ≡ bit_xor n (t * x32)
unfolding reduced
reduced_is zero n h = sym (xor_zero_r n)
reduced_is (suc zero) n h = sym (xor_less n)
reduced_is (suc (suc t)) n h = absurd (omega arith)

digit_sum : (x : ℕ) (b : Bool) → x < 2 → bit_xor x (byte b) ≡ (x + byte b) % 2
digit_sum zero true h = refl
digit_sum zero false h = refl
digit_sum (suc zero) true h = refl
digit_sum (suc zero) false h = refl
digit_sum (suc (suc x)) b h = absurd (omega arith)

-- ---- the register
unfoldable pub fast_step : ℕ → Bool → ℕ
unfolding shared reduced
fast_step r b = reduced ((r / 2 ^ 31 + byte b) % 2) (r * 2 % 2 ^ 32)

pub fast_step_is : (r : ℕ) (b : Bool) → r < 2 ^ 32 → fast_step r b ≡ step r b
unfolding fast_step
fast_step_is r b h =
    reduced_is ((r / 2 ^ 31 + byte b) % 2) (r * 2 % 2 ^ 32) (omega arith)
    ∙ ap (λ (t : ℕ). bit_xor (r * 2 % 2 ^ 32) (t * x32)) (sym (digit_sum (r / 2 ^ 31) b (omega arith)))
    ∙ step-word r h b (byte b) refl

unfoldable pub fast_from : ℕ → List Bool → ℕ
unfolding fast_step
fast_from r [] = r
fast_from r (b ∷ row) = fast_from (fast_step r b) row

fast_from_is : (r : ℕ) (row : List Bool) → r < 2 ^ 32 → fast_from r row ≡ register_from r row
unfolding fast_from register_from
fast_from_is r [] h = refl
fast_from_is r (b ∷ row) h = ap (λ (x : ℕ). fast_from x row) (fast_step_is r b h) ∙ fast_from_is (step r b) row (step-lt r h b)

-- the register of a row, computed fast
abbrev pub fast_register : List Bool → ℕ
fast_register row = fast_from loaded row

pub fast_register_is : (row : List Bool) → fast_register row ≡ register row
fast_register_is row = fast_from_is loaded row (lit< tt)
