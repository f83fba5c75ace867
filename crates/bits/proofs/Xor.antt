-- The exclusive or of numbers is a sum in which every term is its own opposite.
-- Assumes nothing.
use mathlib.Core.Path.{◌≡◌, refl, sym, ap, ap₂, ◌∙◌}
use mathlib.Core.Bool.{Bool, true, false, xor}
use Prim.Native.Nat.{ℕ, zero, suc, ◌+◌, ◌*◌, ◌/◌, ◌%◌, ◌^◌, ◌<◌}
use native.Mathlib.Nat.{add-zero, zero-mul, mod-lt, zero-lt-suc}
use native.Mathlib.Omega.{arith}
use lib.Arith.{bin_ind, digits_mod}
use lib.Bits.{bit_xor, differ, xor_step, xor_zero_r, xor_comm, xor_self, xor_shr, xor_mod, xor_block, xor_lt}
use Rattle.bits.specs.Bits.{byte}
use Rattle.bits.specs.Xor.{◌⊕◌}

-- ---- digit by digit
odd : (n : ℕ) → n % 2 < 2
odd n = mod-lt n (zero-lt-suc 1)

differ-lt : (x y : ℕ) → x < 2 → y < 2 → differ x y < 2
differ-lt zero y h l = l
differ-lt (suc zero) zero h l = h
differ-lt (suc zero) (suc y) h l = omega arith
differ-lt (suc (suc x)) y h l = absurd (omega arith)

differ_assoc : (x y z : ℕ) → x < 2 → y < 2 → z < 2 → differ (differ x y) z ≡ differ x (differ y z)
differ_assoc zero y z h l m = refl
differ_assoc (suc zero) zero z h l m = refl
differ_assoc (suc zero) (suc zero) zero h l m = refl
differ_assoc (suc zero) (suc zero) (suc zero) h l m = refl
differ_assoc (suc zero) (suc zero) (suc (suc z)) h l m = absurd (omega arith)
differ_assoc (suc zero) (suc (suc y)) z h l m = absurd (omega arith)
differ_assoc (suc (suc x)) y z h l m = absurd (omega arith)

lowest : (a b : ℕ) → bit_xor a b % 2 ≡ differ (a % 2) (b % 2)
lowest a b = ap (λ (n : ℕ). n % 2) (xor_step a b) ∙ digits_mod (bit_xor (a / 2) (b / 2)) (differ-lt (a % 2) (b % 2) (odd a) (odd b))

xor_assoc : (a b c : ℕ) → bit_xor (bit_xor a b) c ≡ bit_xor a (bit_xor b c)
xor_assoc a =
    bin_ind (λ (n : ℕ). (b c : ℕ) → bit_xor (bit_xor n b) c ≡ bit_xor n (bit_xor b c)) (λ b c. refl)
    (λ n rest b c. xor_step (bit_xor n b) c
    ∙ ap₂ (λ (x y : ℕ). x * 2 + y)
    (ap (λ (x : ℕ). bit_xor x (c / 2)) (xor_shr n b 1) ∙ rest (b / 2) (c / 2) ∙ ap (bit_xor (n / 2)) (sym (xor_shr b c 1)))
    (ap (λ (x : ℕ). differ x (c % 2)) (lowest n b) ∙ differ_assoc (n % 2) (b % 2) (c % 2) (odd n) (odd b) (odd c) ∙ ap (differ (n % 2)) (sym (lowest b c)))
    ∙ sym (xor_step n (bit_xor b c))) a

-- ---- the laws
pub ⊕-is : (a b : ℕ) → bit_xor a b ≡ a ⊕ b
unfolding ◌⊕◌
⊕-is a b = refl

pub ⊕_assoc : (a b c : ℕ) → a ⊕ b ⊕ c ≡ a ⊕ (b ⊕ c)
unfolding ◌⊕◌
⊕_assoc = xor_assoc

pub ⊕_comm : (a b : ℕ) → a ⊕ b ≡ b ⊕ a
unfolding ◌⊕◌
⊕_comm = xor_comm

pub ⊕_self : (a : ℕ) → a ⊕ a ≡ 0
unfolding ◌⊕◌
⊕_self = xor_self

pub zero-⊕ : (a : ℕ) → 0 ⊕ a ≡ a
unfolding ◌⊕◌
zero-⊕ a = refl

pub ⊕-zero : (a : ℕ) → a ⊕ 0 ≡ a
unfolding ◌⊕◌
⊕-zero = xor_zero_r

pub ⊕-lt : (n a b : ℕ) → a < 2 ^ n → b < 2 ^ n → a ⊕ b < 2 ^ n
unfolding ◌⊕◌
⊕-lt = xor_lt

pub ⊕-left_comm : (a b c : ℕ) → a ⊕ (b ⊕ c) ≡ b ⊕ (a ⊕ c)
⊕-left_comm a b c = sym (⊕_assoc a b c) ∙ ap (λ (x : ℕ). x ⊕ c) (⊕_comm a b) ∙ ⊕_assoc b a c

-- four terms, the middle two exchanged
pub ⊕_middle : (a b c d : ℕ) → (a ⊕ b) ⊕ (c ⊕ d) ≡ (a ⊕ c) ⊕ (b ⊕ d)
⊕_middle a b c d = simp (⊕_assoc, ⊕-left_comm)

-- two terms whose sum is 0 are equal
pub ⊕_equal : (a b : ℕ) → a ⊕ b ≡ 0 → a ≡ b
⊕_equal a b e = sym (⊕-zero a) ∙ ap (λ (x : ℕ). a ⊕ x) (sym (⊕_self b)) ∙ sym (⊕_assoc a b b) ∙ ap (λ (x : ℕ). x ⊕ b) e ∙ zero-⊕ b

-- a term added twice falls away, so one that two equal sums share may be left out
⊕_twice : (a b : ℕ) → a ⊕ (a ⊕ b) ≡ b
⊕_twice a b = sym (⊕_assoc a a b) ∙ ap (λ (x : ℕ). x ⊕ b) (⊕_self a) ∙ zero-⊕ b

pub ⊕_cancel : (a b c : ℕ) → a ⊕ b ≡ a ⊕ c → b ≡ c
⊕_cancel a b c e = sym (⊕_twice a b) ∙ ap (λ (x : ℕ). a ⊕ x) e ∙ ⊕_twice a c

-- two bits
pub ⊕-bits : (x y : Bool) → byte x ⊕ byte y ≡ byte (xor x y)
unfolding ◌⊕◌ xor
⊕-bits true true = refl
⊕-bits true false = refl
⊕-bits false true = refl
⊕-bits false false = refl

-- ---- shifted, and one digit of it
pub ⊕_double : (a b : ℕ) → (a ⊕ b) * 2 ≡ (a * 2) ⊕ (b * 2)
unfolding ◌⊕◌
⊕_double a b = sym (add-zero (bit_xor a b * 2)) ∙ sym (xor_block 1 a b 0 0 (zero-lt-suc 1) (zero-lt-suc 1)) ∙ ap₂ bit_xor (add-zero (a * 2)) (add-zero (b * 2))

-- two digits, each as many times c
pub ⊕_times : (c x y : ℕ) → x < 2 → y < 2 → (x ⊕ y) * c ≡ (x * c) ⊕ (y * c)
⊕_times c zero y h l = simp (zero-mul, zero-⊕)
⊕_times c (suc zero) zero h l = simp (zero-mul, ⊕-zero)
⊕_times c (suc zero) (suc zero) h l = simp (⊕_self, zero-mul)
⊕_times c (suc zero) (suc (suc y)) h l = absurd (omega arith)
⊕_times c (suc (suc x)) y h l = absurd (omega arith)

pub ⊕-place : (i a b : ℕ) → (a ⊕ b) / 2 ^ i % 2 ≡ (a / 2 ^ i % 2) ⊕ (b / 2 ^ i % 2)
unfolding ◌⊕◌
⊕-place i a b = ap (λ (n : ℕ). n % 2) (xor_shr a b i) ∙ xor_mod (a / 2 ^ i) (b / 2 ^ i) 1

pub ⊕-digit : (i c a b : ℕ) → (a ⊕ b) / 2 ^ i % 2 * c ≡ (a / 2 ^ i % 2 * c) ⊕ (b / 2 ^ i % 2 * c)
⊕-digit i c a b = ap (λ (x : ℕ). x * c) (⊕-place i a b) ∙ ⊕_times c (a / 2 ^ i % 2) (b / 2 ^ i % 2) (odd (a / 2 ^ i)) (odd (b / 2 ^ i))
