-- j to (a j + d) modulo n is undone where a has an inverse b modulo n.
-- Assumes nothing.
use mathlib.Core.Path.{◌≡◌, sym, ap, ◌∙◌}
use Prim.Native.Nat.{ℕ, suc, ◌+◌, ◌-◌, ◌*◌, ◌/◌, ◌%◌, ◌<◌}
use native.Mathlib.Nat.{mod-lt, mod-eq_of_lt, mod-add-mod, mul-add-mod_self_right, add-mul-mod_self_right, div-add-mod', mul_comm, mul_assoc, mul-add, add_assoc, one-mul}
use native.Mathlib.Omega.{arith}

mul_mod_right : (a b n : ℕ) → a * (b % n) % n ≡ a * b % n
mul_mod_right a b n =
    sym
    (ap (λ (x : ℕ). a * x % n) (sym (div-add-mod' b n))
    ∙ ap (λ (x : ℕ). x % n) (mul-add a (b / n * n) (b % n) ∙ ap (λ (x : ℕ). x + a * (b % n)) (sym (mul_assoc a (b / n) n)))
    ∙ mul-add-mod_self_right (a * (b / n)) n (a * (b % n)))

mul_mod_left : (a b n : ℕ) → a % n * b % n ≡ a * b % n
mul_mod_left a b n = ap (λ (x : ℕ). x % n) (mul_comm (a % n) b) ∙ mul_mod_right b a n ∙ ap (λ (x : ℕ). x % n) (mul_comm b a)

abbrev pub affine : ℕ → ℕ → ℕ → ℕ → ℕ
affine n a d j = (a * j + d) % n

abbrev pub affine_back : ℕ → ℕ → ℕ → ℕ → ℕ
affine_back n b d c = b * (c + (n - d % n)) % n

module _ (n a b d : ℕ) (some : 0 < n) (one : a * b % n ≡ 1 % n) where
  -- d and what is added on the way back make a multiple of n
  around : d + (n - d % n) ≡ suc (d / n) * n
  around = omega (arith, div-add-mod' d n, mod-lt d some)

  cancel : (x : ℕ) → a * b * x % n ≡ x % n
  cancel x = sym (mul_mod_left (a * b) x n) ∙ ap (λ (y : ℕ). y * x % n) one ∙ mul_mod_left 1 x n ∙ ap (λ (y : ℕ). y % n) (one-mul x)

  pub back_affine : (j : ℕ) → j < n → affine_back n b d (affine n a d j) ≡ j
  back_affine j h =
      sym (mul_mod_right b (affine n a d j + (n - d % n)) n)
      ∙ ap (λ (x : ℕ). b * x % n)
      (mod-add-mod (a * j + d) n (n - d % n)
      ∙ ap (λ (x : ℕ). x % n) (add_assoc (a * j) d (n - d % n) ∙ ap (λ (x : ℕ). a * j + x) around)
      ∙ add-mul-mod_self_right (a * j) (suc (d / n)) n)
      ∙ mul_mod_right b (a * j) n
      ∙ ap (λ (x : ℕ). x % n) (sym (mul_assoc b a j) ∙ ap (λ (x : ℕ). x * j) (mul_comm b a))
      ∙ cancel j
      ∙ mod-eq_of_lt h

  pub affine_back_lem : (c : ℕ) → c < n → affine n a d (affine_back n b d c) ≡ c
  affine_back_lem c h =
      let y = c + (n - d % n) in
      sym (mod-add-mod (a * affine_back n b d c) n d)
      ∙ ap (λ (x : ℕ). (x + d) % n) (mul_mod_right a (b * y) n ∙ ap (λ (x : ℕ). x % n) (sym (mul_assoc a b y)) ∙ cancel y)
      ∙ mod-add-mod y n d
      ∙ ap (λ (x : ℕ). x % n) (omega (arith, around))
      ∙ add-mul-mod_self_right c (suc (d / n)) n
      ∙ mod-eq_of_lt h
