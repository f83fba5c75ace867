-- π is a permutation of the positions 1 to k on every good row.
-- Assumes nothing.
use mathlib.Core.Path.{◌≡◌, sym, ap, ap₂, subst, ◌∙◌}
use Prim.Native.Nat.{ℕ, ◌+◌, ◌-◌, ◌*◌, ◌/◌, ◌%◌, ◌<◌}
use native.Mathlib.Nat.{mod-lt, mod-le, lt_of_le_of_lt, div-add-mod', div-div-eq-div-mul, mod-eq-sub-div-mul, div-lt_iff_lt-mul, add_comm, zero-lt-suc}
use native.Mathlib.Omega.{arith}
use lib.Arith.{digits_lt, digits_div, digits_mod}
use lib.Dec.{T}
use Rattle.links.specs.declared.Row.{Row}
use Rattle.links.specs.Working.Good.{good_row, inverse}
use Rattle.links.proofs.Facts.{prime, sizes, block-is, inverses}
use Rattle.turbo.specs.Interleaver.{position, InBlock}
use Rattle.turbo.proofs.Affine.{affine, affine_back, back_affine, affine_back_lem}
use Rattle.turbo.proofs.Steps.{position-steps}

module _ (row : Row) where
  abbrev pub half : ℕ
  half = row.k1 / 2

  -- t, c and π(s) from the digits m, i, j of s - 1
  abbrev pub t_from : ℕ → ℕ
  t_from i = affine half 19 1 i

  abbrev pub c_from : ℕ → ℕ → ℕ → ℕ
  c_from m t j = affine row.k2 (prime row (t % 8)) (21 * m) j

  abbrev pub position_of : ℕ → ℕ → ℕ → ℕ
  position_of m t c = 2 * (t + c * half + 1) - m

  abbrev pub digits_position : ℕ → ℕ → ℕ → ℕ
  digits_position m i j = position_of m (t_from i) (c_from m (t_from i) j)

  position-is : (s : ℕ) → position row s ≡ digits_position ((s - 1) % 2) ((s - 1) / 2 / row.k2) ((s - 1) / 2 % row.k2)
  position-is s =
      let m = (s - 1) % 2 in
      let x = (s - 1) / 2 in
      position-steps row s
      ∙ ap (λ (i : ℕ). digits_position m i (x - i * row.k2)) (sym (div-div-eq-div-mul (s - 1) 2 row.k2))
      ∙ ap (digits_position m (x / row.k2)) (sym (mod-eq-sub-div-mul x row.k2))

  -- the s with π(s) = r, from the digits m, t, c of r
  abbrev pub clock_from : ℕ → ℕ → ℕ → ℕ
  clock_from m i j = 2 * (i * row.k2 + j) + m + 1

  abbrev i_from : ℕ → ℕ
  i_from t = affine_back half (inverse 19 half) 1 t

  abbrev j_from : ℕ → ℕ → ℕ → ℕ
  j_from m t c = affine_back row.k2 (inverse (prime row (t % 8)) row.k2) (21 * m) c

  abbrev digits_clock : ℕ → ℕ → ℕ → ℕ
  digits_clock m t c = clock_from m (i_from t) (j_from m t c)

-- the clock at which the second encoder takes bit r
unfoldable pub clock_of : Row → ℕ → ℕ
clock_of row r =
    let v = (r + r % 2) / 2 - 1 in
    digits_clock row (r % 2) (v % (row.k1 / 2)) (v / (row.k1 / 2))

-- the last digit and the rest of a position
position-last : (x m : ℕ) → m < 2 → (2 * (x + 1) - m) % 2 ≡ m
position-last x m h = omega arith

position-rest : (x m : ℕ) → m < 2 → (2 * (x + 1) - m + m) / 2 - 1 ≡ x
position-rest x m h = omega arith

module _ (row : Row) (good : T (good_row row)) where
  some_half : 0 < half row
  some_half = (sizes row good).half

  some_width : 0 < row.k2
  some_width = (sizes row good).width

  position_in : (m t c : ℕ) → m < 2 → t < half row → c < row.k2 → InBlock row (position_of row m t c)
  position_in m t c hm ht hc =
      let below : c * half row + t < row.k2 * half row = digits_lt hc ht in
      omega (arith, block-is row good)

  -- π(s) is a position of the block, whatever s is
  pub position-in_range : (s : ℕ) → InBlock row (position row s)
  position-in_range s =
      subst (InBlock row) (sym (position-is row s))
      (position_in ((s - 1) % 2) _ _ (omega arith) (mod-lt _ some_half) (mod-lt _ some_width))

  clock-in : (m i j : ℕ) → m < 2 → i < half row → j < row.k2 → InBlock row (clock_from row m i j)
  clock-in m i j hm hi hj =
      let below : i * row.k2 + j < half row * row.k2 = digits_lt hi hj in
      omega (arith, block-is row good)

  pub clock-in_range : (r : ℕ) → InBlock row (clock_of row r)
  unfolding clock_of
  clock-in_range r = clock-in (r % 2) _ _ (omega arith) (mod-lt _ some_half) (mod-lt _ some_width)

  prime_inverse : (t : ℕ) → t < half row → prime row (t % 8) * inverse (prime row (t % 8)) row.k2 % row.k2 ≡ 1 % row.k2
  prime_inverse t h = (inverses row good).of_prime (t % 8) (mod-lt t (zero-lt-suc 7)) (lt_of_le_of_lt (mod-le t 8) h)

  -- ---- i and t, j and c give each other
  i-back : (i : ℕ) → i < half row → i_from row (t_from row i) ≡ i
  i-back i h = back_affine (half row) 19 (inverse 19 (half row)) 1 some_half (inverses row good).of_19 i h

  t_back : (t : ℕ) → t < half row → t_from row (i_from row t) ≡ t
  t_back t h = affine_back_lem (half row) 19 (inverse 19 (half row)) 1 some_half (inverses row good).of_19 t h

  j_back : (m t j : ℕ) → t < half row → j < row.k2 → j_from row m t (c_from row m t j) ≡ j
  j_back m t j ht h = back_affine row.k2 (prime row (t % 8)) (inverse (prime row (t % 8)) row.k2) (21 * m) some_width (prime_inverse t ht) j h

  c_back : (m t c : ℕ) → t < half row → c < row.k2 → c_from row m t (j_from row m t c) ≡ c
  c_back m t c ht h = affine_back_lem row.k2 (prime row (t % 8)) (inverse (prime row (t % 8)) row.k2) (21 * m) some_width (prime_inverse t ht) c h

  -- ---- from a clock to its position and back
  clock-of : (m t c : ℕ) → m < 2 → t < half row → clock_of row (position_of row m t c) ≡ digits_clock row m t c
  unfolding clock_of
  clock-of m t c hm ht =
      let x = t + c * half row in
      ap₂ (λ (m v : ℕ). digits_clock row m (v % half row) (v / half row)) (position-last x m hm)
      (ap (λ (m' : ℕ). (position_of row m t c + m') / 2 - 1) (position-last x m hm) ∙ position-rest x m hm ∙ add_comm t (c * half row))
      ∙ ap₂ (digits_clock row m) (digits_mod c ht) (digits_div c ht)

  clock_digits : (m i j : ℕ) → m < 2 → i < half row → j < row.k2 → clock_of row (digits_position row m i j) ≡ clock_from row m i j
  clock_digits m i j hm hi hj =
      let t = t_from row i in
      let ht : t < half row = mod-lt (19 * i + 1) some_half in
      clock-of m t (c_from row m t j) hm ht ∙ ap₂ (clock_from row m) (i-back i hi) (j_back m t j ht hj)

  pub clock-position : (s : ℕ) → InBlock row s → clock_of row (position row s) ≡ s
  clock-position s h =
      let x = (s - 1) / 2 in
      ap (clock_of row) (position-is row s)
      ∙ clock_digits ((s - 1) % 2) (x / row.k2) (x % row.k2) (omega arith) ((div-lt_iff_lt-mul some_width).1 (omega (arith, block-is row good))) (mod-lt x some_width)
      ∙ ap (λ (y : ℕ). 2 * y + (s - 1) % 2 + 1) (div-add-mod' x row.k2)
      ∙ omega arith

  -- ---- from a position to its clock and back
  pub position-clock-from : (m i j : ℕ) → m < 2 → j < row.k2 → position row (clock_from row m i j) ≡ digits_position row m i j
  position-clock-from m i j hm hj =
      position-is row (clock_from row m i j)
      ∙ ap₂ (λ (m x : ℕ). digits_position row m (x / row.k2) (x % row.k2)) (last (i * row.k2 + j)) (rest (i * row.k2 + j))
      ∙ ap₂ (digits_position row m) (digits_div i hj) (digits_mod i hj)
    where
      last : (x : ℕ) → (2 * x + m + 1 - 1) % 2 ≡ m
      last x = omega arith

      rest : (x : ℕ) → (2 * x + m + 1 - 1) / 2 ≡ x
      rest x = omega arith

  position_digits : (m t c : ℕ) → m < 2 → t < half row → c < row.k2 → position row (digits_clock row m t c) ≡ position_of row m t c
  position_digits m t c hm ht hc =
      let j = j_from row m t c in
      position-clock-from m (i_from row t) j hm (mod-lt _ some_width)
      ∙ ap (λ (t' : ℕ). position_of row m t' (c_from row m t' j)) (t_back t ht)
      ∙ ap (position_of row m t) (c_back m t c ht hc)

  pub position-clock : (r : ℕ) → InBlock row r → position row (clock_of row r) ≡ r
  unfolding clock_of
  position-clock r h =
      let v = (r + r % 2) / 2 - 1 in
      position_digits (r % 2) (v % half row) (v / half row) (omega arith) (mod-lt v some_half) ((div-lt_iff_lt-mul some_half).1 (omega (arith, block-is row good)))
      ∙ ap (λ (x : ℕ). 2 * (x + 1) - r % 2) (add_comm (v % half row) (v / half row * half row) ∙ div-add-mod' v (half row))
      ∙ omega arith

  -- ---- different clocks take different bits, and every bit is taken
  pub position_injective : (s r : ℕ) → InBlock row s → InBlock row r → position row s ≡ position row r → s ≡ r
  position_injective s r hs hr e = sym (clock-position s hs) ∙ ap (clock_of row) e ∙ clock-position r hr

  pub position_onto : (r : ℕ) → InBlock row r → (s : ℕ) × InBlock row s × (position row s ≡ r)
  position_onto r h = (clock_of row r, clock-in_range r, position-clock r h)
