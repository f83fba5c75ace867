-- Positions by adding: what the code steps along a row of pairs and from row to row is what document 01's formula gives.
-- Assumes nothing.
use mathlib.Core.Path.{◌≡◌, sym, ap, ap₂, ◌∙◌}
use Prim.Native.Nat.{ℕ, ◌+◌, ◌-◌, ◌*◌, ◌%◌, ◌<◌, ◌≤◌}
use native.Mathlib.Nat.{le_of_lt, mod-lt, zero-mod, add-mod, mul-add, add-mul, mul-le-mul_right}
use native.Mathlib.Omega.{arith}
use lib.Arith.{digits_lt, digits_div, digits_mod, mod-mul}
use lib.Dec.{T}
use Rattle.links.specs.declared.Row.{Row}
use Rattle.links.specs.Working.Good.{good_row}
use Rattle.links.proofs.Facts.{prime, sizes, block-is}
use Rattle.turbo.proofs.Permutation.{half, t_from, c_from, digits_position}
use Rattle.interleaver.specs.Working.Starts.{distance, step_of}

-- what the code steps along a row with t: π is 2 - m more
abbrev pub cell : Row → ℕ → ℕ → ℕ
cell row t c = c * row.k1 + 2 * t

-- the same at the digits m, i, j
abbrev pub cell_at : Row → ℕ → ℕ → ℕ → ℕ
cell_at row m i j = cell row (t_from row i) (c_from row m (t_from row i) j)

module _ (row : Row) (good : T (good_row row)) where
  some_width : 0 < row.k2
  some_width = (sizes row good).width

  -- k2 cells of c, each k1 wide
  block_of-cells : row.k ≡ row.k2 * row.k1
  block_of-cells = grind (arith, sizes row good)

  pub k1_within : row.k1 ≤ row.k
  k1_within = grind (arith, sizes row good)

  pub k2_within : row.k2 ≤ row.k
  k2_within = grind (arith, sizes row good)

  -- row i of pairs lies in the block, and behind the last the block ends
  pub row_inside : (i : ℕ) → i < half row → 2 * (i * row.k2) + 2 * row.k2 ≤ row.k
  row_inside i h = grind (arith, block-is row good, mul-le-mul_right row.k2 h)

  pub rows_end : 2 * (half row * row.k2) ≡ row.k
  rows_end = sym (block-is row good)

  pub t_inside : (i : ℕ) → t_from row i < half row
  t_inside i = mod-lt (19 * i + 1) (sizes row good).half

  pub position_cell : (m i j : ℕ) → digits_position row m i j ≡ cell_at row m i j + 2 - m
  position_cell m i j =
      let pairs = ap (λ (k1 : ℕ). c_from row m (t_from row i) j * k1) (sizes row good).even in
      grind (arith, pairs)

  -- both places of a pair lie in the block
  pub cell_inside : (m i j : ℕ) → cell_at row m i j + 1 < row.k
  cell_inside m i j =
      let c = c_from row m (t_from row i) j in
      let ends = digits_lt {q = c} {m = row.k2} {r = 2 * t_from row i + 1} {c = row.k1} (mod-lt _ some_width) (omega (arith, t_inside i, (sizes row good).even)) in
      omega (arith, block_of-cells, ends)

  pub distance_small : (n : ℕ) → distance row n ≤ row.k
  distance_small n = omega (arith, block_of-cells, mul-le-mul_right row.k1 (le_of_lt (mod-lt n some_width)))

  -- n further on in c, with a wrap at k
  cell_on : (t c n : ℕ) → t < half row → (cell row t (c % row.k2) + distance row n) % row.k ≡ cell row t ((c + n) % row.k2)
  cell_on t c n ht =
      let y = c % row.k2 + n % row.k2 in
      let inside : 2 * t < row.k1 = omega (arith, (sizes row good).even) in
      let joined : cell row t (c % row.k2) + distance row n ≡ cell row t y = omega (arith, add-mul (c % row.k2) (n % row.k2) row.k1) in
      ap₂ {A = ℕ} {B = ℕ} {C = ℕ} ◌%◌ joined block_of-cells
      ∙ mod-mul (cell row t y) some_width (omega (arith, inside))
      ∙ ap₂ (λ (c' t' : ℕ). c' % row.k2 * row.k1 + t') (digits_div y inside) (digits_mod y inside)
      ∙ ap (cell row t) (sym (add-mod c n row.k2))

  -- a row begins at 2 t
  pub row-begins : (i : ℕ) → 2 * t_from row i ≡ cell_at row 0 i 0
  row-begins i = grind (arith, zero-mod row.k2)

  -- the next pair of the row
  pub next_pair : (i j : ℕ) → (cell_at row 0 i j + step_of row (t_from row i)) % row.k ≡ cell_at row 0 i (j + 1)
  next_pair i j =
      let p = prime row (t_from row i % 8) in
      let on : p * j + 21 * 0 + p ≡ p * (j + 1) + 21 * 0 = omega (arith, mul-add p j 1) in
      cell_on (t_from row i) (p * j + 21 * 0) p (t_inside i) ∙ ap (λ (c : ℕ). cell row (t_from row i) (c % row.k2)) on

  -- from the first of a pair to the second
  pub second-of_pair : (i j : ℕ) → (cell_at row 0 i j + distance row 21) % row.k ≡ cell_at row 1 i j
  second-of_pair i j =
      let p = prime row (t_from row i % 8) in
      let on : p * j + 21 * 0 + 21 ≡ p * j + 21 * 1 = omega arith in
      cell_on (t_from row i) (p * j + 21 * 0) 21 (t_inside i) ∙ ap (λ (c : ℕ). cell row (t_from row i) (c % row.k2)) on

  -- t of the next row
  pub next_t : (i : ℕ) → (t_from row i + 19 % half row) % half row ≡ t_from row (i + 1)
  next_t i = let on : 19 * i + 1 + 19 ≡ 19 * (i + 1) + 1 = omega arith in sym (add-mod (19 * i + 1) 19 (half row)) ∙ ap (λ (x : ℕ). x % half row) on

-- what the code's goals ask of a good row
pub ruleset good_rows = (sizes, k1_within, k2_within, row_inside, rows_end, t_inside, next_t, distance_small)
