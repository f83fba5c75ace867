-- The steps of π in document 01's letters.
-- Assumes nothing.
use mathlib.Core.Path.{◌≡◌}
use Prim.Native.Nat.{ℕ, ◌+◌, ◌-◌, ◌*◌, ◌/◌, ◌%◌}
use native.Mathlib.Omega.{arith}
use Rattle.links.specs.declared.Row.{Row}
use Rattle.links.proofs.Facts.{prime}
use Rattle.turbo.specs.Interleaver.{position}

module _ (row : Row) (s : ℕ) where
  abbrev pub m_of : ℕ
  m_of = (s - 1) % 2

  abbrev pub i_of : ℕ
  i_of = (s - 1) / (2 * row.k2)

  abbrev pub j_of : ℕ
  j_of = (s - 1) / 2 - i_of * row.k2

  abbrev pub t_of : ℕ
  t_of = (19 * i_of + 1) % (row.k1 / 2)

  -- p of q, which is t mod 8 + 1
  abbrev pub p_of : ℕ
  p_of = prime row (t_of % 8)

  abbrev pub c_of : ℕ
  c_of = (p_of * j_of + 21 * m_of) % row.k2

  pub position-steps : position row s ≡ 2 * (t_of + c_of * (row.k1 / 2) + 1) - m_of
  unfolding position
  position-steps = let less : t_of % 8 + 1 - 1 ≡ t_of % 8 = omega arith in rw less
