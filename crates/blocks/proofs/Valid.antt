-- What a valid block is, part by part.
-- Assumes nothing.
use mathlib.Core.Path.{◌≡◌}
use mathlib.Core.Bool.{Bool, true, ◌&&◌}
use mathlib.Core.List.{List}
use lib.Dec.{eqb}
use lib.ListN.{length}
use borrow.Author.Tests.{eqb-true, eq-eqb}
use Rattle.lists.proofs.Tests.{both_true}
use Rattle.bits.specs.Bits.{all_zero}
use Rattle.check32.specs.Check.{register}
use Rattle.check32.specs.Working.Closes.{Closes}
use Rattle.links.specs.declared.Row.{Row}
use Rattle.blocks.specs.Near.{bits_over, valid, Valid}

pub valid-from : (row : Row) (u : List Bool) → length u ≡ row.k → Closes u → all_zero (bits_over row u) ≡ true → Valid row u
unfolding valid
valid-from row u l e z = simp (eq-eqb (length u) row.k l, eq-eqb (register u) 0 e, z)

module _ (row : Row) (u : List Bool) (v : Valid row u) where
  parts : (eqb (length u) row.k ≡ true) × ((eqb (register u) 0 && all_zero (bits_over row u)) ≡ true)
  unfolding valid
  parts = both_true (eqb (length u) row.k) (eqb (register u) 0 && all_zero (bits_over row u)) v

  pub valid-length : length u ≡ row.k
  valid-length = eqb-true (length u) row.k parts.0

  pub valid-closes : Closes u
  valid-closes = eqb-true (register u) 0 (both_true (eqb (register u) 0) (all_zero (bits_over row u)) parts.1).0

  pub valid-over : all_zero (bits_over row u) ≡ true
  valid-over = (both_true (eqb (register u) 0) (all_zero (bits_over row u)) parts.1).1
