-- The rows of a number's set bits, added one after another.
-- Assumes nothing.
use mathlib.Core.Path.{◌≡◌}
use mathlib.Core.List.{List, ◌∷◌}
use Prim.Native.Nat.{ℕ, ◌/◌, ◌%◌, ◌^◌}
use lib.Bits.{bit_xor}
use lib.ListN.{length}
use borrow.Author.Tests.{eq-eqb, ne_eqb}
use Rattle.words.specs.Word.{with_rows}

module _ (n word row : ℕ) (rows : List ℕ) where
  pub row_set : n / 2 ^ length rows % 2 ≡ 1 → with_rows n word (row ∷ rows) ≡ with_rows n (bit_xor word row) rows
  unfolding with_rows
  row_set e = rw (eq-eqb (n / 2 ^ length rows % 2) 1 e)

  pub row_clear : (n / 2 ^ length rows % 2 ≡ 1 → ⊥) → with_rows n word (row ∷ rows) ≡ with_rows n word rows
  unfolding with_rows
  row_clear e = rw (ne_eqb (n / 2 ^ length rows % 2) 1 e)
