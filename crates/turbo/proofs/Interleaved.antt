-- The second encoder's inputs are k.
-- Assumes nothing.
use mathlib.Core.Path.{◌≡◌, refl, ap}
use mathlib.Core.Bool.{Bool}
use mathlib.Core.List.{List}
use Prim.Native.Nat.{ℕ, zero, suc}
use lib.ListN.{length}
use Rattle.links.specs.declared.Row.{Row}
use Rattle.turbo.specs.Interleaver.{interleaved_from, interleaved}

pub length_from : (row : Row) (u : List Bool) (s n : ℕ) → length (interleaved_from row u s n) ≡ n
unfolding interleaved_from
length_from row u s zero = refl
length_from row u s (suc n) = ap suc (length_from row u (suc s) n)

pub length-interleaved : (row : Row) (u : List Bool) → length (interleaved row u) ≡ row.k
length-interleaved row u = length_from row u 1 row.k
