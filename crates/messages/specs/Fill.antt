-- Fill (document 02, K1; M.2092-1, Annex 4, 4.9, Table 50): where a type could stand, a byte 81 is fill and is passed over alone, and a
-- byte 0 begins the zero fill.
use Rattle.std.specs.Prelude.{Bool, List, ℕ, eqb}
use Rattle.lists.specs.Every.{every}

abbrev pub is_fill : ℕ → Bool
is_fill b = eqb b 81

abbrev pub is_zero : ℕ → Bool
is_zero b = eqb b 0

-- only zeros from here on
abbrev pub only_zeros : List ℕ → Bool
only_zeros left = every is_zero left
