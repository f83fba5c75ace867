-- Bits travel one to a byte, with the byte 0 or 1 (document 01, "What the module does"): the two maps at that boundary.
use Rattle.std.specs.Prelude.{Bool, true, false, not, List, ℕ, eqb, leb}
use Rattle.lists.specs.Every.{every}

-- the bit that a byte holds
abbrev pub is_one : ℕ → Bool
is_one n = eqb n 1

-- the byte that holds a bit
abbrev pub byte : Bool → ℕ
byte true = 1
byte false = 0

-- every byte is 0 or 1
abbrev pub all_bits : List ℕ → Bool
all_bits bytes = every (λ x. leb x 1) bytes

-- every bit is 0
unfoldable pub all_zero : List Bool → Bool
all_zero row = every not row
