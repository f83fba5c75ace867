-- A datagram as bits: first byte first, most significant bit first (document 01, "What the module does").
use Rattle.std.specs.Prelude.{Bool, false, List, [], ◌∷◌, ◌++◌, ℕ, zero, suc, ltb, take, drop, replicate}
use Rattle.lists.specs.Every.{every}
use Rattle.bits.specs.Row.{high_first, number}

-- every element is a byte
abbrev pub all_bytes : List ℕ → Bool
all_bytes datagram = every (λ x. ltb x 256) datagram

unfoldable pub bits_of : List ℕ → List Bool
bits_of [] = []
bits_of (b ∷ datagram) = high_first 8 b ++ bits_of datagram

-- n bits of a row, zero bits behind its end
unfoldable pub filled : ℕ → List Bool → List Bool
filled n row = take n (row ++ replicate n false)

-- the m bytes that a row begins with
unfoldable pub as_bytes : ℕ → List Bool → List ℕ
as_bytes zero row = []
as_bytes (suc m) row = number (take 8 row) ∷ as_bytes m (drop 8 row)
